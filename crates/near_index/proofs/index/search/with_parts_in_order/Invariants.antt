use Rattle.std.proofs.Common.{take}
use Rattle.lists.proofs.Words.{flat_map}
use Rattle.near_index.specs.inside.TwoLeast.{AddsNearest}
use Rattle.near_index.proofs.index.search.with_parts_in_order.Given as goal

abbrev pub invariant-loop-part : goal.invariant-loop-part
invariant-loop-part g l = AddsNearest l.cell (flat_map g.P.Part.pieces_of (take l.part-index l.parts)) l.fn.nearest l.found
