use Rattle.std.proofs.Common.{take}
use Rattle.near_index.specs.inside.TwoLeast.{AddsNearest}
use Rattle.near_index.proofs.index.search.with_each.Given as goal

abbrev pub invariant-loop-piece : goal.invariant-loop-piece
invariant-loop-piece l = AddsNearest l.cell (take l.piece-index l.pieces) l.fn.nearest l.found
