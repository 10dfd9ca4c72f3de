use Rattle.std.proofs.Common.{take}
use Rattle.open_grid.proofs.ArcLaws.{LieOutside}
use Rattle.open_grid.proofs.arcs.are_outside.Given as goal

abbrev pub invariant-loop-one : goal.invariant-loop-one
invariant-loop-one l = LieOutside l.reach (take l.one-index l.boxes)
