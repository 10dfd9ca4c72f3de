use Rattle.std.proofs.Common.{take}
use Rattle.near_index.specs.inside.Gaining.{GainsNear}
use Rattle.near_index.proofs.nearby.add_near.Given as goal

abbrev pub invariant-loop-piece : goal.invariant-loop-piece
invariant-loop-piece g l = GainsNear g.T.Rectangular.rect_of l.tile l.reach (take l.piece-index l.pieces) l.initial.found.items l.found.items
