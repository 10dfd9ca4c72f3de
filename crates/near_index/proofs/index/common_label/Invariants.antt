use Rattle.std.proofs.Common.{◌≡◌, Some, All, take}
use Rattle.near_index.proofs.index.common_label.Given as goal

abbrev pub invariant-loop-piece : goal.invariant-loop-piece
invariant-loop-piece g l = All (λ piece. g.T.Rectangular.label_of piece ≡ Some l.label) (take l.piece-index l.pieces)
