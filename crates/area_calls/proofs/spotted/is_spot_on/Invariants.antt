use Rattle.std.proofs.Common.{All, take}
use Rattle.area_calls.specs.OnPieces.{IsOnPieces}
use Rattle.area_calls.proofs.spotted.is_spot_on.Given as goal

abbrev pub invariant-loop-rect : goal.invariant-loop-rect
invariant-loop-rect l = All (IsOnPieces l.pieces) (take l.rect-index l.rect-items)
