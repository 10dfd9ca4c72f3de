use Rattle.std.proofs.Common.{All, take}
use Rattle.area_calls.specs.OnPieces.{IsSpotOnPieces}
use Rattle.area_calls.proofs.spotted.are_on.Given as goal

abbrev pub invariant-loop-spot : goal.invariant-loop-spot
invariant-loop-spot l = All (IsSpotOnPieces l.pieces) (take l.spot-index l.spots)
