use Rattle.std.proofs.Common.{take}
use Rattle.critical_areas.specs.RoundPieces.{IsRound}
use Rattle.critical_areas.proofs.apart.hull_of.Given as goal

abbrev pub invariant-loop-piece : goal.invariant-loop-piece
invariant-loop-piece l = IsRound l.hull (take l.piece-index l.pieces)
