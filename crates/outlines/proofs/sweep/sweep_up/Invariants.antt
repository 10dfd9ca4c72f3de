use Rattle.outlines.proofs.SweepLaws.{IsSweptTo}
use Rattle.outlines.proofs.sweep.sweep_up.Given as goal

abbrev pub invariant-loop-turn : goal.invariant-loop-turn
invariant-loop-turn l = IsSweptTo l.turns l.turn-index l.row l.column l.by l.front
