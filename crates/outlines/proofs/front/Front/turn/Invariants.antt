use Rattle.outlines.proofs.FrontLaws.{IsTurnedTo}
use Rattle.outlines.proofs.front.Front.turn.Given as goal

abbrev pub invariant-loop-number : goal.invariant-loop-number
invariant-loop-number l = IsTurnedTo l.low l.high l.by l.row l.first l.last l.number l.initial.self l.self
