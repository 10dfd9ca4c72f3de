use Rattle.classes.proofs.FillSteps.{FilledTo}
use Rattle.classes.proofs.index.fill.Given as goal

abbrev pub invariant-loop-a : goal.invariant-loop-a
invariant-loop-a l = FilledTo l.pairs l.a-index l.fn.next l.next l.neighbours
