use Rattle.touch_sweep.proofs.FarthestSteps.{IsFarthestYet}
use Rattle.touch_sweep.proofs.chain.farthest.Given as goal

abbrev pub invariant-loop-entry : goal.invariant-loop-entry
invariant-loop-entry l = IsFarthestYet l.entries l.initial.farthest l.later l.entry-index l.farthest
