use Rattle.std.proofs.Common.{arith}
use Rattle.lists.proofs.Words.{ints}
use Rattle.touch_sweep.proofs.FarthestSteps.{farthest_first, farthest_stays, farthest_next, farthest_found}
use Rattle.touch_sweep.proofs.chain.farthest.Goals as goal
use Rattle.touch_sweep.proofs.chain.farthest.Goals.{then-farthest-entry, else-farthest-entry}

pub loop-entry-init : goal.loop-entry-init
loop-entry-init c = farthest_first _ _ _ c.in_ok-first.ensures.cases.0

pub loop-entry-preserved : goal.loop-entry-preserved
loop-entry-preserved c = elim c.if-farthest-entry.branch [
  | then-farthest-entry w ↦ rw w.farthest-is (farthest_next c.loop-entry.invariant c.entry-item.result c.loop-entry-test.true c.entry-item.is (omega (arith, ints)))
  | else-farthest-entry w ↦ rw w.farthest-is (farthest_stays c.loop-entry.invariant c.entry-item.result c.loop-entry-test.true c.entry-item.is (omega (arith, ints)))
]

pub returns-clause-some : goal.returns-clause-some
returns-clause-some c = farthest_found c.loop-entry.invariant c.loop-entry-test.false
