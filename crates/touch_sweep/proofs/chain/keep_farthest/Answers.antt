use Rattle.touch_sweep.proofs.FarthestSteps.{farthest_kept}
use Rattle.touch_sweep.proofs.chain.keep_farthest.Goals as goal

pub returns-clause-farthest : goal.returns-clause-farthest
returns-clause-farthest c = rw (c.in_ok-push.ensures.items, c.clear.ensures.items) (farthest_kept c.args.entries.now.items c.in-Some.farthest (rw c.deref.ensures.value at c.in-Some.ensures.some))
