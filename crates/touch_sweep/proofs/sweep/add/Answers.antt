use Rattle.std.proofs.Common.{refl}
use Rattle.touch_sweep.proofs.SweepSteps.{first_is_lesser, second_is_lesser}
use Rattle.touch_sweep.proofs.sweep.add.Goals as goal

pub returns-in_ok-push-clause-found : goal.returns-in_ok-push-clause-found
returns-in_ok-push-clause-found c = rw c.in_ok-push.ensures.items (first_is_lesser c.args.one c.args.other c.args.pairs.now.items (c.if-not-touches.ensures.0 refl) c.if-one-other.true)

pub returns-in_ok-push-2-clause-found : goal.returns-in_ok-push-2-clause-found
returns-in_ok-push-2-clause-found c = rw c.in_ok-push-2.ensures.items (second_is_lesser c.args.one c.args.other c.args.pairs.now.items (c.if-not-touches.ensures.0 refl) c.if-other-one.true)
