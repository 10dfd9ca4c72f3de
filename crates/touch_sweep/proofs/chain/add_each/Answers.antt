use Rattle.std.proofs.Common.{arith}
use Rattle.touch_sweep.proofs.SweepSteps.{none_yet, one_more, all_others}
use Rattle.touch_sweep.proofs.chain.add_each.Goals as goal

pub loop-other-init : goal.loop-other-init
loop-other-init c = record { found = none_yet c.args.one c.args.others.now c.args.pairs.now.items; few = omega arith }

pub loop-other-preserved : goal.loop-other-preserved
loop-other-preserved c = record {
  found = one_more c.args.one c.args.others.now c.loop-other.other-index c.other-item.result _ _ _ (omega arith) c.other-item.is c.loop-other.invariant.found c.in_ok-add.ensures.found;
  few = let so_far = c.loop-other.invariant.few in let one = c.in_ok-add.ensures.few in omega arith;
}

pub returns-clause-found : goal.returns-clause-found
returns-clause-found c = all_others c.args.one c.args.others.now c.loop-other.other-index _ _ (omega arith) c.loop-other.invariant.found

pub returns-clause-few : goal.returns-clause-few
returns-clause-few c = let so_far = c.loop-other.invariant.few in omega arith
