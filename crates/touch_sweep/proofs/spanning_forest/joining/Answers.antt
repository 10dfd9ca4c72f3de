use Rattle.std.proofs.Common.{arith, refl}
use Rattle.touch_sweep.proofs.TreeSteps.{all_joined, one_more_among, one_more_joined}
use Rattle.touch_sweep.proofs.spanning_forest.joining.Goals as goal

pub loop-a-preserved : goal.loop-a-preserved
loop-a-preserved c =
    let so_far = c.loop-a.invariant in let kept = c.in_ok-keep.ensures in record {
      down = kept.down;
      trees = kept.trees;
      among = one_more_among c.args.pairs.now c.loop-a.a-index _ _ _ _ c.loop-a-test.true refl kept so_far.among;
      joined = one_more_joined c.args.pairs.now c.loop-a.a-index _ _ _ _ c.loop-a-test.true refl kept so_far.joined;
      few = let few = kept.few in let fewer = so_far.few in omega arith;
    }

pub returns-clause-joined : goal.returns-clause-joined
returns-clause-joined c = all_joined c.args.pairs.now c.loop-a.a-index _ (omega arith) c.loop-a.invariant.among c.loop-a.invariant.joined
