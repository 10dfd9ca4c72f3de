use Rattle.std.proofs.Common.{arith}
use Rattle.touch_sweep.proofs.TreeSteps.{at_itself, one_on}
use Rattle.touch_sweep.proofs.spanning_forest.root.Goals as goal

pub loop-parents-init : goal.loop-parents-init
loop-parents-init c = record { down = c.requires.down; below = c.requires.number; joined = at_itself c.args.parents.now c.args.number }

pub loop-parents-preserved : goal.loop-parents-preserved
loop-parents-preserved c = record {
  down = c.shorten-here.ensures.down;
  below = let less = c.shorten-here.ensures.less in let so_far = c.loop-parents.invariant.below in omega arith;
  joined = one_on c.loop-parents.invariant.joined c.shorten-here.ensures.joined;
}
