use Rattle.std.proofs.Common.{◌<◌, length}
use Rattle.touch_sweep.specs.inside.Trees.{GoDown, JoinsStill}
use Rattle.touch_sweep.proofs.spanning_forest.root.Given as goal

abbrev pub invariant-loop-parents : goal.invariant-loop-parents
invariant-loop-parents l = record {
  down : GoDown l.parents;
  below : l.here < length l.fn.parents;
  joined : JoinsStill l.fn.parents l.parents l.fn.number l.here;
}

abbrev pub decreases-loop-parents : goal.decreases-loop-parents
decreases-loop-parents l = l.here
