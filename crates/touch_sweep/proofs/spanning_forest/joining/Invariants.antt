use Rattle.std.proofs.Common.{ℕ, ◌≤◌, Contains, length}
use Rattle.touch_sweep.proofs.TreeSteps.{JoinsFirst}
use Rattle.touch_sweep.specs.inside.Trees.{AreJoinedUp, GoDown}
use Rattle.touch_sweep.proofs.spanning_forest.joining.Given as goal

abbrev pub invariant-loop-a : goal.invariant-loop-a
invariant-loop-a l = record {
  down : GoDown l.parents;
  trees : AreJoinedUp l.kept.items l.parents;
  among : (p : ℕ × ℕ) → Contains l.kept.items p → Contains l.pairs p;
  joined : JoinsFirst l.pairs l.a-index l.kept.items;
  few : length l.kept.items ≤ l.a-index;
}
