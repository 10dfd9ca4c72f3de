use Rattle.std.proofs.Common.{ℕ, ◌-◌, ◌≡◌, ◌^◌, ◌≤◌}
use Rattle.cover_tree.proofs.columns.height_for.Given as goal

abbrev pub invariant-loop-leaves : goal.invariant-loop-leaves
invariant-loop-leaves l = record {
  power : l.leaves ≡ 2 ^ l.height;
  small : l.leaves ≤ 2 ^ 61;
  least : (other : ℕ) → l.columns ≤ 2 ^ other → l.height ≤ other;
}

abbrev pub decreases-loop-leaves : goal.decreases-loop-leaves
decreases-loop-leaves l = l.columns - l.leaves
