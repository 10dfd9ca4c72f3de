use Rattle.std.proofs.Common.{ℕ, ◌<◌, ◌≡◌, get_or, length}
use Rattle.touch_sweep.proofs.spanning_forest.numbers.Given as goal

abbrev pub invariant-loop-number : goal.invariant-loop-number
invariant-loop-number l = record {
  one_each : length l.parents.items ≡ l.number;
  own : (k : ℕ) → k < l.number → get_or l.parents.items k 0 ≡ k;
}
