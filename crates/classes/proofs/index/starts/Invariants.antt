use Rattle.std.proofs.Common.{ℕ, ◌≡◌, ◌+◌, ◌≤◌, length, sum, get_or, take}
use Rattle.classes.proofs.index.starts.Given as goal

abbrev pub invariant-loop-degree : goal.invariant-loop-degree
invariant-loop-degree l = record {
  total : l.total ≡ sum (take l.degree-index l.degrees);
  one_each : length l.starts.items ≡ l.degree-index;
  summed : (k : ℕ) → k + 1 ≤ l.degree-index → get_or l.starts.items k 0 ≡ sum (take k l.degrees);
}
