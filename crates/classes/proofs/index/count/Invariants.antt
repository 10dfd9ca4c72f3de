use Rattle.std.proofs.Common.{ℕ, ◌≡◌, ◌+◌, ◌<◌, length, sum, get_or, drop}
use Rattle.classes.specs.inside.Degrees.{degree_of}
use Rattle.classes.proofs.index.count.Given as goal

abbrev pub invariant-loop-a : goal.invariant-loop-a
invariant-loop-a l = record {
  counted : (k : ℕ) → k < length l.degrees → get_or l.degrees k 0 + degree_of k (drop l.a-index l.pairs) ≡ degree_of k l.pairs;
  total : sum l.degrees ≡ l.a-index + l.a-index;
}
