-- degrees: how many ends of pairs a number is
use Rattle.std.specs.Prelude.{ℕ, List, [], ◌∷◌, length, sum, slice_index, nat_eq, if◌then◌else◌, ◌+◌, ◌≡◌, ◌<◌}

-- 1 where the numbers are equal, and 0 where they differ
abbrev pub match_count : ℕ → ℕ → ℕ
match_count k a = if nat_eq k a then 1 else 0

-- how many ends of the pairs the number is: two of a pair with itself
abbrev pub degree_of : ℕ → List (ℕ × ℕ) → ℕ
degree_of k [] = 0
degree_of k (p ∷ ps) = match_count k p.0 + match_count k p.1 + degree_of k ps

-- the degrees of the numbers below n, of which each pair adds two
pub record AreDegrees (n : ℕ) (pairs : List (ℕ × ℕ)) (degrees : List ℕ) : Type 0 where
  pub one_each : length degrees ≡ n
  pub counted : (k : ℕ) → k < n → slice_index degrees k ≡ degree_of k pairs
  pub total : sum degrees ≡ length pairs + length pairs
