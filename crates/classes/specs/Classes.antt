-- pairs of numbers, the chains that they make, and the least number of each class
use Rattle.std.specs.Prelude.{ℕ, List, All, Contains, Some, length, slice_get, ◌≡◌, ◌<◌, ◌≤◌, ◌⊎◌}
use Rattle.paths.specs.Paths.{Path}

-- the pairs are of numbers below n
abbrev pub AreBelow : ℕ → List (ℕ × ℕ) → Type 0
AreBelow n pairs = All (λ p. (p.0 < n) × (p.1 < n)) pairs

-- the list has the two numbers as a pair, in one order or the other
abbrev pub IsPair : List (ℕ × ℕ) → ℕ → ℕ → Type 0
IsPair pairs a b = Contains pairs (a, b) ⊎ Contains pairs (b, a)

-- a chain of numbers below n leads from the one to the other, any two in a row being a pair
abbrev pub AreJoined : ℕ → List (ℕ × ℕ) → ℕ → ℕ → Type 0
AreJoined n pairs = Path (λ k. k < n) (IsPair pairs)

-- the class of each number below n is joined to it, and no lesser number is
pub record IsClasses (n : ℕ) (pairs : List (ℕ × ℕ)) (classes : List ℕ) : Type 0 where
  pub one_each : length classes ≡ n
  pub joined : (k m : ℕ) → slice_get classes k ≡ Some m → AreJoined n pairs m k
  pub least : (k m j : ℕ) → slice_get classes k ≡ Some m → AreJoined n pairs j k → m ≤ j
