-- trees of numbers, each of which hangs on itself or on a lesser one, and pairs that join the numbers of a tree
use Rattle.std.specs.Prelude.{ℕ, List, Contains, length, slice_index, ◌+◌, ◌≡◌, ◌<◌, ◌≤◌, ◌⊎◌}
use Rattle.touch_sweep.specs.inside.Chains.{IsLinked}

-- no number hangs on a greater one
abbrev pub GoDown : List ℕ → Type 0
GoDown parents = (k : ℕ) → k < length parents → slice_index parents k ≤ k

-- the pairs join each number with the one on which it hangs
abbrev pub AreJoinedUp : List (ℕ × ℕ) → List ℕ → Type 0
AreJoinedUp pairs parents = (k : ℕ) → k < length parents → IsLinked pairs k (slice_index parents k)

-- pairs that join the numbers of each old tree join those of each new one, and these two numbers
pub record JoinsStill (old new : List ℕ) (a b : ℕ) : Type 0 where
  pub trees : (pairs : List (ℕ × ℕ)) → AreJoinedUp pairs old → AreJoinedUp pairs new
  pub linked : (pairs : List (ℕ × ℕ)) → AreJoinedUp pairs old → IsLinked pairs a b

-- a list of pairs joins the numbers of this pair and of each tree, and has gained this pair at most
pub record KeepsOne (pair : ℕ × ℕ) (old new : List (ℕ × ℕ)) (parents : List ℕ) : Type 0 where
  pub down : GoDown parents
  pub trees : AreJoinedUp new parents
  pub linked : IsLinked new pair.0 pair.1
  pub kept : (p : ℕ × ℕ) → Contains old p → Contains new p
  pub none_else : (p : ℕ × ℕ) → Contains new p → Contains old p ⊎ (pair ≡ p)
  pub few : length new ≤ length old + 1
