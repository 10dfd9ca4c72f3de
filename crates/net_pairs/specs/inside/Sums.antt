-- cells by pairs of labels: a list of items, each with the one label, the other one, and so many cells. Several items of one pair add up.
use Rattle.std.specs.Prelude.{ℕ, List, [], ◌∷◌, ◌++◌, All, AllPairs, sum_by, if◌then◌else◌, ◌==◌, ◌&&◌, ◌%◌, ◌<◌, ◌≤◌, ◌^◌, ◌≡◌, ◌⊎◌}
use Rattle.net_pairs.specs.Pairs.{IsBefore}
use Rattle.net_pairs.specs.inside.SameRests.{HaveOneRest}

-- the cells of the item, where it is one of this pair of labels
abbrev pub cells_if : ℕ → ℕ → ℕ × ℕ × ℕ → ℕ
cells_if one other item = if item.0 == one && item.1 == other then item.2 else 0

-- the cells that a list has of a pair of labels
abbrev pub cells_for : ℕ → ℕ → List (ℕ × ℕ × ℕ) → ℕ
cells_for one other items = sum_by (cells_if one other) items

-- two lists have the same cells of each pair, in 64 bits
abbrev pub AreAlike : List (ℕ × ℕ × ℕ) → List (ℕ × ℕ × ℕ) → Type 0
AreAlike items others = (one other : ℕ) → HaveOneRest (cells_for one other others) (cells_for one other items)

-- the pair of the one item comes no later than that of the other
abbrev pub IsNoLater : ℕ × ℕ × ℕ → ℕ × ℕ × ℕ → Type 0
IsNoLater p q = (p.0 < q.0) ⊎ ((p.0 ≡ q.0) × (p.1 ≤ q.1))

-- the items are of one pair
abbrev pub AreOfOnePair : ℕ × ℕ × ℕ → ℕ × ℕ × ℕ → Type 0
AreOfOnePair p q = (p.0 ≡ q.0) × (p.1 ≡ q.1)

-- a list gains the item, where it has cells, as many as 64 bits hold
abbrev pub GainsSome : List (ℕ × ℕ × ℕ) → List (ℕ × ℕ × ℕ) → ℕ × ℕ × ℕ → Type 0
GainsSome old new item = ((0 < item.2) × (item.2 < 2 ^ 64) × (new ≡ old ++ item ∷ [])) ⊎ ((item.2 ≡ 0) × (new ≡ old))

-- each pair that has cells has one item, with all of them, in 64 bits, and the pairs rise
pub record AreSumsOf (items sums : List (ℕ × ℕ × ℕ)) : Type 0 where
  pub same : (one other : ℕ) → cells_for one other sums ≡ cells_for one other items % 2 ^ 64
  pub rising : AllPairs IsBefore sums
  pub some : All (λ (item : ℕ × ℕ × ℕ). 0 < item.2) sums
