-- which fixed boxes get one leader
use Rattle.std.specs.Prelude.{ℕ, List, Some, length, slice_get, Contains, ◌≡◌, ◌≢◌, ◌<◌, ◌⊎◌}
use Rattle.paths.specs.Paths.{Path}
use Rattle.half_boxes.specs.HalfBoxes.{TouchHalves}
use Rattle.remnants.specs.declared.parts.Fixed.{Fixed}
use Rattle.remnants.specs.declared.parts.Mark.{Mark}

-- the boxes with these numbers touch, or the one goes by the number of the other
pub data AreTied (fixed : List Fixed) (a b : ℕ) : Type 0 where
  touch : (one other : Fixed) → slice_get fixed a ≡ Some one → slice_get fixed b ≡ Some other → TouchHalves one.part other.part
      → AreTied fixed a b
  lead : (one : Fixed) → slice_get fixed a ≡ Some one → one.leader ≡ b → AreTied fixed a b

-- a chain of boxes leads from the one to the other, each tied to the next
abbrev pub AreChained : List Fixed → ℕ → ℕ → Type 0
AreChained fixed = Path (λ k. k < length fixed) (λ a b. AreTied fixed a b ⊎ AreTied fixed b a)

-- new leaders: one for each box, the same where boxes are tied, and only where they are chained
pub record AreLeaders (fixed : List Fixed) (leaders : List ℕ) : Type 0 where
  pub one_each : length leaders ≡ length fixed
  pub chained : (a b m : ℕ) → slice_get leaders a ≡ Some m → slice_get leaders b ≡ Some m → AreChained fixed a b
  pub tied : (a b m : ℕ) → AreTied fixed a b → slice_get leaders a ≡ Some m → slice_get leaders b ≡ Some m
  pub itself : (a m : ℕ) → slice_get leaders a ≡ Some m → slice_get leaders m ≡ Some m

-- the boxes with new leaders
pub record AreLedBy (fixed : List Fixed) (leaders : List ℕ) (led : List Fixed) : Type 0 where
  pub as_many : length led ≡ length fixed
  pub each : (k m : ℕ) (one : Fixed) → slice_get fixed k ≡ Some one → slice_get leaders k ≡ Some m →
      slice_get led k ≡ Some (record { part = one.part; leader = m })

-- the mark with its leader's new leader
pub record IsMovedTo (leaders : List ℕ) (old new : Mark) : Type 0 where
  pub same_terminal : new.terminal ≡ old.terminal
  pub moved : slice_get leaders old.leader ≡ Some new.leader

-- the marks with new leaders, in any order
pub record AreMovedTo (leaders : List ℕ) (old new : List Mark) : Type 0 where
  pub each : (mark : Mark) → Contains old mark → (moved : Mark) × Contains new moved × IsMovedTo leaders mark moved
  pub only : (moved : Mark) → Contains new moved → (mark : Mark) × Contains old mark × IsMovedTo leaders mark moved

-- the pairs, and one of each box and its leader, where this is another one
pub record HasLeads (links : List (ℕ × ℕ)) (fixed : List Fixed) (pairs : List (ℕ × ℕ)) : Type 0 where
  pub kept : (a b : ℕ) → Contains links (a, b) → Contains pairs (a, b)
  pub led : (k : ℕ) (one : Fixed) → slice_get fixed k ≡ Some one → one.leader ≢ k → Contains pairs (k, one.leader)
  pub only : (a b : ℕ) → Contains pairs (a, b) → Contains links (a, b) ⊎
      ((one : Fixed) × (slice_get fixed a ≡ Some one) × (one.leader ≡ b))
