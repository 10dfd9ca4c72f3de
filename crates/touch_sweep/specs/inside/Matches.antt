-- which pairs of numbers stand for two entries, and what a list of pairs gains
use Rattle.std.specs.Prelude.{ℕ, ℤ, List, Contains, ◌<◌, ◌≤ℤ◌, ◌≡◌, ◌⊎◌}
use Rattle.geo_core.specs.Plane.{Touch, IsIn}
use Rattle.touch_sweep.specs.declared.numbered.Numbered.{Numbered}

-- the two numbers, which differ, the lesser one first
abbrev pub IsPairOf : ℕ → ℕ → ℕ × ℕ → Type 0
IsPairOf a b p = ((a < b) × (p ≡ (a, b))) ⊎ ((b < a) × (p ≡ (b, a)))

-- the two entries touch, and these are their numbers
pub record IsMatch (one other : Numbered) (p : ℕ × ℕ) : Type 0 where
  pub touch : Touch one.rect other.rect
  pub numbers : IsPairOf one.number other.number p

-- some entry of the list touches this one, and these are their numbers
pub record IsMatchWith (one : Numbered) (others : List Numbered) (p : ℕ × ℕ) : Type 0 where
  pub other : Numbered
  pub among : Contains others other
  pub match : IsMatch one other p

-- two entries, one of each list, touch, and these are their numbers
pub record IsMatchOf (points spans : List Numbered) (p : ℕ × ℕ) : Type 0 where
  pub point : Numbered
  pub among : Contains points point
  pub match : IsMatchWith point spans p

-- the same, where the first one begins in these columns and the second one begins no later
pub record IsMatchFrom (low high : ℤ) (points spans : List Numbered) (p : ℕ × ℕ) : Type 0 where
  pub found : IsMatchOf points spans p
  pub begins : IsIn low high found.point.rect.x0
  pub reached : found.match.other.rect.x0 ≤ℤ found.point.rect.x0

-- a list keeps its pairs, gains all pairs of the one kind, and gains none but of the other kind
pub record Gains (must may : ℕ × ℕ → Type 0) (old new : List (ℕ × ℕ)) : Type 0 where
  pub kept : (p : ℕ × ℕ) → Contains old p → Contains new p
  pub all : (p : ℕ × ℕ) → must p → Contains new p
  pub none_else : (p : ℕ × ℕ) → Contains new p → Contains old p ⊎ may p
