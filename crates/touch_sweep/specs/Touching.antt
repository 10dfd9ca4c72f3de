-- the rectangles of a list that touch, and those of two lists that meet, as pairs of their numbers
use Rattle.std.specs.Prelude.{ℕ, List, Some, slice_get, ◌<◌, ◌≤◌, ◌≡◌, ◌⊎◌}
use Rattle.geo_core.specs.Plane.{Overlap, Touch}
use Rattle.geo_core.specs.declared.plane.Rect.{Rect}

-- the numbers, counted from 0, of two rectangles of the list that touch, the lesser number first
pub record AreTouching (rects : List Rect) (a b : ℕ) : Type 0 where
  pub lesser : a < b
  pub one : Rect
  pub other : Rect
  pub one_at : slice_get rects a ≡ Some one
  pub other_at : slice_get rects b ≡ Some other
  pub touch : Touch one other

-- the same, where the one is among the first so many rectangles of the list, and the other one behind these
pub record AreTouchingAcross (rects : List Rect) (count : ℕ) (a b : ℕ) : Type 0 where
  pub touching : AreTouching rects a b
  pub before : a < count
  pub behind : count ≤ b

-- the numbers, counted from 0 in each list, of a rectangle of the one list and a rectangle of the other list that have a
-- cell in common
pub record AreMeeting (first second : List Rect) (a b : ℕ) : Type 0 where
  pub one : Rect
  pub other : Rect
  pub one_at : slice_get first a ≡ Some one
  pub other_at : slice_get second b ≡ Some other
  pub overlap : Overlap one other

-- the one pair has the lesser first number, or the same and the lesser second
abbrev pub ComesBefore : ℕ × ℕ → ℕ × ℕ → Type 0
ComesBefore p q = (p.0 < q.0) ⊎ ((p.0 ≡ q.0) × (p.1 < q.1))
