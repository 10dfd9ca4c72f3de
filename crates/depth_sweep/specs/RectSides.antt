-- the sides of rectangles, and how many steps a count over them takes at most
use Rattle.std.specs.Prelude.{ℕ, ◌+◌, ◌-◌, ◌*◌, ◌≤◌, ◌≡◌, ◌⊎◌, ◌↔◌, ℤ, List, length, Contains}
use Rattle.lists.specs.Differing.{AreDifferent}
use Rattle.geo_core.specs.declared.plane.Rect.{Rect}
use Rattle.cover_tree.specs.TreeNodes.{IsLeastHeight}

-- a rectangle of the list has its left or its right side here
pub record IsSideOf (rects : List Rect) (x : ℤ) : Type 0 where
  pub rect : Rect
  pub among : Contains rects rect
  pub side : (x ≡ rect.x0) ⊎ (x ≡ rect.x1)

-- the numbers are the left and right sides of the rectangles, each once, in any order
pub record AreSidesOf (rects : List Rect) (sides : List ℤ) : Type 0 where
  pub different : AreDifferent sides
  pub all : (x : ℤ) → Contains sides x ↔ IsSideOf rects x

-- from the one number to the other there are at most 32 steps for each rectangle and each level of the least tree that has a
-- column between any two neighbouring sides
abbrev pub IsInStepBound : List Rect → ℕ → ℕ → Type 0
IsInStepBound rects old new = (sides : List ℤ) (height : ℕ) → AreSidesOf rects sides → IsLeastHeight (length sides - 1) height →
    new ≤ old + 32 * length rects * (height + 1)
