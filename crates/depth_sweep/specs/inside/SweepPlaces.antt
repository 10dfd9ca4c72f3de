-- places between which columns lie
use Rattle.std.specs.Prelude.{ℕ, suc, ◌<◌, ◌≡◌, ℤ, List, [], ◌∷◌, length, Contains}
use Rattle.std.specs.Int.{int_max, int_min}
use Rattle.geo_core.specs.Plane.{IsIn}
use Rattle.geo_core.specs.declared.plane.Rect.{Rect}
use Rattle.cover_tree.specs.Columns.{AreRising, place_at}
use Rattle.depth_sweep.specs.RectSides.{IsSideOf}

-- the number from `low` to `high` that is nearest to this one
abbrev pub moved : ℤ → ℤ → ℤ → ℤ
moved low high x = int_max low (int_min x high)

-- the left and the right side of the rectangle, moved into the window
abbrev pub moved_sides : Rect → Rect → List ℤ
moved_sides window rect = moved window.x0 window.x1 rect.x0 ∷ moved window.x0 window.x1 rect.x1 ∷ []

-- this is a side of a rectangle of the list, moved into the window
pub record IsMovedSide (window : Rect) (rects : List Rect) (place : ℤ) : Type 0 where
  pub side : ℤ
  pub of : IsSideOf rects side
  pub is : place ≡ moved window.x0 window.x1 side

-- the places are the moved sides of the rectangles, from left to right and each once
pub record ArePlaces (window : Rect) (rects : List Rect) (places : List ℤ) : Type 0 where
  pub rising : AreRising places
  pub only : (place : ℤ) → Contains places place → IsMovedSide window rects place
  pub all : (side : ℤ) → IsSideOf rects side → Contains places (moved window.x0 window.x1 side)

-- the number lies in the column
pub record IsInColumn (places : List ℤ) (column : ℕ) (x : ℤ) : Type 0 where
  pub among : suc column < length places
  pub in_it : IsIn (place_at places column) (place_at places (suc column)) x
