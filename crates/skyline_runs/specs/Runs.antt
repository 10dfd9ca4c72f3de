-- lists of rectangles that have the same cells, and that have none in common
use Rattle.std.specs.Prelude.{ℕ, List, AllPairs, ◌<◌, ◌≤ℤ◌, ◌↔◌}
use Rattle.geo_core.specs.Plane.{Has, Overlap, HasNumber, IsInUnion}
use Rattle.geo_core.specs.declared.plane.Cell.{Cell}
use Rattle.geo_core.specs.declared.plane.Rect.{Rect}

-- no two rectangles of the list have a cell in common
abbrev pub AreApart : List Rect → Type 0
AreApart rects = AllPairs (λ a b. Overlap a b → ⊥) rects

-- the rectangles of the one list have the cells of the other list together
abbrev pub HaveSameCells : List Rect → List Rect → Type 0
HaveSameCells rects runs = (c : Cell) → IsInUnion runs c ↔ IsInUnion rects c

-- the cell lies in two rectangles of the list, by their numbers: equal rectangles are two
pub record IsInTwo (rects : List Rect) (c : Cell) : Type 0 where
  pub first : ℕ
  pub second : ℕ
  pub differ : first < second
  pub one : Rect
  pub other : Rect
  pub one_at : HasNumber rects first one
  pub other_at : HasNumber rects second other
  pub one_has : Has one c
  pub other_has : Has other c

-- the rectangles of the one list have the cells together that lie in two rectangles of the other list
abbrev pub HaveCellsOfTwo : List Rect → List Rect → Type 0
HaveCellsOfTwo rects runs = (c : Cell) → IsInUnion runs c ↔ IsInTwo rects c

-- in the order of their lowest rows
abbrev pub AreByRow : List Rect → Type 0
AreByRow rects = AllPairs (λ a b. a.y0 ≤ℤ b.y0) rects
