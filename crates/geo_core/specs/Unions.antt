-- which cells lists of rectangles have
use Rattle.std.specs.Prelude.{ℕ, List, [], Some, ◌≡◌, slice_get, slice_index_or}
use Rattle.geo_core.specs.Cells.{Has}
use Rattle.geo_core.specs.declared.plane.Cell.{Cell}
use Rattle.geo_core.specs.declared.plane.Rect.{Rect}

-- the rectangle stands in the list under the number `k`, counted from 0
abbrev pub HasNumber : List Rect → ℕ → Rect → Type 0
HasNumber rects k rect = slice_get rects k ≡ Some rect

-- the cell lies in the union of the rectangles
pub record IsInUnion (rects : List Rect) (c : Cell) : Type 0 where
  pub number : ℕ
  pub rect : Rect
  pub at : HasNumber rects number rect
  pub has : Has rect c

-- the cell lies in a rectangle of the list with this number; there is no list past the last
abbrev pub IsCoveredIn : List (List Rect) → ℕ → Cell → Type 0
IsCoveredIn lists number = IsInUnion (slice_index_or lists number [])
