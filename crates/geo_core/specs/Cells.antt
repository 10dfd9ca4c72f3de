-- the cells of a rectangle
use Rattle.std.specs.Prelude.{ℤ, pos, ◌≡◌, ◌⊎◌}
use Rattle.geo_core.specs.Intervals.{IsIn, IsInterval, IsWithin, Adjoins}
use Rattle.geo_core.specs.declared.plane.Cell.{Cell}
use Rattle.geo_core.specs.declared.plane.Rect.{Rect}

-- the cell lies in the rectangle
pub record Has (rect : Rect) (c : Cell) : Type 0 where
  pub across : IsIn rect.x0 rect.x1 c.i
  pub up : IsIn rect.y0 rect.y1 c.j

-- each edge of the rectangle lies at a coordinate that a layout may have: at most 1,000,000,000 from 0
pub record IsInLayout (rect : Rect) : Type 0 where
  pub across : IsInterval (pos 1000000000) rect.x0 rect.x1
  pub up : IsInterval (pos 1000000000) rect.y0 rect.y1

-- the cells are at most `by` apart in both directions
abbrev pub IsNear : Cell → Cell → ℤ → Type 0
IsNear c d by = IsWithin c.i d.i by × IsWithin c.j d.j by

-- the rectangle has a cell at most `by` from this one
abbrev pub ComesNear : Rect → ℤ → Cell → Type 0
ComesNear rect by c = (d : Cell) × Has rect d × IsNear c d by

-- the rectangles have a cell in common
abbrev pub Overlap : Rect → Rect → Type 0
Overlap a b = (c : Cell) × Has a c × Has b c

-- the cells share an edge
abbrev pub ShareEdge : Cell → Cell → Type 0
ShareEdge c d = ((c.j ≡ d.j) × Adjoins c.i d.i) ⊎ ((c.i ≡ d.i) × Adjoins c.j d.j)

-- the rectangles have a cell in common, or one cell each that share an edge
abbrev pub Touch : Rect → Rect → Type 0
Touch a b = (c d : Cell) × Has a c × Has b d × ((c ≡ d) ⊎ ShareEdge c d)

-- the least rectangle that has the cells of both
pub record IsJoin (a b joined : Rect) : Type 0 where
  pub first : (c : Cell) → Has a c → Has joined c
  pub second : (c : Cell) → Has b c → Has joined c
  pub least : (other : Rect) → ((c : Cell) → Has a c → Has other c) → ((c : Cell) → Has b c → Has other c) →
      (c : Cell) → Has joined c → Has other c
