-- corners: where in a row of a window a label begins to be covered more often, or less, than in the row below
use Rattle.std.specs.Prelude.{ℕ, ℤ, List, [], ◌∷◌, All, sum_by, if◌then◌else◌, int_le, int_lt, ◌==◌, ◌&&◌, ◌+◌, ◌-◌, ◌^◌, ◌+ℤ◌, ◌≡◌, ◌↔◌, pos}
use Rattle.std.specs.Ordering.{int_eq}
use Rattle.geo_core.specs.Plane.{Has, IsIn}
use Rattle.geo_core.specs.declared.plane.Cell.{Cell}
use Rattle.geo_core.specs.declared.plane.Labelled.{Labelled}
use Rattle.geo_core.specs.declared.plane.Rect.{Rect}
use Rattle.net_pairs.specs.declared.corners.Corner.{Corner}
use Rattle.net_pairs.specs.declared.weighted.Weighted.{Weighted}
use Rattle.net_pairs.specs.inside.RowChanges.{IsChangeIn, below, count_in, weight_at}
use Rattle.net_pairs.specs.inside.SameRests.{HaveOneRest}

-- what the corner gains at the cell: it has this label and row, and its column lies no farther to the right
abbrev pub gain_at : ℕ → Cell → Corner → ℕ
gain_at label c corner = if corner.label == label && (int_eq corner.row c.j && int_le corner.column c.i) then corner.gain else 0

-- what all corners gain at the cell
abbrev pub gained : List Corner → ℕ → Cell → ℕ
gained corners label c = sum_by (gain_at label c) corners

-- at each cell a label is covered as often as in the row below, and as corners gain, in 64 bits
pub record AreCornersOf (window : Rect) (rects : List Labelled) (corners : List Corner) : Type 0 where
  pub change : (label : ℕ) (c : Cell)
      → HaveOneRest (count_in window rects label c) (count_in window rects label (below c) + gained corners label c)

-- two lists gain the same at each cell
abbrev pub GainAlike : List Corner → List Corner → Type 0
GainAlike corners others = (label : ℕ) (c : Cell) → HaveOneRest (gained others label c) (gained corners label c)

-- a list gains the corners of one rectangle
pub record GainsCorners (window : Rect) (one : Labelled) (old new : List Corner) : Type 0 where
  pub change : (label : ℕ) (c : Cell)
      → HaveOneRest (count_in window (one ∷ []) label c + gained old label c) (count_in window (one ∷ []) label (below c) + gained new label c)

-- a list gains this corner
abbrev pub GainsCorner : Corner → List Corner → List Corner → Type 0
GainsCorner corner old new = (label : ℕ) (c : Cell) → gained new label c ≡ gained old label c + gain_at label c corner

-- the corners stand at one place, for one label
abbrev pub AreOfOnePlace : Corner → Corner → Type 0
AreOfOnePlace a b = (a.label ≡ b.label) × (a.row ≡ b.row) × (a.column ≡ b.column)

-- the corner of this label in this row and column
abbrev pub corner_at : ℕ → ℤ → ℤ → ℕ → Corner
corner_at label row column gain = record { label = label; row = row; column = column; gain = gain }

-- the corners of a rectangle: it begins in its lowest row and ends in the row above its uppermost one, from its first column up to the
-- one behind its last
abbrev pub rect_corners : ℕ → Rect → List Corner
rect_corners label rect =
    corner_at label rect.y0 rect.x0 1 ∷ corner_at label rect.y0 rect.x1 (2 ^ 64 - 1) ∷
    corner_at label rect.y1 rect.x0 (2 ^ 64 - 1) ∷ corner_at label rect.y1 rect.x1 1 ∷ []

-- ---- stretches of a row, from corner to corner

-- the cell lies in this row of the window, from the first column to before the end
pub record IsInRowPart (window : Rect) (row first end : ℤ) (c : Cell) : Type 0 where
  pub has : Has window c
  pub level : c.j ≡ row
  pub across : IsIn first end c.i

-- the rectangle is one row high and has these cells
pub record IsRowPart (window : Rect) (row first end : ℤ) (rect : Rect) : Type 0 where
  pub level : rect.y1 ≡ rect.y0 +ℤ pos 1
  pub cells : (c : Cell) → Has rect c ↔ IsInRowPart window row first end c

-- stretches weigh at each cell of the window what corners gain there, in 64 bits
pub record AreStretchesOf (window : Rect) (corners : List Corner) (changes : List Weighted) : Type 0 where
  pub weight : (label : ℕ) (c : Cell) → Has window c → HaveOneRest (weight_at changes label c) (gained corners label c)
  pub within : All (IsChangeIn window) changes

-- what the corner gains at the cell, where it lies before the end
abbrev pub gain_before : ℤ → ℕ → Cell → Corner → ℕ
gain_before end label c corner = if int_lt c.i end then gain_at label c corner else 0

-- a list gains the stretch from the corner to the end
pub record GainsStretch (window : Rect) (corner : Corner) (end : ℤ) (old new : List Weighted) : Type 0 where
  pub weight : (label : ℕ) (c : Cell) → Has window c → weight_at new label c ≡ weight_at old label c + gain_before end label c corner
  pub within : All (IsChangeIn window) old → All (IsChangeIn window) new

-- the last corner gives way to the next one: with what stretches weigh it gains what the last one did and this one does
pub record Follows (window : Rect) (last corner next : Corner) (old new : List Weighted) : Type 0 where
  pub weight : (label : ℕ) (c : Cell) → Has window c
      → HaveOneRest (weight_at new label c + gain_at label c next) (weight_at old label c + gain_at label c last + gain_at label c corner)
  pub within : All (IsChangeIn window) old → All (IsChangeIn window) new
