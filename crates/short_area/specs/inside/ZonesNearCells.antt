-- zones near cells, and the labels that they have there
use Rattle.std.specs.Prelude.{ℤ, pos, ℕ, List, Option, Some, None, Contains, All, ◌+ℤ◌, ◌-ℤ◌, ◌≢◌, ◌≡◌, ◌⊎◌, ◌↔◌, ◌<◌, ◌^◌}
use Rattle.geo_core.specs.Plane.{Has, IsIn, IsInUnion, Overlap}
use Rattle.geo_core.specs.declared.plane.Cell.{Cell}
use Rattle.geo_core.specs.declared.plane.Labelled.{Labelled}
use Rattle.geo_core.specs.declared.plane.Rect.{Rect}
use Rattle.short_area.specs.Zones.{IsInLabel, IsInTwoLabels}

-- the number is at most the radius from one of those from `low` to before `high`
abbrev pub IsNearPlaces : ℤ → ℤ → ℕ → ℤ → Type 0
IsNearPlaces low high radius x = IsIn (low -ℤ pos radius) (high +ℤ pos radius) x

-- the rectangle is near the cell's column and near its row
pub record IsNearCell (rect : Rect) (radius : ℕ) (c : Cell) : Type 0 where
  pub across : IsNearPlaces rect.x0 rect.x1 radius c.i
  pub up : IsNearPlaces rect.y0 rect.y1 radius c.j

-- the cell lies in the rectangle, where there is one
abbrev pub IsInside : Option Rect → Cell → Type 0
IsInside None c = ⊥
IsInside (Some rect) c = Has rect c

-- a zone of another label has the cell
pub record IsInOthers (zones : List Labelled) (label : ℕ) (c : Cell) : Type 0 where
  pub other : ℕ
  pub in_other : IsInLabel zones other c
  pub different : label ≢ other

-- the list gains a zone with this label, where there is a rectangle
abbrev pub GainsZone : List Labelled → List Labelled → Option Rect → ℕ → Type 0
GainsZone old new rect label =
    (c : Cell) (which : ℕ) → IsInLabel new which c ↔ (IsInLabel old which c ⊎ ((label ≡ which) × IsInside rect c))

-- each cell of the window lies in a zone of this label
abbrev pub IsWholeIn : Rect → List Labelled → ℕ → Type 0
IsWholeIn window zones label = (c : Cell) → Has window c → IsInLabel zones label c

-- the rectangles of the zones with this label, and those of the others
pub record AreSplit (zones : List Labelled) (label : ℕ) (own others : List Rect) : Type 0 where
  pub own_cells : (c : Cell) → IsInUnion own c ↔ IsInLabel zones label c
  pub other_cells : (c : Cell) → IsInUnion others c ↔ IsInOthers zones label c

-- the zones have no labels but these
abbrev pub HaveNoThird : List Labelled → ℕ → ℕ → Type 0
HaveNoThird zones one other = All (λ (zone : Labelled). one ≢ zone.label → zone.label ≡ other) zones

-- a zone of another label has a cell in common with this one
pub record MeetsOther (zones : List Labelled) (zone : Labelled) : Type 0 where
  pub other : Labelled
  pub among : Contains zones other
  pub different : other.label ≢ zone.label
  pub overlap : Overlap other.rect zone.rect

-- the two lists of zones have two labels at the same cells
abbrev pub HaveSameTwo : List Labelled → List Labelled → Type 0
HaveSameTwo zones kept = (c : Cell) → IsInTwoLabels kept c ↔ IsInTwoLabels zones c
