-- zones: the cells of a window that are near a piece. They are a rectangle, which keeps the label of its piece.
use Rattle.std.specs.Prelude.{ℕ, List, Contains, ◌<◌, ◌^◌, ◌≡◌, ◌≢◌, ◌↔◌}
use Rattle.geo_core.specs.Plane.{Has}
use Rattle.geo_core.specs.declared.plane.Cell.{Cell}
use Rattle.geo_core.specs.declared.plane.Labelled.{Labelled}
use Rattle.geo_core.specs.declared.plane.Rect.{Rect}
use Rattle.fault_model.specs.FaultNames.{Tally, cells_of}
use Rattle.short_area.specs.Labels.{TouchesLabel}

-- a zone with this label has the cell
pub record IsInLabel (zones : List Labelled) (label : ℕ) (c : Cell) : Type 0 where
  pub zone : Labelled
  pub among : Contains zones zone
  pub labelled : zone.label ≡ label
  pub has : Has zone.rect c

-- at the cells of the window the zones of a label are where a defect touches a piece of that label
abbrev pub AreZonesOf : List Labelled → ℕ → Rect → List Labelled → Type 0
AreZonesOf pieces radius window zones =
    (c : Cell) → Has window c → (label : ℕ) → IsInLabel zones label c ↔ TouchesLabel pieces radius c label

-- the two lists of zones have the same labels at each cell of the part
abbrev pub AreAlikeIn : Rect → List Labelled → List Labelled → Type 0
AreAlikeIn part zones others = (c : Cell) → Has part c → (label : ℕ) → IsInLabel others label c ↔ IsInLabel zones label c

-- zones of two labels have the cell
pub record IsInTwoLabels (zones : List Labelled) (c : Cell) : Type 0 where
  pub one : ℕ
  pub other : ℕ
  pub in_one : IsInLabel zones one c
  pub in_other : IsInLabel zones other c
  pub different : one ≢ other

-- so many cells of the window lie in zones of two labels
pub record IsCountOf (zones : List Labelled) (window : Rect) (n : ℕ) : Type 0 where
  pub tally : Tally (IsInTwoLabels zones) (cells_of window) n
  pub small : n < 2 ^ 63
