-- the two labels whose pieces are nearest to a cell
use Rattle.std.specs.Prelude.{ℕ, pos, neg_ℤ, List, Option, Some, None, Contains, MatchOption, ◌⊎◌, ◌≡◌, ◌≢◌, ◌<◌, ◌≤◌}
use Rattle.geo_core.specs.Plane.{ComesNear, IsIn}
use Rattle.geo_core.specs.declared.plane.Cell.{Cell}
use Rattle.geo_core.specs.declared.plane.Labelled.{Labelled}
use Rattle.geo_core.specs.declared.plane.Rect.{Rect}
use Rattle.near_index.specs.declared.nearest.Near.{Near}
use Rattle.near_index.specs.declared.nearest.Nearest.{Nearest}

-- ---- distances

-- the distance of a cell to a rectangle: a cell of the rectangle is at most so far away in both directions, and none is nearer
pub record IsDistance (cell : Cell) (rect : Rect) (distance : ℕ) : Type 0 where
  pub reached : ComesNear rect (pos distance) cell
  pub least : (less : ℕ) → less < distance → ComesNear rect (pos less) cell → ⊥

-- the distance of a cell to a label: that to one of its pieces, and none of them is nearer
pub record IsLabelDistance (pieces : List Labelled) (label : ℕ) (cell : Cell) (distance : ℕ) : Type 0 where
  pub piece : Labelled
  pub among : Contains pieces piece
  pub labelled : piece.label ≡ label
  pub reached : IsDistance cell piece.rect distance
  pub least : (other : Labelled) (further : ℕ) → Contains pieces other → other.label ≡ label → IsDistance cell other.rect further → distance ≤ further

-- a cell that a layout may cover
pub record IsLayoutCell (cell : Cell) : Type 0 where
  pub across : IsIn (neg_ℤ (pos 1000000000)) (pos 1000000000) cell.i
  pub up : IsIn (neg_ℤ (pos 1000000000)) (pos 1000000000) cell.j

-- ---- the nearest

-- it is nearer than so far away, or as near and its label is no greater
abbrev pub IsNoLater : Near → ℕ → ℕ → Type 0
IsNoLater near distance label = (near.distance < distance) ⊎ ((near.distance ≡ distance) × (near.label ≤ label))

-- among the labels but one that may be left out: the one with the least distance, and the least such label among equals
pub record IsNearestLabel (pieces : List Labelled) (cell : Cell) (except : Option ℕ) (near : Near) : Type 0 where
  pub other : except ≢ Some near.label
  pub distance : IsLabelDistance pieces near.label cell near.distance
  pub first : (label distance : ℕ) → except ≢ Some label → IsLabelDistance pieces label cell distance → IsNoLater near distance label

-- no piece has another label than the one that may be left out
pub record HasNoOther (pieces : List Labelled) (except : Option ℕ) : Type 0 where
  pub none : (piece : Labelled) → Contains pieces piece → except ≢ Some piece.label → ⊥

-- the nearest of the labels but one that may be left out, and none exactly where there is no such label
abbrev pub IsNearest : List Labelled → Cell → Option ℕ → Option Near → Type 0
IsNearest pieces cell except near = MatchOption near (HasNoOther pieces except) (IsNearestLabel pieces cell except)

-- the label of what was found, where it was
abbrev pub found_label : Option Near → Option ℕ
found_label None = None
found_label (Some near) = Some near.label

-- the nearest of all labels, and the nearest of all others
pub record IsNearestTwo (pieces : List Labelled) (cell : Cell) (nearest : Nearest) : Type 0 where
  pub first : IsNearest pieces cell None nearest.first
  pub second : IsNearest pieces cell (found_label nearest.first) nearest.second
