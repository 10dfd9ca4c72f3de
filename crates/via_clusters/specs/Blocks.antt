-- boxes that a defect covers whole
use Rattle.std.specs.Prelude.{ℕ, List, Contains, ◌+◌}
use Rattle.geo_core.specs.Plane.{Has}
use Rattle.geo_core.specs.declared.plane.Cell.{Cell}
use Rattle.geo_core.specs.declared.plane.Half.{Half}
use Rattle.geo_core.specs.declared.plane.Rect.{Rect}
use Rattle.fault_model.specs.Halves.{IsOn, IsInFootprint}

-- the footprint of the defect of this radius at the cell has each half square of each cell of the box
abbrev pub CoversBox : Rect → ℕ → Cell → Type 0
CoversBox box radius c = (h : Half) → IsOn (Has box) h → IsInFootprint c (radius + radius) h

-- it has those of some box of the list
pub record CoversSomeBox (boxes : List Rect) (radius : ℕ) (c : Cell) : Type 0 where
  pub box : Rect
  pub among : Contains boxes box
  pub covered : CoversBox box radius c
