-- pieces with labels, and where a defect touches two of different labels
use Rattle.std.specs.Prelude.{ℕ, List, Contains, ◌+◌, ◌≢◌, ◌≡◌}
use Rattle.geo_core.specs.Plane.{Has}
use Rattle.geo_core.specs.declared.plane.Cell.{Cell}
use Rattle.geo_core.specs.declared.plane.Half.{Half}
use Rattle.geo_core.specs.declared.plane.Labelled.{Labelled}
use Rattle.fault_model.specs.FaultNames.{IsOn, IsInFootprint}

-- a piece with this label has a half square in the footprint of the defect of this radius at the cell
pub record TouchesLabel (pieces : List Labelled) (radius : ℕ) (c : Cell) (label : ℕ) : Type 0 where
  pub piece : Labelled
  pub among : Contains pieces piece
  pub labelled : piece.label ≡ label
  pub half : Half
  pub on : IsOn (Has piece.rect) half
  pub hit : IsInFootprint c (radius + radius) half

-- the defect touches pieces of two labels
pub record TouchesTwoLabels (pieces : List Labelled) (radius : ℕ) (c : Cell) : Type 0 where
  pub one : ℕ
  pub other : ℕ
  pub touches_one : TouchesLabel pieces radius c one
  pub touches_other : TouchesLabel pieces radius c other
  pub different : one ≢ other
