-- which half squares the defects of one side have whose centres are the cells of a zone
use Rattle.std.specs.Prelude.{ℕ}
use Rattle.geo_core.specs.Plane.{Has}
use Rattle.geo_core.specs.declared.plane.Cell.{Cell}
use Rattle.geo_core.specs.declared.plane.Half.{Half}
use Rattle.geo_core.specs.declared.plane.Rect.{Rect}
use Rattle.fault_model.specs.FaultNames.{IsInFootprint}

-- some defect has the half square
pub record IsReached (zone : Rect) (side : ℕ) (h : Half) : Type 0 where
  pub centre : Cell
  pub in_zone : Has zone centre
  pub hit : IsInFootprint centre side h

-- each defect has it
abbrev pub IsAlwaysHit : Rect → ℕ → Half → Type 0
IsAlwaysHit zone side h = (c : Cell) → Has zone c → IsInFootprint c side h
