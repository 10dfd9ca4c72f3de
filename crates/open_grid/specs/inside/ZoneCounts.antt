-- when a search is counted in a zone
use Rattle.std.specs.Prelude.{ℕ, List, Contains, ◌<◌, ◌≤◌}
use Rattle.geo_core.specs.Plane.{Has}
use Rattle.geo_core.specs.declared.plane.Cell.{Cell}
use Rattle.geo_core.specs.declared.plane.Half.{Half}
use Rattle.geo_core.specs.declared.plane.Rect.{Rect}
use Rattle.fault_model.specs.FaultNames.{IslandLists, IsInFootprint}
use Rattle.half_boxes.specs.HalfBoxes.{HasHalf}
use Rattle.half_boxes.specs.declared.boxes.HalfBox.{HalfBox}
use Rattle.open_grid.specs.RingCounts.{IsSomeRingMany}

-- the defect of this side at the cell covers none of the boxes
abbrev pub CoversNone : List HalfBox → ℕ → Cell → Type 0
CoversNone boxes side c = (one : HalfBox) → Contains boxes one → ((h : Half) → HasHalf one h → IsInFootprint c side h) → ⊥

-- some defect of the zone covers none of them
pub record SomeCoversNone (boxes : List HalfBox) (zone : Rect) (side : ℕ) : Type 0 where
  pub cell : Cell
  pub in_zone : Has zone cell
  pub covers : CoversNone boxes side cell

-- the count does not fall, and rises only where some ring in the zone has many arcs of an island
pub record CountsMany (islands : List IslandLists) (zone : Rect) (side : ℕ) (old new : ℕ) : Type 0 where
  pub never_falls : old ≤ new
  pub rises_by_many : old < new → IsSomeRingMany islands zone side
