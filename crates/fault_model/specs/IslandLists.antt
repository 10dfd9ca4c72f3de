-- islands as contracts see them, and which of their spots a defect parts
use Rattle.std.specs.Prelude.{ℕ, List, Contains, Some, slice_get, ◌≡◌, ◌≢◌}
use Rattle.geo_core.specs.declared.plane.Cell.{Cell}
use Rattle.geo_core.specs.declared.plane.Half.{Half}
use Rattle.geo_core.specs.declared.plane.Rect.{Rect}
use Rattle.geo_core.specs.Plane.{IsInUnion}
use Rattle.fault_model.specs.Halves.{IsOn}
use Rattle.fault_model.specs.Walks.{IsSameIsland}
use Rattle.fault_model.specs.Faults.{IsOpen}
use Rattle.fault_model.specs.declared.island.Spot.{Spot}

-- the rectangles of an island, and the spots of its anchors
pub record IslandLists : Type 0 where
  pub pieces : List Rect
  pub anchors : List Spot

-- the half square lies in the spot of the anchor with this number, counted from 0
pub record IsInAnchor (anchors : List Spot) (number : ℕ) (h : Half) : Type 0 where
  pub spot : Spot
  pub at : slice_get anchors number ≡ Some spot
  pub lies : IsOn (IsInUnion spot.rects) h

-- the rectangles are connected by themselves, and the spots have cells of them alone
pub record IsAnchoredIsland (island : IslandLists) : Type 0 where
  pub connected : (p q : Half) → IsOn (IsInUnion island.pieces) p → IsOn (IsInUnion island.pieces) q →
      IsSameIsland (IsInUnion island.pieces) p q
  pub on_pieces : (spot : Spot) (c : Cell) → Contains island.anchors spot → IsInUnion spot.rects c → IsInUnion island.pieces c

-- the defect parts two anchors of the island, which go by their numbers: two of them may have the same half squares
abbrev pub IsIslandOpen : IslandLists → ℕ → Cell → Type 0
IsIslandOpen island = IsOpen (IsInUnion island.pieces) (λ i k. i ≢ k) (IsInAnchor island.anchors)
