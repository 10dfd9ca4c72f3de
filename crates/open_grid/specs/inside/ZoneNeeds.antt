-- what a zone of centres needs of islands, and which of its defects part anchors of them
use Rattle.std.specs.Prelude.{ℕ, List, Contains, ◌↔◌}
use Rattle.lists.specs.Words.{AllZip}
use Rattle.geo_core.specs.Plane.{Has, IsInUnion}
use Rattle.geo_core.specs.declared.plane.Cell.{Cell}
use Rattle.geo_core.specs.declared.plane.Half.{Half}
use Rattle.geo_core.specs.declared.plane.Rect.{Rect}
use Rattle.fault_model.specs.FaultNames.{IslandLists, IsInFootprint, IsOn}
use Rattle.fault_model.specs.IslandLists.{IsAnchoredIsland}
use Rattle.fault_model.specs.declared.island.Spot.{Spot}
use Rattle.half_boxes.specs.Footprints.{IsReached, IsAlwaysHit}
use Rattle.half_boxes.specs.HalfBoxes.{HasHalf, IsInBoxes, LiesWithin}
use Rattle.half_boxes.specs.declared.boxes.HalfBox.{HalfBox}
use Rattle.remnants.specs.Remnants.{IsSplit}
use Rattle.ring_test.specs.IslandHoles.{IsOnIsland}
use Rattle.severing.specs.Changes.{HasNear}
use Rattle.severing.specs.Severing.{IsSevered}
use Rattle.open_grid.specs.declared.looked.Looked.{Looked}

-- the box has what each defect of the zone has, and nothing that none of them has
pub record IsBetweenDefects (zone : Rect) (side : ℕ) (removed : HalfBox) : Type 0 where
  pub has_core : (h : Half) → IsAlwaysHit zone side h → HasHalf removed h
  pub in_reach : (h : Half) → HasHalf removed h → IsReached zone side h

-- the list has a box with just the half squares of the set
pub record HasBoxOf (boxes : List HalfBox) (set : Half → Type 0) : Type 0 where
  pub one : HalfBox
  pub among : Contains boxes one
  pub same : (h : Half) → HasHalf one h ↔ set h

-- the box is the hull of the rectangles: it lies within a box exactly where all their half squares do
pub record IsHullOf (rects : List Rect) (one : HalfBox) : Type 0 where
  pub lies : (box : HalfBox) → LiesWithin one box ↔ ((h : Half) → IsOn (IsInUnion rects) h → HasHalf box h)

-- the boxes are the hulls of the anchors' spots
abbrev pub HaveAnchorBoxes : IslandLists → List HalfBox → Type 0
HaveAnchorBoxes island = AllZip (λ (spot : Spot). IsHullOf spot.rects) island.anchors

-- the list has the hull of the rectangles
pub record HasHullOf (boxes : List HalfBox) (rects : List Rect) : Type 0 where
  pub one : HalfBox
  pub among : Contains boxes one
  pub hull : IsHullOf rects one

-- it has that of each anchor's spot that the zone's defects cover together
abbrev pub HaveReached : IslandLists → Rect → ℕ → List HalfBox → Type 0
HaveReached island zone side boxes = (spot : Spot) → Contains island.anchors spot → ((h : Half) → IsOn (IsInUnion spot.rects) h → IsReached zone side h)
    → HasHullOf boxes spot.rects

-- what was looked at stands for the island where such a box is removed, and it has the boxes whose ends matter in the zone, all on
-- the island, and the hulls of the anchors' spots that its defects cover together
pub record StandsFor (zone : Rect) (side : ℕ) (looked : Looked) (island : IslandLists) : Type 0 where
  pub anchored : IsAnchoredIsland island
  pub same : (removed : HalfBox) → IsBetweenDefects zone side removed →
      IsSplit looked.remnant removed ↔ IsSevered island (HasHalf removed)
  pub has_near : HasNear island zone side looked.near
  pub near_on_island : (h : Half) → IsInBoxes looked.near h → IsOnIsland island h
  pub has_reached : HaveReached island zone side looked.anchors

-- one island each
abbrev pub StandForAll : Rect → ℕ → List Looked → List IslandLists → Type 0
StandForAll zone side = AllZip (StandsFor zone side)

-- the defect of this side at the cell parts two anchors of some island of the list
pub record SeversSome (islands : List IslandLists) (side : ℕ) (c : Cell) : Type 0 where
  pub island : IslandLists
  pub among : Contains islands island
  pub severed : IsSevered island (IsInFootprint c side)

-- the rectangles have the cells of the zone that are the centres of such defects
abbrev pub HaveOpenCells : List IslandLists → ℕ → Rect → List Rect → Type 0
HaveOpenCells islands side zone rects = (c : Cell) → IsInUnion rects c ↔ (Has zone c × SeversSome islands side c)

-- each defect of the zone parts two anchors of some island
abbrev pub AllSever : List IslandLists → ℕ → Rect → Type 0
AllSever islands side zone = (c : Cell) → Has zone c → SeversSome islands side c

-- the one list of islands has an island that a defect parts at the same cells of the zone as the other
abbrev pub SeverAlike : List IslandLists → List IslandLists → ℕ → Rect → Type 0
SeverAlike islands others side zone = (c : Cell) → Has zone c → SeversSome islands side c ↔ SeversSome others side c
