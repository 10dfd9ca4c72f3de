-- what an island has in a hole
use Rattle.std.specs.Prelude.{Contains}
use Rattle.geo_core.specs.Unions.{IsInUnion}
use Rattle.geo_core.specs.declared.plane.Half.{Half}
use Rattle.fault_model.specs.FaultNames.{IsOn, IslandLists}
use Rattle.fault_model.specs.declared.island.Spot.{Spot}
use Rattle.ring_test.specs.Rings.{Hole, IsInHole}

-- the half square is one of the island's
abbrev pub IsOnIsland : IslandLists → Half → Type 0
IsOnIsland island = IsOn (IsInUnion island.pieces)

-- the island has a half square in the hole
abbrev pub ReachesInto : IslandLists → Hole → Type 0
ReachesInto island hole = (h : Half) × IsOnIsland island h × IsInHole hole h

-- the spot of an anchor of the island lies wholly in the hole
pub record LosesAnchor (island : IslandLists) (hole : Hole) : Type 0 where
  pub spot : Spot
  pub among : Contains island.anchors spot
  pub covered : (h : Half) → IsOn (IsInUnion spot.rects) h → IsInHole hole h
