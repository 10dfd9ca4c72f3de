-- islands and tiles: what a defect at a cell of a tile parts comes near the tile
use Rattle.std.proofs.Common.{ℕ, ◌/◌, ◌≤◌}
use Rattle.paths.proofs.PathLaws.{within}
use Rattle.geo_core.specs.Plane.{Has, IsInUnion}
use Rattle.geo_core.specs.declared.plane.Cell.{Cell}
use Rattle.geo_core.specs.declared.plane.Half.{Half}
use Rattle.geo_core.specs.declared.plane.Rect.{Rect}
use Rattle.fault_model.specs.FaultNames.{IsInFootprint, IsIslandOpen, IslandLists, IsOn}
use Rattle.fault_model.proofs.UnionLaws.{among_union}
use Rattle.tile_plan.specs.NearTiles.{IsNearTile}
use Rattle.tile_plan.proofs.laws.SeamLaws.{hit_is_near}
use Rattle.critical_areas.specs.RoundPieces.{IsRound}

module _ (tile hull : Rect) (island : IslandLists) (reach s : ℕ) (c : Cell) (round : IsRound hull island.pieces) (has : Has tile c) (far : s / 2 ≤ reach) (beyond : IsNearTile tile reach hull → ⊥) where
  -- a defect at a cell of the tile has no half square of the island where what is round its pieces is not near
  none_hit : (h : Half) → IsOn (IsInUnion island.pieces) h → IsInFootprint c s h → ⊥
  none_hit h on hit =
      let u = on.2 in
      let near = hit_is_near tile u.rect reach s c has far (h, (on.0, on.1, u.has), hit) in
      beyond (near.0, near.1, (near.2.0, round u.rect near.2.0 (among_union island.pieces on.0 u) near.2.1, near.2.2))

  -- so it parts nothing
  pub far_parts_none : IsIslandOpen island s c → ⊥
  far_parts_none o = o.parted o.tied.0 o.tied.1 o.tied.2 o.tied.3 (within (λ h on. (on, none_hit h on)) o.tied.4)
