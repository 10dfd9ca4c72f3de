-- what stands for an island in a zone stands for it in a part of the zone
use Rattle.std.proofs.Common.{ℕ, List, [], ◌∷◌, inl, inr, Contains}
use Rattle.geo_core.specs.Plane.{Has}
use Rattle.geo_core.specs.declared.plane.Cell.{Cell}
use Rattle.geo_core.specs.declared.plane.Half.{Half}
use Rattle.geo_core.specs.declared.plane.Rect.{Rect}
use Rattle.fault_model.specs.FaultNames.{IslandLists}
use Rattle.half_boxes.specs.Footprints.{IsReached, IsAlwaysHit}
use Rattle.half_boxes.specs.declared.boxes.HalfBox.{HalfBox}
use Rattle.severing.specs.Changes.{HasNear, IsNoted}
use Rattle.open_grid.specs.inside.ZoneNeeds.{IsBetweenDefects, StandsFor, StandForAll}
use Rattle.open_grid.specs.declared.looked.Looked.{Looked}

module _ (zone sub : Rect) (side : ℕ) (part : (c : Cell) → Has sub c → Has zone c) where
  reached : (h : Half) → IsReached sub side h → IsReached zone side h
  reached h r = record { centre = r.centre; in_zone = part r.centre r.in_zone; hit = r.hit }

  always : (h : Half) → IsAlwaysHit zone side h → IsAlwaysHit sub side h
  always h all c has = all c (part c has)

  between : (removed : HalfBox) → IsBetweenDefects sub side removed → IsBetweenDefects zone side removed
  between removed b = record { has_core = λ h all. b.has_core h (always h all); in_reach = λ h has. reached h (b.in_reach h has) }

  noted_in_part : (near : List HalfBox) (set : Half → Type 0) → IsNoted zone side near set → IsNoted sub side near set
  noted_in_part near set n = record {
    one = n.one;
    same = n.same;
    noted = elim n.noted [
      | inl listed ↦ inl listed
      | inr (inl far) ↦ inr (inl (λ h g in_one r. far h g in_one (reached g r)))
      | inr (inr core) ↦ inr (inr (λ h in_one. always h (core h in_one)))
    ];
  }

  near_in_part : (island : IslandLists) (near : List HalfBox) → HasNear island zone side near → HasNear island sub side near
  near_in_part island near has = record {
    pieces = λ piece among. noted_in_part near _ (has.pieces piece among);
    anchors = λ spot rect among listed. noted_in_part near _ (has.anchors spot rect among listed);
  }

  stands_in_part : (looked : Looked) (island : IslandLists) → StandsFor zone side looked island → StandsFor sub side looked island
  stands_in_part looked island s = record {
    anchored = s.anchored;
    same = λ removed b. s.same removed (between removed b);
    has_near = near_in_part island looked.near s.has_near;
    near_on_island = s.near_on_island;
    has_reached = λ spot among lies. s.has_reached spot among (λ h in_spot. reached h (lies h in_spot));
  }

  -- and so for each of many
  pub stand_in_part : (looked : List Looked) (islands : List IslandLists) → StandForAll zone side looked islands → StandForAll sub side looked islands
  stand_in_part [] [] h = tt
  stand_in_part [] (island ∷ islands) h = absurd h
  stand_in_part (seen ∷ looked) [] h = absurd h
  stand_in_part (seen ∷ looked) (island ∷ islands) h = (stands_in_part seen island h.0, stand_in_part looked islands h.1)

-- each of the islands has what stands for it
pub record IsStoodFor (zone : Rect) (side : ℕ) (looked : List Looked) (island : IslandLists) : Type 0 where
  pub seen : Looked
  pub among : Contains looked seen
  pub stands : StandsFor zone side seen island
