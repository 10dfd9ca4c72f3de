-- what one arc of the ring round all that the zone's defects have says of the zone
use Rattle.std.proofs.Common.{ℕ, List, [], length, take, take_all, get_or, ◌+◌, ◌<◌, ◌≤◌, ◌≡◌, sym, subst, ◌∙◌, inl, inr, ◌↔◌, Contains}
use Rattle.lists.proofs.Containing.{Contains-none, Contains-slice_get, Contains-take_cases}
use Rattle.geo_core.specs.declared.plane.Cell.{Cell}
use Rattle.geo_core.specs.declared.plane.Half.{Half}
use Rattle.geo_core.specs.declared.plane.Rect.{Rect}
use Rattle.fault_model.specs.FaultNames.{IslandLists, IsInFootprint}
use Rattle.fault_model.specs.IslandLists.{IsAnchoredIsland}
use Rattle.fault_model.proofs.UnionLaws.{corner_of}
use Rattle.half_boxes.specs.Footprints.{IsReached}
use Rattle.half_boxes.specs.HalfBoxes.{HasHalf, IsInBoxes, LiesWithin}
use Rattle.half_boxes.specs.declared.boxes.HalfBox.{HalfBox}
use Rattle.ring_test.specs.IslandHoles.{IsOnIsland, LosesAnchor}
use Rattle.ring_test.specs.Rings.{HasOneArc, IsInHole, IsRound, hole_of}
use Rattle.severing.specs.Severing.{IsSevered}
use Rattle.open_grid.specs.inside.ZoneNeeds.{StandsFor}
use Rattle.open_grid.specs.inside.ZoneSteps.{IsToldOf}
use Rattle.open_grid.specs.declared.looked.Looked.{Looked}
use Rattle.open_grid.specs.declared.looked.Told.TheVariants.{Never}

-- the law of one arc
abbrev pub OneArcSpares : Type 0
OneArcSpares = (island : IslandLists) (near : List HalfBox) (reach : HalfBox) (s : ℕ) (c : Cell) → IsAnchoredIsland island
    → ((h : Half) → IsRound (hole_of reach) h → IsInBoxes near h ↔ IsOnIsland island h) → HasOneArc (hole_of reach) (IsInBoxes near)
    → (LosesAnchor island (hole_of reach) → ⊥) → ((h : Half) → IsInFootprint c s h → HasHalf reach h) → IsSevered island (IsInFootprint c s) → ⊥

module _ (zone : Rect) (side : ℕ) (looked : Looked) (island : IslandLists) (stands : StandsFor zone side looked island) (reach : HalfBox)
    (reach_is : (h : Half) → HasHalf reach h ↔ IsReached zone side h) where
  in_reach : (h : Half) → IsInHole (hole_of reach) h → HasHalf reach h
  in_reach h is = record { across = is.0; up = is.1 }

  -- round the reach the boxes that matter have what the island has
  near_has : (h : Half) → IsRound (hole_of reach) h → IsInBoxes looked.near h ↔ IsOnIsland island h
  near_has h round = (
    stands.near_on_island h,
    λ (c, lies, u).
        let n = stands.has_near.pieces u.rect (Contains-slice_get island.pieces u.number u.rect u.at) in
        let has = (n.same h).1 (c, lies, u.has) in
        elim n.noted [
          | inl listed ↦ record { one = n.one; among = listed; has = has }
          | inr (inl far) ↦ absurd (far h round.inner has ((reach_is round.inner).0 (in_reach round.inner round.inside)) round.beside round.level)
          | inr (inr core) ↦
              let d = corner_of zone in
              let inside = (reach_is h).1 (record { centre = d.0; in_zone = d.1; hit = core h has d.0 d.1 }) in
              absurd (round.outside (inside.across, inside.up))
        ],
  )

  none_lost : ((one : HalfBox) → Contains looked.anchors one → LiesWithin one reach → ⊥) → LosesAnchor island (hole_of reach) → ⊥
  none_lost outside lost =
      let b = stands.has_reached lost.spot lost.among (λ h lies. (reach_is h).0 (in_reach h (lost.covered h lies))) in
      outside b.one b.among ((b.hull.lies reach).1 (λ h lies. in_reach h (lost.covered h lies)))

  pub one_arc_never : OneArcSpares → ((one : HalfBox) → Contains looked.anchors one → LiesWithin one reach → ⊥) → HasOneArc (hole_of reach) (IsInBoxes looked.near) → IsToldOf zone side island Never
  one_arc_never law outside arc c has severed =
      law island looked.near reach side c stands.anchored near_has arc (none_lost outside) (λ h hit. (reach_is h).1 (record { centre = c; in_zone = has; hit = hit })) severed

-- none of the boxes lies within the reach
abbrev pub LieOutside : HalfBox → List HalfBox → Type 0
LieOutside reach boxes = (one : HalfBox) → Contains boxes one → LiesWithin one reach → ⊥

pub outside_none : (reach : HalfBox) → LieOutside reach []
outside_none reach one among = absurd (Contains-none among)

pub outside_more : (reach : HalfBox) (boxes : List HalfBox) (i : ℕ) (one : HalfBox) → i < length boxes → one ≡ get_or boxes i one → LieOutside reach (take i boxes)
    → (LiesWithin one reach → ⊥) → LieOutside reach (take (i + 1) boxes)
outside_more reach boxes i one small is so_far out other among lies = elim (Contains-take_cases boxes i one other small among) [
  | inl before ↦ so_far other before lies
  | inr last ↦ out (subst (λ o. LiesWithin o reach) (sym (is ∙ last)) lies)
]

pub outside_all : (reach : HalfBox) (boxes : List HalfBox) (i : ℕ) → length boxes ≤ i → LieOutside reach (take i boxes) → LieOutside reach boxes
outside_all reach boxes i past all = subst (LieOutside reach) (take_all i boxes past) all
