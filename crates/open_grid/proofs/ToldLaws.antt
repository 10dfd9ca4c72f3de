-- what an island says of a zone
use Rattle.std.proofs.Common.{ℕ, Contains, ◌≡◌, sym, subst, List, inl, inr, ◌↔◌, Option, Some, None, arith}
use Rattle.lists.proofs.Words.{ints}
use Rattle.geo_core.specs.Plane.{Has}
use Rattle.geo_core.specs.declared.plane.Cell.{Cell}
use Rattle.geo_core.specs.declared.plane.Half.{Half}
use Rattle.geo_core.specs.declared.plane.Rect.{Rect}
use Rattle.geo_core.proofs.RectLaws.{same_cell}
use Rattle.fault_model.specs.FaultNames.{IslandLists, IsInFootprint}
use Rattle.fault_model.proofs.UnionLaws.{corner_of}
use Rattle.half_boxes.specs.Footprints.{IsReached, IsAlwaysHit}
use Rattle.half_boxes.specs.HalfBoxes.{HasHalf, HasHalfIn, IsInBoxes, LiesWithin}
use Rattle.half_boxes.specs.declared.boxes.HalfBox.{HalfBox}
use Rattle.remnants.specs.Remnants.{RemnantLists, IsSplit}
use Rattle.severing.specs.Changes.{HasNear, IsNoted}
use Rattle.severing.specs.Severing.{IsSevered}
use Rattle.ring_test.specs.IslandHoles.{IsOnIsland}
use Rattle.open_grid.specs.inside.ZoneNeeds.{HaveReached, IsBetweenDefects, StandsFor}
use Rattle.open_grid.specs.inside.ZoneSteps.{AreOf, IsSingle, IsSplitWithout, IsToldOf, KeepsNear, KeepsWithin}
use Rattle.open_grid.specs.declared.looked.Looked.{Looked}
use Rattle.open_grid.specs.declared.looked.Told.TheVariants.{Never, Always, Open}

-- a single zone has one cell alone
pub one_centre : (zone : Rect) → IsSingle zone → (c d : Cell) → Has zone c → Has zone d → c ≡ d
one_centre zone single c d h k =
    let e = single.column in let f = single.row in
    let a = h.across.from in let a' = h.across.before in let b = k.across.from in let b' = k.across.before in
    let p = h.up.from in let p' = h.up.before in let q = k.up.from in let q' = k.up.before in
    same_cell c d (omega (arith, ints)) (omega (arith, ints))

-- the laws of removals, as this page takes them
abbrev pub DefectsSever : Type 0
DefectsSever = (island : IslandLists) (one : HalfBox) (s : ℕ) (c : Cell) → ((h : Half) → HasHalf one h → IsInFootprint c s h) → IsSevered island (HasHalf one)
    → IsSevered island (IsInFootprint c s)

abbrev pub BoxesSever : Type 0
BoxesSever = (island : IslandLists) (one : HalfBox) (s : ℕ) (c : Cell) → ((h : Half) → IsInFootprint c s h → HasHalf one h) → IsSevered island (IsInFootprint c s)
    → IsSevered island (HasHalf one)

-- what `narrow` gives
abbrev pub IsNarrowed : RemnantLists → RemnantLists → Option HalfBox → HalfBox → Type 0
IsNarrowed old new inner outer = (removed : HalfBox) → ((h : Half) → HasHalfIn inner h → HasHalf removed h) → LiesWithin removed outer → IsSplit new removed ↔ IsSplit old removed

module _ (zone : Rect) (side : ℕ) (looked : Looked) (island : IslandLists) (stands : StandsFor zone side looked island)
    (outer : HalfBox) (reach_is : (h : Half) → HasHalf outer h ↔ IsReached zone side h) where
  core_reached : (h : Half) → IsAlwaysHit zone side h → IsReached zone side h
  core_reached h all = let c = corner_of zone in record { centre = c.0; in_zone = c.1; hit = all c.0 c.1 }

  between_outer : IsBetweenDefects zone side outer
  between_outer = record { has_core = λ h all. (reach_is h).1 (core_reached h all); in_reach = λ h has. (reach_is h).0 has }

  pub told_never : BoxesSever → (IsSplit looked.remnant outer → ⊥) → IsToldOf zone side island Never
  told_never boxes whole c has severed =
      let at_outer = boxes island outer side c (λ h hit. (reach_is h).1 (record { centre = c; in_zone = has; hit = hit })) severed in
      whole ((stands.same outer between_outer).1 at_outer)

  pub told_at_once : DefectsSever → IsSplit looked.remnant outer → IsSingle zone → IsToldOf zone side island Always
  told_at_once defects split single c has =
      defects island outer side c
      (λ h in_outer. let r = (reach_is h).0 in_outer in subst (λ d. IsInFootprint d side h) (one_centre zone single r.centre c r.in_zone has) r.hit)
      ((stands.same outer between_outer).0 split)

  module _ (inner : Option HalfBox) (core_is : (h : Half) → HasHalfIn inner h ↔ IsAlwaysHit zone side h) where
    pub outer_has_inner : (h : Half) → HasHalfIn inner h → HasHalf outer h
    outer_has_inner h in_core = (reach_is h).1 (core_reached h ((core_is h).0 in_core))

    module _ (remnant : RemnantLists) (narrowed : IsNarrowed looked.remnant remnant inner outer) where
      -- the narrowed remnant stands for the island, too
      pub same_as_island : (removed : HalfBox) → IsBetweenDefects zone side removed → IsSplit remnant removed ↔ IsSevered island (HasHalf removed)
      same_as_island removed b =
          let new = narrowed removed (λ h in_core. b.has_core h ((core_is h).0 in_core)) (λ h has. (reach_is h).1 (b.in_reach h has)) in
          let old = stands.same removed b in
          (λ s. old.0 (new.0 s), λ s. new.1 (old.1 s))

      pub told_always : DefectsSever → IsSplitWithout remnant inner → IsToldOf zone side island Always
      told_always defects split c has = by_core inner core_is split
        where
          by_core : (core : Option HalfBox) → ((h : Half) → HasHalfIn core h ↔ IsAlwaysHit zone side h) → IsSplitWithout remnant core → IsSevered island (IsInFootprint c side)
          by_core None is h = absurd h
          by_core (Some core) is h =
              let b : IsBetweenDefects zone side core = record { has_core = λ g all. (is g).1 all; in_reach = λ g has'. core_reached g ((is g).0 has') } in
              defects island core side c (λ g has'. (is g).0 has' c has) ((same_as_island core b).0 h)

      pub told_open : (kept : List HalfBox) → KeepsNear inner outer looked.near kept → AreOf looked.near kept → (anchors : List HalfBox) → KeepsWithin outer looked.anchors anchors → (made : Looked)
          → made.remnant ≡ remnant → made.near ≡ kept → made.anchors ≡ anchors → IsToldOf zone side island (Open made)
      told_open kept keeps of_near anchors keeps_anchors made remnant_is near_is anchors_are = record {
        anchored = stands.anchored;
        same = same;
        has_near = has_near;
        near_on_island = near_on_island;
        has_reached = has_reached;
      }
        where
          same : (removed : HalfBox) → IsBetweenDefects zone side removed → IsSplit made.remnant removed ↔ IsSevered island (HasHalf removed)
          same removed b = subst (λ r. IsSplit r removed ↔ IsSevered island (HasHalf removed)) (sym remnant_is) (same_as_island removed b)

          still_noted : (set : Half → Type 0) → IsNoted zone side looked.near set → IsNoted zone side kept set
          still_noted set n = record {
            one = n.one;
            same = n.same;
            noted = elim n.noted [
              | inr rest ↦ inr rest
              | inl listed ↦ elim (keeps n.one listed) [
                | inl stays ↦ inl stays
                | inr (inl core) ↦ inr (inr (λ h has. (core_is h).0 (core h has)))
                | inr (inr far) ↦ inr (inl (λ h g has r. far h g has ((reach_is g).1 r)))
              ]
            ];
          }

          kept_near : HasNear island zone side kept
          kept_near = record {
            pieces = λ piece among. still_noted _ (stands.has_near.pieces piece among);
            anchors = λ spot rect among listed. still_noted _ (stands.has_near.anchors spot rect among listed);
          }

          has_near : HasNear island zone side made.near
          has_near = subst (HasNear island zone side) (sym near_is) kept_near

          near_on_island : (h : Half) → IsInBoxes made.near h → IsOnIsland island h
          near_on_island h b = stands.near_on_island h (record { one = b.one; among = of_near b.one (subst (λ bs. Contains bs b.one) near_is b.among); has = b.has })

          kept_reached : HaveReached island zone side anchors
          kept_reached spot among reached =
              let b = stands.has_reached spot among reached in
              record { one = b.one; among = keeps_anchors b.one b.among ((b.hull.lies outer).1 (λ h in_spot. (reach_is h).1 (reached h in_spot))); hull = b.hull }

          has_reached : HaveReached island zone side made.anchors
          has_reached = subst (HaveReached island zone side) (sym anchors_are) kept_reached
