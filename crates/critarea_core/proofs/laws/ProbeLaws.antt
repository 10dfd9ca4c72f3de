-- what a probe tells of a metal: which defects at its cell make a short
use Rattle.std.proofs.Common.{ℕ, zero, suc, ◌+◌, ◌/◌, ◌≤◌, ◌≡◌, ◌↔◌, refl, subst, arith, inl, inr, List, [], ◌∷◌, length, slice_get, Some}
use Rattle.lists.proofs.Words.{AllZip, cases_lt, enumerate_from, ints, same_Some}
use Rattle.geo_core.specs.declared.plane.Cell.{Cell}
use Rattle.fault_model.specs.FaultNames.{Cut, IsShort}
use Rattle.fault_model.proofs.FaultLaws.{none_at, short_at}
use Rattle.map_model.specs.MapNames.{LayerMap, MappedLayer}
use Rattle.net_extract.specs.Cuts.{cuts_of}
use Rattle.near_index.specs.declared.nearest.Near.{Near}
use Rattle.layout_probe.specs.NearestNets.{AreNearestNets}
use Rattle.layout_probe.specs.Probe.{IsToldOf}
use Rattle.layout_probe.specs.declared.metal_near.MetalNear.{MetalNear}
use Rattle.layout_probe.proofs.laws.ShortLaws.{second_tells}
use Rattle.run_inputs.specs.Coverage.{IsCoveredOn}
use Rattle.run_inputs.specs.Layout.{Subject}
use Rattle.critarea_core.specs.Outputs.{IsProbeOn}

module _ (layer_map : LayerMap) (covers : ℕ → Cell → Type 0) (c : Cell) where
  -- the item at each place is told of the metal with this number
  item_of : (first : ℕ) (metals : List MappedLayer) (told : List MetalNear) → AllZip (IsToldOf layer_map covers c) (enumerate_from first metals) told
      → (metal : ℕ) (item : MetalNear) → slice_get told metal ≡ Some item → AreNearestNets covers (cuts_of layer_map) (first + metal) c item.nearest
  item_of first [] [] are metal item at = cc at
  item_of first [] (other ∷ told) are metal item at = absurd are
  item_of first (layer ∷ metals) [] are metal item at = absurd are
  item_of first (layer ∷ metals) (other ∷ told) are zero item at =
      let here : first ≡ first + 0 = omega arith in
      subst (λ n. AreNearestNets covers (cuts_of layer_map) n c item.nearest) here
      (subst (λ (it : MetalNear). AreNearestNets covers (cuts_of layer_map) first c it.nearest) (same_Some other item at) are.0.nearest)
  item_of first (layer ∷ metals) (other ∷ told) are (suc metal) item at =
      let further : first + 1 + metal ≡ first + suc metal = omega arith in
      subst (λ n. AreNearestNets covers (cuts_of layer_map) n c item.nearest) further (item_of (first + 1) metals told are.1 metal item at)

  -- there are as many
  as_many : (first : ℕ) (metals : List MappedLayer) (told : List MetalNear) → AllZip (IsToldOf layer_map covers c) (enumerate_from first metals) told
      → length told ≡ length metals
  as_many first [] [] are = refl
  as_many first [] (other ∷ told) are = absurd are
  as_many first (layer ∷ metals) [] are = absurd are
  as_many first (layer ∷ metals) (other ∷ told) are = let rest = as_many (first + 1) metals told are.1 in omega (arith, rest)

pub one_each : (subject : Subject) (c : Cell) (told : List MetalNear) → IsProbeOn subject c told → length told ≡ length subject.layer_map.metals
one_each subject c told is = as_many subject.layer_map (IsCoveredOn subject.layer_map subject.routes) c 0 subject.layer_map.metals told is

module _ (subject : Subject) (c : Cell) (told : List MetalNear) (is : IsProbeOn subject c told) (metal : ℕ) (item : MetalNear) (at : slice_get told metal ≡ Some item) where
  abbrev covers : ℕ → Cell → Type 0
  covers = IsCoveredOn subject.layer_map subject.routes

  abbrev cuts : List Cut
  cuts = cuts_of subject.layer_map

  abbrev IsSecondWithin : ℕ → Type 0
  IsSecondWithin r = (near : Near) × (item.nearest.second ≡ Some near) × (near.distance ≤ r)

  nearest_are : AreNearestNets covers cuts metal c item.nearest
  nearest_are =
      let here : 0 + metal ≡ metal = omega arith in
      subst (λ n. AreNearestNets covers cuts n c item.nearest) here (item_of subject.layer_map covers c 0 subject.layer_map.metals told is metal item at)

  pub short_of_radius : (r : ℕ) → IsShort covers cuts metal (r + r) c ↔ IsSecondWithin r
  short_of_radius r = second_tells covers cuts metal r c item.nearest nearest_are

  -- a defect of side 0 has nothing
  none_at_0 : IsShort covers cuts metal 0 c → ⊥
  none_at_0 short = let hit = short.one_hit.0 in let low = hit.from in let high = hit.before in omega (arith, ints)

  -- a side of 2 or more makes the shorts of the side below that is even, and side 1 makes none, as side 0 does
  pub short_of_side : (s : ℕ) → 1 ≤ s → IsShort covers cuts metal s c ↔ IsSecondWithin (s / 2)
  short_of_side s some = elim (cases_lt s 2) [
    | inl less ↦
        let half : s / 2 ≡ 0 = omega (arith, less) in (
          λ short. absurd (none_at covers cuts s metal c (omega (arith, some, less)) short),
          λ second. absurd (none_at_0 (subst (λ (n : ℕ). IsShort covers cuts metal n c) (omega (arith, half)) ((short_of_radius (s / 2)).1 second))),
        )
    | inr two ↦
        let same = short_at covers cuts s two metal c in
        let tells = short_of_radius (s / 2) in
        (λ short. tells.0 (same.0 short), λ second. same.1 (tells.1 second))
  ]
