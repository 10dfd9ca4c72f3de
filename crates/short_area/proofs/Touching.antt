-- the zones of pieces have the cells at which defects touch the pieces
use Rattle.std.proofs.Common.{ℕ, ◌+◌, ◌<◌, ◌≤◌, ◌≡◌, sym, subst, List, [], ◌∷◌, ◌++◌, length, take, take_all, get_or, inl, inr, ◌⊎◌, ◌↔◌, arith, pos, Option, ℤ, ◌+ℤ◌, ◌-ℤ◌, to_z, of_z, w32}
use Rattle.lists.proofs.Words.{clamps, int_max, int_min, ints, Contains-append_left, Contains-push, Contains-push_cases}
use Rattle.geo_core.specs.Plane.{Has, IsInUnion, IsRadius}
use Rattle.geo_core.specs.declared.plane.Cell.{Cell}
use Rattle.geo_core.specs.declared.plane.Labelled.{Labelled}
use Rattle.geo_core.specs.declared.plane.Rect.{Rect}
use Rattle.geo_core.specs.declared.plane.Half.{Half}
use Rattle.geo_core.specs.declared.interval.Interval.{Interval}
use Rattle.geo_core.proofs.RectLaws.{comes_near}
use Rattle.fault_model.specs.FaultNames.{IsOn, IsInFootprint}
use Rattle.fault_model.proofs.SizeLaws.{footprint_near}
use Rattle.lists.proofs.Containing.{Contains-none}
use Rattle.lists.proofs.Reading.{taken_more}
use Rattle.skyline_runs.specs.Runs.{HaveSameCells}
use Rattle.union_area.specs.PartRects.{GainsPart}
use Rattle.union_area.proofs.laws.GainLaws.{gained_all}
use Rattle.short_area.specs.Labels.{TouchesLabel, TouchesTwoLabels}
use Rattle.short_area.specs.Zones.{AreZonesOf, IsInTwoLabels}
use Rattle.short_area.specs.inside.ZonesNearCells.{GainsZone, IsInside, IsNearCell}
use Rattle.short_area.proofs.laws.LabelLaws.{label_none}

-- a defect touches a rectangle exactly where the rectangle is near its cell
touched : (rect : Rect) (radius : ℕ) (c : Cell) → 1 ≤ radius → IsNearCell rect radius c ↔ (h : Half) × IsOn (Has rect) h × IsInFootprint c (radius + radius) h
touched rect radius c positive =
    let near = comes_near rect (pos radius) c (omega (arith, ints)) in
    let hit = footprint_near rect (radius + radius) radius (omega arith) (omega arith) (omega arith) c in
    (λ n. hit.0 (near.1 (n.across, n.up)), λ h. let n = near.0 (hit.1 h) in record { across = n.0; up = n.1 })

module _ (radius : ℕ) (positive : 1 ≤ radius) (c : Cell) where
  -- one piece more
  touches_push : (pieces : List Labelled) (piece : Labelled) (label : ℕ)
      → TouchesLabel (pieces ++ piece ∷ []) radius c label ↔ (TouchesLabel pieces radius c label ⊎ ((piece.label ≡ label) × IsNearCell piece.rect radius c))
  touches_push pieces piece label = (
    λ t. elim (Contains-push_cases pieces piece t.piece t.among) [
      | inl k ↦ inl (record { piece = t.piece; among = k; labelled = t.labelled; half = t.half; on = t.on; hit = t.hit })
      | inr e ↦ inr (
        subst (λ (p : Labelled). p.label ≡ label) (sym e) t.labelled,
        (touched piece.rect radius c positive).1 (t.half, subst (λ (p : Labelled). IsOn (Has p.rect) t.half) (sym e) t.on, t.hit),
      )
    ],
    λ h. elim h [
      | inl t ↦ record { piece = t.piece; among = Contains-append_left pieces (piece ∷ []) t.piece t.among; labelled = t.labelled; half = t.half; on = t.on; hit = t.hit }
      | inr k ↦ let hit = (touched piece.rect radius c positive).0 k.1 in
          record { piece = piece; among = Contains-push pieces piece; labelled = k.0; half = hit.0; on = hit.1; hit = hit.2 }
    ],
  )

  touches_more : (pieces : List Labelled) (i : ℕ) (piece : Labelled) (label : ℕ) → i < length pieces → piece ≡ get_or pieces i piece
      → TouchesLabel (take (i + 1) pieces) radius c label ↔ (TouchesLabel (take i pieces) radius c label ⊎ ((piece.label ≡ label) × IsNearCell piece.rect radius c))
  touches_more pieces i piece label small is =
      subst (λ (ys : List Labelled). TouchesLabel ys radius c label ↔ (TouchesLabel (take i pieces) radius c label ⊎ ((piece.label ≡ label) × IsNearCell piece.rect radius c)))
      (sym (taken_more pieces i piece small is)) (touches_push (take i pieces) piece label)

  -- two labels have the cell where the defect touches two
  pub two_touched : (pieces zones : List Labelled) (window : Rect) → AreZonesOf pieces radius window zones → Has window c → IsInTwoLabels zones c ↔ TouchesTwoLabels pieces radius c
  two_touched pieces zones window same at = (
    λ t. record { one = t.one; other = t.other; touches_one = (same c at t.one).0 t.in_one; touches_other = (same c at t.other).0 t.in_other; different = t.different },
    λ t. record { one = t.one; other = t.other; in_one = (same c at t.one).1 t.touches_one; in_other = (same c at t.other).1 t.touches_other; different = t.different },
  )

-- the rectangles that were found from none, and joined
pub shorts_found : (radius : ℕ) → 1 ≤ radius → (pieces zones : List Labelled) (window : Rect) (old new all : List Rect) → AreZonesOf pieces radius window zones → length old ≡ 0
    → GainsPart (IsInTwoLabels zones) window old new → HaveSameCells new all → (c : Cell) → IsInUnion all c ↔ (TouchesTwoLabels pieces radius c × Has window c)
shorts_found radius positive pieces zones window old new all same e gains joined c =
    let both = gained_all (IsInTwoLabels zones) window old new all e gains joined c in (
      λ u. let h = both.0 u in ((two_touched radius positive c pieces zones window same h.1).0 h.0, h.1),
      λ h. both.1 ((two_touched radius positive c pieces zones window same h.1).1 h.0, h.1),
    )

pub zones_none : (radius : ℕ) (window : Rect) → AreZonesOf [] radius window []
zones_none radius window c at label = (λ h. absurd (label_none c label h), λ t. absurd (Contains-none t.among))

pub zones_more : (radius : ℕ) → 1 ≤ radius → (window : Rect) (pieces : List Labelled) (i : ℕ) (piece : Labelled) (found : Option Rect) (old new : List Labelled) → i < length pieces
    → piece ≡ get_or pieces i piece
    → ((c : Cell) → IsInside found c ↔ (IsNearCell piece.rect radius c × Has window c)) → GainsZone old new found piece.label
    → AreZonesOf (take i pieces) radius window old → AreZonesOf (take (i + 1) pieces) radius window new
zones_more radius positive window pieces i piece found old new small is inside gains so_far c at label =
    let more = touches_more radius positive c pieces i piece label small is in
    let gain = gains c label in
    let before = so_far c at label in (
      λ h. more.1 (elim (gain.0 h) [ inl k ↦ inl (before.0 k) | inr k ↦ inr (k.0, ((inside c).0 k.1).0) ]),
      λ h. gain.1 (elim (more.0 h) [ inl k ↦ inl (before.1 k) | inr k ↦ inr (k.0, (inside c).1 (k.1, at)) ]),
    )

pub zones_all : (radius : ℕ) (window : Rect) (pieces : List Labelled) (i : ℕ) (zones : List Labelled) → length pieces ≤ i → AreZonesOf (take i pieces) radius window zones
    → AreZonesOf pieces radius window zones
zones_all radius window pieces i zones past h = subst (λ (ys : List Labelled). AreZonesOf ys radius window zones) (take_all i pieces past) h

-- the ends of the places at most the radius from some: in 32 bits no sum wraps
module _ (places within : Interval) (radius : ℕ) (is_radius : IsRadius radius) where
  pub near_low : (low : ℤ) → low ≡ int_max (to_z w32 (of_z w32 (to_z w32 (of_z w32 places.low) -ℤ to_z w32 radius))) (to_z w32 (of_z w32 within.low))
      → to_z w32 (of_z w32 low) ≡ int_max (places.low -ℤ pos radius) within.low
  near_low low is = omega (arith, ints, clamps)

  pub near_high : (high : ℤ) → high ≡ int_min (to_z w32 (of_z w32 (to_z w32 (of_z w32 places.high) +ℤ to_z w32 radius))) (to_z w32 (of_z w32 within.high))
      → to_z w32 (of_z w32 high) ≡ int_min (places.high +ℤ pos radius) within.high
  near_high high is = omega (arith, ints, clamps)
