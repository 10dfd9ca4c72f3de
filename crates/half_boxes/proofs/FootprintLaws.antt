-- the half units that some defect of a row of centres has, and those that each of them has
use Rattle.std.proofs.Common.{ℕ, ◌≤◌, arith, ℤ, pos, ◌+ℤ◌, ◌-ℤ◌, ◌<ℤ◌, ◌≤ℤ◌, ◌≡◌, ◌↔◌, refl}
use Rattle.lists.proofs.Words.{ints, by_lt_z}
use Rattle.geo_core.specs.Plane.{IsIn}
use Rattle.geo_core.specs.declared.plane.Half.{Half}
use Rattle.geo_core.specs.declared.plane.Rect.{Rect}
use Rattle.fault_model.specs.Halves.{IsUnder}
use Rattle.fault_model.proofs.HalfLaws.{whole_of}
use Rattle.half_boxes.specs.Footprints.{IsAlwaysHit, IsReached}
use Rattle.half_boxes.specs.HalfBoxes.{HasHalf}
use Rattle.half_boxes.specs.declared.boxes.HalfBox.{HalfBox}

-- ---- along one axis

abbrev pub IsHitByOne : ℤ → ℤ → ℕ → ℤ → Type 0
IsHitByOne low high side u = (i : ℤ) × IsIn low high i × IsUnder i side u

abbrev pub IsHitByAll : ℤ → ℤ → ℕ → ℤ → Type 0
IsHitByAll low high side u = (i : ℤ) → IsIn low high i → IsUnder i side u

module _ (low high : ℤ) (side : ℕ) (some : low <ℤ high) where
  -- the defect round the unit of the half unit has it, or else the first one or the last one does
  hit_by_one : (u from before : ℤ) → from ≡ low +ℤ low +ℤ pos 1 -ℤ pos side → before ≡ high +ℤ high -ℤ pos 1 +ℤ pos side → 1 ≤ side → IsIn from before u → IsHitByOne low high side u
  hit_by_one u from before e f one h =
      let a = h.from in let b = h.before in
      let w = whole_of u in
      let i : ℤ = w.0 in
      let c = w.1.from in let d = w.1.before in
      by_lt_z i low
      (λ l. (low, record { from = omega (arith, ints); before = some }, record { from = omega (arith, ints); before = omega (arith, ints) }))
      (λ k. by_lt_z i high
      (λ l. (i, record { from = k; before = l }, record { from = omega (arith, ints); before = omega (arith, ints) }))
      (λ l. (high -ℤ pos 1, record { from = omega (arith, ints); before = omega (arith, ints) }, record { from = omega (arith, ints); before = omega (arith, ints) })))

  pub reached_are : (u from before : ℤ) → from ≡ low +ℤ low +ℤ pos 1 -ℤ pos side → before ≡ high +ℤ high -ℤ pos 1 +ℤ pos side → 1 ≤ side → IsIn from before u ↔ IsHitByOne low high side u
  reached_are u from before e f one = (
    hit_by_one u from before e f one,
    λ t.
        let a = t.1.from in let b = t.1.before in let c = t.2.from in let d = t.2.before in
        record { from = omega (arith, ints); before = omega (arith, ints) },
  )

  pub hit_are : (u from before : ℤ) → from ≡ high +ℤ high -ℤ pos 1 -ℤ pos side → before ≡ low +ℤ low +ℤ pos 1 +ℤ pos side → IsIn from before u ↔ IsHitByAll low high side u
  hit_are u from before e f = (
    λ h i k. let a = h.from in let b = h.before in let c = k.from in let d = k.before in record { from = omega (arith, ints); before = omega (arith, ints) },
    λ all.
        let first = all low (record { from = omega (arith, ints); before = some }) in
        let last = all (high -ℤ pos 1) (record { from = omega (arith, ints); before = omega (arith, ints) }) in
        let a = first.before in let b = last.from in
        record { from = omega (arith, ints); before = omega (arith, ints) },
  )

  pub never_hit : (u : ℤ) → (low +ℤ low +ℤ pos 1 +ℤ pos side) ≤ℤ (high +ℤ high -ℤ pos 1 -ℤ pos side) → IsHitByAll low high side u → ⊥
  never_hit u none all = let h = (hit_are u _ _ refl refl).1 all in let a = h.from in let b = h.before in absurd (omega (arith, ints))

-- ---- both axes

module _ (zone : Rect) (side : ℕ) (h : Half) where
  pub reach_has : (one : HalfBox) → IsIn one.columns.low one.columns.high h.u ↔ IsHitByOne zone.x0 zone.x1 side h.u → IsIn one.rows.low one.rows.high h.v ↔ IsHitByOne zone.y0 zone.y1 side h.v
      → HasHalf one h ↔ IsReached zone side h
  reach_has one across up = (
    λ k.
        let x = across.0 k.across in
        let y = up.0 k.up in
        record { centre = record { i = x.0; j = y.0 }; in_zone = record { across = x.1; up = y.1 }; hit = (x.2, y.2) },
    λ r. record { across = across.1 (r.centre.i, r.in_zone.across, r.hit.0); up = up.1 (r.centre.j, r.in_zone.up, r.hit.1) },
  )

  -- what each centre hits, the centres of one row hit, and those of one column
  pub columns_hit : IsAlwaysHit zone side h → IsHitByAll zone.x0 zone.x1 side h.u
  columns_hit all i k =
      let some = zone.up.some in
      (all (record { i = i; j = zone.y0 }) (record { across = k; up = record { from = omega (arith, ints); before = some } })).0

  pub rows_hit : IsAlwaysHit zone side h → IsHitByAll zone.y0 zone.y1 side h.v
  rows_hit all j k =
      let some = zone.across.some in
      (all (record { i = zone.x0; j = j }) (record { across = record { from = omega (arith, ints); before = some }; up = k })).1

  pub core_has : (one : HalfBox) → IsIn one.columns.low one.columns.high h.u ↔ IsHitByAll zone.x0 zone.x1 side h.u → IsIn one.rows.low one.rows.high h.v ↔ IsHitByAll zone.y0 zone.y1 side h.v
      → HasHalf one h ↔ IsAlwaysHit zone side h
  core_has one across up = (
    λ k c has. (across.0 k.across c.i has.across, up.0 k.up c.j has.up),
    λ all. record { across = across.1 (columns_hit all); up = up.1 (rows_hit all) },
  )
