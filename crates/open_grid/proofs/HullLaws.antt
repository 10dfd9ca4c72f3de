-- hulls of spots, and the numbers of anchors
use Rattle.std.proofs.Common.{ℕ, zero, suc, ◌<◌, ◌≤◌, ◌≡◌, ◌≢◌, refl, subst, List, [], ◌∷◌, Contains, Some, slice_get, arith, inl, inr, ◌⊎◌, ℤ, pos, neg_ℤ, ◌-ℤ◌, ◌≤ℤ◌, ◌<ℤ◌}
use Rattle.lists.proofs.Words.{AllZip, ints, by_lt_z}
use Rattle.lists.proofs.Containing.{Contains-cons_cases, Contains-none}
use Rattle.geo_core.specs.Plane.{IsIn, IsInterval, IsInUnion}
use Rattle.geo_core.specs.declared.axis.Axis.{Axis}
use Rattle.geo_core.specs.declared.axis.Axis.TheVariants.{X, Y}
use Rattle.geo_core.specs.declared.plane.Half.{Half}
use Rattle.geo_core.specs.declared.plane.Rect.{Rect}
use Rattle.geo_core.proofs.IntervalLaws.{in_or_not}
use Rattle.fault_model.specs.FaultNames.{IsOn}
use Rattle.fault_model.specs.declared.island.Spot.{Spot}
use Rattle.half_boxes.specs.HalfBoxes.{HasHalf, LiesWithin, span_along}
use Rattle.half_boxes.specs.declared.boxes.HalfBox.{HalfBox}
use Rattle.half_boxes.specs.declared.span.HalfSpan.{HalfSpan}
use Rattle.half_boxes.specs.declared.span.TheConstants.{FARTHEST_HALF}
use Rattle.open_grid.specs.inside.ZoneNeeds.{IsHullOf}
use Rattle.open_grid.proofs.WireLaws.{has_along, number_along}

-- ---- boxes and hulls

has_or_not : (box : HalfBox) (h : Half) → HasHalf box h ⊎ (HasHalf box h → ⊥)
has_or_not box h = elim (in_or_not box.columns.low box.columns.high h.u) [
  | inl x ↦ elim (in_or_not box.rows.low box.rows.high h.v) [ inl y ↦ inl (record { across = x; up = y }) | inr n ↦ inr (λ has. n has.up) ]
  | inr n ↦ inr (λ has. n has.across)
]

-- a box has a half square at each place along an axis
pub half_at : (axis : Axis) (one : HalfBox) (x : ℤ) → IsIn (span_along axis one).low (span_along axis one).high x → (h : Half) × HasHalf one h × (number_along axis h ≡ x)
half_at X one x i = let some = one.rows.within.some in (record { u = x; v = one.rows.low }, record { across = i; up = record { from = omega (arith, ints); before = some } }, refl)
half_at Y one x i = let some = one.columns.within.some in (record { u = one.columns.low; v = x }, record { across = record { from = omega (arith, ints); before = some }; up = i }, refl)

-- the box with this span along the axis in place of its own
abbrev with_span : Axis → HalfBox → HalfSpan → HalfBox
with_span X one span = record { columns = span; rows = one.rows }
with_span Y one span = record { columns = one.columns; rows = span }

has_with_span : (axis : Axis) (one : HalfBox) (span : HalfSpan) (h : Half) → HasHalf one h → IsIn span.low span.high (number_along axis h) → HasHalf (with_span axis one span) h
has_with_span X one span h has i = record { across = i; up = has.up }
has_with_span Y one span h has i = record { across = has.across; up = i }

with_span_has : (axis : Axis) (one : HalfBox) (span : HalfSpan) (h : Half) → HasHalf (with_span axis one span) h → IsIn span.low span.high (number_along axis h)
with_span_has X one span h has = has.across
with_span_has Y one span h has = has.up

-- the span's facts
within_along : (axis : Axis) (one : HalfBox) → IsInterval FARTHEST_HALF (span_along axis one).low (span_along axis one).high
within_along X one = one.columns.within
within_along Y one = one.rows.within

module _ (rects : List Rect) (hull : HalfBox) (is : IsHullOf rects hull) where
  pub in_hull : (h : Half) → IsOn (IsInUnion rects) h → HasHalf hull h
  in_hull = (is.lies hull).0 (λ h has. has)

  -- where the hull does not lie within a box, some half square lies outside it
  pub some_outside : (box : HalfBox) → (LiesWithin hull box → ⊥) → ((h : Half) → IsOn (IsInUnion rects) h → (HasHalf box h → ⊥) → ⊥) → ⊥
  some_outside box not none = not ((is.lies box).1 (λ h on. elim (has_or_not box h) [ inl has ↦ has | inr out ↦ absurd (none h on out) ]))

  -- some has the last place of the hull, and so one from a lower place on, and some has the first
  pub some_behind : (axis : Axis) (edge : ℤ) → neg_ℤ FARTHEST_HALF <ℤ edge → edge <ℤ (span_along axis hull).high → ((h : Half) → IsOn (IsInUnion rects) h → edge ≤ℤ number_along axis h → ⊥) → ⊥
  some_behind axis edge high_enough short none =
      let w = within_along axis hull in let a = w.some in let b = w.least in let m = w.most in
      let span : HalfSpan = record { low = neg_ℤ FARTHEST_HALF; high = edge; within = record { some = high_enough; least = omega (arith, ints); most = omega (arith, ints) } } in
      some_outside (with_span axis hull span)
      (λ inside.
      let t = half_at axis hull ((span_along axis hull).high -ℤ pos 1) (record { from = omega (arith, ints); before = omega (arith, ints) }) in
      let k = (with_span_has axis hull span t.0 (inside t.0 t.1)).before in let e = t.2 in
      omega (arith, ints))
      (λ h on out. none h on (by_lt_z (number_along axis h) edge
      (λ l. let f = (has_along axis hull h (in_hull h on)).from in absurd (out (has_with_span axis hull span h (in_hull h on) (record { from = omega (arith, ints); before = l }))))
      (λ l. l)))

  pub some_before : (axis : Axis) (edge : ℤ) → edge <ℤ FARTHEST_HALF → (span_along axis hull).low <ℤ edge → ((h : Half) → IsOn (IsInUnion rects) h → number_along axis h <ℤ edge → ⊥) → ⊥
  some_before axis edge low_enough late none =
      let w = within_along axis hull in let a = w.some in let b = w.least in let m = w.most in
      let span : HalfSpan = record { low = edge; high = FARTHEST_HALF; within = record { some = low_enough; least = omega (arith, ints); most = omega (arith, ints) } } in
      some_outside (with_span axis hull span)
      (λ inside.
      let t = half_at axis hull (span_along axis hull).low (record { from = omega (arith, ints); before = omega (arith, ints) }) in
      let k = (with_span_has axis hull span t.0 (inside t.0 t.1)).from in let e = t.2 in
      omega (arith, ints))
      (λ h on out. by_lt_z (number_along axis h) edge (none h on)
      (λ l. let f = (has_along axis hull h (in_hull h on)).before in out (has_with_span axis hull span h (in_hull h on) (record { from = l; before = omega (arith, ints) }))))

-- ---- numbers of anchors

-- a number that has a spot with this hull
pub record HasNumberOf (spots : List Spot) (one : HalfBox) : Type 0 where
  pub number : ℕ
  pub spot : Spot
  pub at : slice_get spots number ≡ Some spot
  pub hull : IsHullOf spot.rects one

pub number_of_hull : (spots : List Spot) (boxes : List HalfBox) → AllZip (λ (spot : Spot). IsHullOf spot.rects) spots boxes → (one : HalfBox) → Contains boxes one → HasNumberOf spots one
number_of_hull [] [] hulls one among = absurd (Contains-none among)
number_of_hull [] (box ∷ boxes) hulls one among = absurd hulls
number_of_hull (spot ∷ spots) [] hulls one among = absurd hulls
number_of_hull (spot ∷ spots) (box ∷ boxes) hulls one among = elim (Contains-cons_cases box boxes one among) [
  | inl is ↦ record { number = 0; spot = spot; at = refl; hull = subst (IsHullOf spot.rects) is hulls.0 }
  | inr rest ↦ let n = number_of_hull spots boxes hulls.1 one rest in record { number = suc n.number; spot = n.spot; at = n.at; hull = n.hull }
]

-- of two numbers or more there is one beside each
pub another : (n k : ℕ) → 2 ≤ n → (j : ℕ) × (j < n) × (k ≢ j)
another n zero two = (1, omega arith, λ e. omega arith)
another n (suc k) two = (0, omega arith, λ e. omega arith)
