-- boxes of half squares by their columns and their rows
use Rattle.std.proofs.Common.{◌≡◌, refl, sym, subst, ap, ◌∙◌, arith, inl, inr, ◌⊎◌, ℤ, ◌+ℤ◌, ◌↔◌}
use Rattle.lists.proofs.Words.{ints}
use Rattle.geo_core.specs.Plane.{IsIn, IntervalsOverlap, IntervalsTouch, IsPartOf, IsIntervalJoin, Has}
use Rattle.geo_core.specs.declared.plane.Half.{Half}
use Rattle.geo_core.specs.declared.plane.Rect.{Rect}
use Rattle.fault_model.specs.FaultNames.{IsOn}
use Rattle.fault_model.proofs.HalfLaws.{Neighbours-sym, halves_in, whole_in}
use Rattle.half_boxes.specs.HalfBoxes.{HasHalf, IsBoxJoin, LiesWithin, OverlapHalves, TouchHalves}
use Rattle.half_boxes.specs.declared.boxes.HalfBox.{HalfBox}

same_half : (p q : Half) → p.u ≡ q.u → p.v ≡ q.v → p ≡ q
same_half p q e f = let at : ℤ → ℤ → Half = λ u v. record { u = u; v = v } in ap (λ u. at u p.v) e ∙ ap (at q.u) f

-- ---- the half squares of a rectangle's cells

pub of_rect_has : (rect : Rect) (one : HalfBox) → one.columns.low ≡ rect.x0 +ℤ rect.x0 → one.columns.high ≡ rect.x1 +ℤ rect.x1 → one.rows.low ≡ rect.y0 +ℤ rect.y0 → one.rows.high ≡ rect.y1 +ℤ rect.y1
    → (h : Half) → HasHalf one h ↔ IsOn (Has rect) h
of_rect_has rect one left right bottom top h = (
  λ has.
      let i = whole_in rect.x0 rect.x1 h.u (subst (λ low. IsIn low (rect.x1 +ℤ rect.x1) h.u) left (subst (λ high. IsIn one.columns.low high h.u) right has.across)) in
      let j = whole_in rect.y0 rect.y1 h.v (subst (λ low. IsIn low (rect.y1 +ℤ rect.y1) h.v) bottom (subst (λ high. IsIn one.rows.low high h.v) top has.up)) in
      (record { i = i.0; j = j.0 }, (i.1, j.1), record { across = i.2; up = j.2 }),
  λ (c, lies, has).
      record { across = rw (left, right) (halves_in rect.x0 rect.x1 h.u c.i lies.0 has.across); up = rw (bottom, top) (halves_in rect.y0 rect.y1 h.v c.j lies.1 has.up) },
)

-- ---- two boxes

pub TouchHalves-sym : (one other : HalfBox) → TouchHalves one other → TouchHalves other one
TouchHalves-sym one other (p, q, h, k, inl e) = (q, p, k, h, inl (sym e))
TouchHalves-sym one other (p, q, h, k, inr n) = (q, p, k, h, inr (Neighbours-sym p q n))

module _ (a b : HalfBox) where
  abbrev ColumnsOverlap : Type 0
  ColumnsOverlap = IntervalsOverlap a.columns.low a.columns.high b.columns.low b.columns.high

  abbrev RowsOverlap : Type 0
  RowsOverlap = IntervalsOverlap a.rows.low a.rows.high b.rows.low b.rows.high

  abbrev ColumnsTouch : Type 0
  ColumnsTouch = IntervalsTouch a.columns.low a.columns.high b.columns.low b.columns.high

  abbrev RowsTouch : Type 0
  RowsTouch = IntervalsTouch a.rows.low a.rows.high b.rows.low b.rows.high

  pub columns_overlap : OverlapHalves a b → ColumnsOverlap
  columns_overlap (h, k, l) = (h.u, k.across, l.across)

  pub rows_overlap : OverlapHalves a b → RowsOverlap
  rows_overlap (h, k, l) = (h.v, k.up, l.up)

  pub touch_by_axis : TouchHalves a b → (ColumnsOverlap × RowsTouch) ⊎ (ColumnsTouch × RowsOverlap)
  touch_by_axis (p, q, h, k, n) = elim n [
    | inl e ↦
        let x : p.u ≡ q.u = ap (λ (g : Half). g.u) e in
        let y : p.v ≡ q.v = ap (λ (g : Half). g.v) e in
        inl ((q.u, subst (IsIn a.columns.low a.columns.high) x h.across, k.across), (p.v, q.v, h.up, k.up, inl y))
    | inr (inl (e, next)) ↦ inr ((p.u, q.u, h.across, k.across, inr next), (q.v, subst (IsIn a.rows.low a.rows.high) e h.up, k.up))
    | inr (inr (e, next)) ↦ inl ((q.u, subst (IsIn a.columns.low a.columns.high) e h.across, k.across), (p.v, q.v, h.up, k.up, inr next))
  ]

  pub touch_up : ColumnsOverlap → RowsTouch → TouchHalves a b
  touch_up (u, h, k) (v, w, l, m, n) =
      let p : Half = record { u = u; v = v } in
      let q : Half = record { u = u; v = w } in
      (p, q, record { across = h; up = l }, record { across = k; up = m }, elim n [ inl e ↦ inl (same_half p q refl e) | inr next ↦ inr (inr (refl, next)) ])

  pub touch_across : ColumnsTouch → RowsOverlap → TouchHalves a b
  touch_across (u, w, h, k, n) (v, l, m) =
      let p : Half = record { u = u; v = v } in
      let q : Half = record { u = w; v = v } in
      (p, q, record { across = h; up = l }, record { across = k; up = m }, elim n [ inl e ↦ inl (same_half p q e refl) | inr next ↦ inr (inl (refl, next)) ])

  -- the one lies in the other where its columns and its rows do
  pub columns_in : LiesWithin a b → IsPartOf a.columns.low a.columns.high b.columns.low b.columns.high
  columns_in inside u h =
      let some = a.rows.within.some in
      (inside (record { u = u; v = a.rows.low }) (record { across = h; up = record { from = omega (arith, ints); before = some } })).across

  pub rows_in : LiesWithin a b → IsPartOf a.rows.low a.rows.high b.rows.low b.rows.high
  rows_in inside v h =
      let some = a.columns.within.some in
      (inside (record { u = a.columns.low; v = v }) (record { across = record { from = omega (arith, ints); before = some }; up = h })).up

  pub all_in : IsPartOf a.columns.low a.columns.high b.columns.low b.columns.high → IsPartOf a.rows.low a.rows.high b.rows.low b.rows.high → LiesWithin a b
  all_in across up h k = record { across = across h.u k.across; up = up h.v k.up }

-- a box that has the common columns and the common rows
pub clipped : (a b common : HalfBox) → ((x : ℤ) → IsIn common.columns.low common.columns.high x ↔ (IsIn a.columns.low a.columns.high x × IsIn b.columns.low b.columns.high x))
    → ((x : ℤ) → IsIn common.rows.low common.rows.high x ↔ (IsIn a.rows.low a.rows.high x × IsIn b.rows.low b.rows.high x)) → (h : Half) → HasHalf common h ↔ (HasHalf a h × HasHalf b h)
clipped a b common across up h = (
  λ k. let x = (across h.u).0 k.across in let y = (up h.v).0 k.up in (record { across = x.0; up = y.0 }, record { across = x.1; up = y.1 }),
  λ k. record { across = (across h.u).1 (k.0.across, k.1.across); up = (up h.v).1 (k.0.up, k.1.up) },
)

-- a box that has the columns and the rows of both, and no more than it must
pub joined : (a b both : HalfBox) → IsIntervalJoin a.columns.low a.columns.high b.columns.low b.columns.high both.columns.low both.columns.high
    → IsIntervalJoin a.rows.low a.rows.high b.rows.low b.rows.high both.rows.low both.rows.high → IsBoxJoin a b both
joined a b both across up = record {
  first = all_in a both across.first up.first;
  second = all_in b both across.second up.second;
  least = λ box p q. all_in both box
      (across.least box.columns.low box.columns.high (columns_in a box p) (columns_in b box q))
      (up.least box.rows.low box.rows.high (rows_in a box p) (rows_in b box q));
}
