-- what a defect leaves of a box of half squares
use Rattle.std.proofs.Common.{ℕ, ◌≡◌, refl, arith, inl, inr, ◌⊎◌, ℤ, pos, ◌+ℤ◌, ◌-ℤ◌, ◌≤ℤ◌, ◌<ℤ◌, ◌↔◌}
use Rattle.lists.proofs.Words.{ints, by_lt_z, int_max, int_min}
use Rattle.paths.specs.Paths.{stay, step}
use Rattle.paths.proofs.PathLaws.{append, first}
use Rattle.geo_core.specs.Plane.{IsIn, Adjoins}
use Rattle.geo_core.specs.declared.axis.Axis.{Axis}
use Rattle.geo_core.specs.declared.axis.Axis.TheVariants.{X, Y}
use Rattle.geo_core.specs.declared.plane.Cell.{Cell}
use Rattle.geo_core.specs.declared.plane.Half.{Half}
use Rattle.geo_core.proofs.IntervalLaws.{clipped, in_or_not}
use Rattle.fault_model.specs.FaultNames.{IsInFootprint, Neighbours, Walk}
use Rattle.fault_model.specs.Halves.{IsUnder}
use Rattle.fault_model.proofs.LineLaws.{between, walk_in_box, Walk-reverse}
use Rattle.half_boxes.specs.HalfBoxes.{HasHalf, span_along}
use Rattle.half_boxes.specs.declared.boxes.HalfBox.{HalfBox}
use Rattle.union_area.specs.WindowParts.{place_along}
use Rattle.open_grid.specs.inside.Wires.{Spans, high_end, low_end, other_axis}

-- ---- along one axis

module _ (low high x : ℤ) (side : ℕ) where
  -- of a span that the defect spans it has each half unit
  pub spanned_under : Spans low high side x → (u : ℤ) → IsIn low high u → IsUnder x side u
  spanned_under spans u h =
      let a = spans.begins in let b = spans.ends in let p = h.from in let q = h.before in
      record { from = omega (arith, ints); before = omega (arith, ints) }

  -- of a span that it does not it leaves one
  abbrev pub LeavesSome : Type 0
  LeavesSome = (u : ℤ) × IsIn low high u × (IsUnder x side u → ⊥)

  pub spans_or_leaves : low <ℤ high → Spans low high side x ⊎ LeavesSome
  spans_or_leaves some = by_lt_z low (low_end x side)
      (λ l. inr (low, record { from = omega (arith, ints); before = some }, λ h. let f = h.from in absurd (omega (arith, ints))))
      (λ l. by_lt_z (high_end x side) high
      (λ m. inr (high -ℤ pos 1, record { from = omega (arith, ints); before = omega (arith, ints) }, λ h. let b = h.before in absurd (omega (arith, ints))))
      (λ m. inl (record { begins = l; ends = m })))

-- ---- half squares by their places along an axis, and across it

-- the column of the half square, or its row
abbrev pub number_along : Axis → Half → ℤ
number_along X h = h.u
number_along Y h = h.v

pub has_along : (axis : Axis) (one : HalfBox) (h : Half) → HasHalf one h → IsIn (span_along axis one).low (span_along axis one).high (number_along axis h)
has_along X one h has = has.across
has_along Y one h has = has.up

-- the defect at the cell has it where it has its column and its row
pub hit_both : (axis : Axis) (side : ℕ) (c : Cell) (h : Half) → IsUnder (place_along axis c) side (number_along axis h) → IsUnder (place_along (other_axis axis) c) side (number_along (other_axis axis) h)
    → IsInFootprint c side h
hit_both X side c h along through = (along, through)
hit_both Y side c h along through = (through, along)

pub hit_along : (axis : Axis) (side : ℕ) (c : Cell) (h : Half) → IsInFootprint c side h → IsUnder (place_along axis c) side (number_along axis h)
hit_along X side c h hit = hit.0
hit_along Y side c h hit = hit.1

-- a step leads to a place that is at most one higher
adjoins_above : (a b : ℤ) → Adjoins a b → b ≤ℤ (a +ℤ pos 1)
adjoins_above a b (inl e) = omega (arith, ints)
adjoins_above a b (inr e) = omega (arith, ints)

same_above : (a b : ℤ) → a ≡ b → b ≤ℤ (a +ℤ pos 1)
same_above a b e = omega (arith, ints)

step_above : (axis : Axis) (p q : Half) → Neighbours p q → number_along axis q ≤ℤ (number_along axis p +ℤ pos 1)
step_above X p q (inl (e, a)) = adjoins_above p.u q.u a
step_above X p q (inr (e, a)) = same_above p.u q.u e
step_above Y p q (inl (e, a)) = same_above p.v q.v e
step_above Y p q (inr (e, a)) = adjoins_above p.v q.v a

-- what a box has between two numbers along an axis is joined
walk_in_part : {S : Half → Type 0} (axis : Axis) (one : HalfBox) (low high : ℤ) → ((h : Half) → HasHalf one h → IsIn low high (number_along axis h) → S h)
    → (p q : Half) → HasHalf one p → HasHalf one q → IsIn low high (number_along axis p) → IsIn low high (number_along axis q) → Walk S p q
walk_in_part X one low high all p q has_p has_q at_p at_q =
    let l = int_max one.columns.low low in let r = int_min one.columns.high high in
    let cut : (x : ℤ) → IsIn l r x ↔ (IsIn one.columns.low one.columns.high x × IsIn low high x) =
    λ x. clipped one.columns.low one.columns.high low high l r x refl refl in
    walk_in_box l r one.rows.low one.rows.high (λ h x y. let k = (cut h.u).0 x in all h (record { across = k.0; up = y }) k.1) p q
    ((cut p.u).1 (has_p.across, at_p)) has_p.up ((cut q.u).1 (has_q.across, at_q)) has_q.up
walk_in_part Y one low high all p q has_p has_q at_p at_q =
    let b = int_max one.rows.low low in let t = int_min one.rows.high high in
    let cut : (y : ℤ) → IsIn b t y ↔ (IsIn one.rows.low one.rows.high y × IsIn low high y) =
    λ y. clipped one.rows.low one.rows.high low high b t y refl refl in
    walk_in_box one.columns.low one.columns.high b t (λ h x y. let k = (cut h.v).0 y in all h (record { across = x; up = k.0 }) k.1) p q
    has_p.across ((cut p.v).1 (has_p.up, at_p)) has_q.across ((cut q.v).1 (has_q.up, at_q))

-- ---- what is left of a wire

-- the half square is the wire's, and the defect leaves it
abbrev pub IsLeftOfWire : HalfBox → ℕ → Cell → Half → Type 0
IsLeftOfWire wire side c h = HasHalf wire h × (IsInFootprint c side h → ⊥)

module _ (wire : HalfBox) (side : ℕ) (c : Cell) where
  abbrev Left : Half → Type 0
  Left = IsLeftOfWire wire side c

  module _ (axis : Axis) where
    abbrev begin : ℤ
    begin = low_end (place_along axis c) side

    abbrev end : ℤ
    end = high_end (place_along axis c) side

    -- what lies behind the defect is joined, and so is what lies before it
    pub walk_behind : (p q : Half) → HasHalf wire p → HasHalf wire q → end ≤ℤ number_along axis p → end ≤ℤ number_along axis q → Walk Left p q
    walk_behind p q has_p has_q p_behind q_behind =
        walk_in_part axis wire end (span_along axis wire).high
        (λ h has i. (has, λ hit. let a = (hit_along axis side c h hit).before in let b = i.from in absurd (omega (arith, ints))))
        p q has_p has_q (record { from = p_behind; before = (has_along axis wire p has_p).before }) (record { from = q_behind; before = (has_along axis wire q has_q).before })

    pub walk_before : (p q : Half) → HasHalf wire p → HasHalf wire q → number_along axis p <ℤ begin → number_along axis q <ℤ begin → Walk Left p q
    walk_before p q has_p has_q p_before q_before =
        walk_in_part axis wire (span_along axis wire).low begin
        (λ h has i. (has, λ hit. let a = (hit_along axis side c h hit).from in let b = i.before in absurd (omega (arith, ints))))
        p q has_p has_q (record { from = (has_along axis wire p has_p).from; before = p_before }) (record { from = (has_along axis wire q has_q).from; before = q_before })

    -- ---- a defect that leads across

    module _ (some : begin <ℤ end) (through : Spans (span_along (other_axis axis) wire).low (span_along (other_axis axis) wire).high side (place_along (other_axis axis) c)) where
      -- what is left and lies before its end, lies before it
      left_before : (h : Half) → Left h → number_along axis h <ℤ end → number_along axis h <ℤ begin
      left_before h left near = by_lt_z (number_along axis h) begin (λ l. l)
          (λ l. absurd (left.1 (hit_both axis side c h (record { from = l; before = near })
          (spanned_under _ _ (place_along (other_axis axis) c) side through (number_along (other_axis axis) h) (has_along (other_axis axis) wire h left.0)))))

      stays_before : {p q : Half} → Walk Left p q → number_along axis p <ℤ begin → number_along axis q <ℤ begin
      stays_before (stay h) before = before
      stays_before (step {a = a} {b = b} h e w) before =
          stays_before w (left_before b (first w) (let n = step_above axis a b e in omega (arith, ints)))

      -- so no walk leads past it
      pub none_past : (p q : Half) → number_along axis p <ℤ end → begin ≤ℤ number_along axis q → Walk Left p q → ⊥
      none_past p q near far w = let b = stays_before w (left_before p (first w) near) in omega (arith, ints)

  -- ---- a defect that leaves a column and a row

  along_row : (y : ℤ) → IsIn wire.rows.low wire.rows.high y → (IsUnder c.j side y → ⊥) → (x w : ℤ) → IsIn wire.columns.low wire.columns.high x → IsIn wire.columns.low wire.columns.high w
      → Walk Left (record { u = x; v = y }) (record { u = w; v = y })
  along_row y row free x w h k =
      between {S = Left} (λ z. record { u = z; v = y }) (λ z. inl (refl, inl refl)) wire.columns.low wire.columns.high x w h k
      (λ z column. (record { across = column; up = row }, λ hit. free hit.1))

  along_column : (x : ℤ) → IsIn wire.columns.low wire.columns.high x → (IsUnder c.i side x → ⊥) → (y z : ℤ) → IsIn wire.rows.low wire.rows.high y → IsIn wire.rows.low wire.rows.high z
      → Walk Left (record { u = x; v = y }) (record { u = x; v = z })
  along_column x column free y z h k =
      between {S = Left} (λ w. record { u = x; v = w }) (λ w. inr (refl, inl refl)) wire.rows.low wire.rows.high y z h k
      (λ w row. (record { across = column; up = row }, λ hit. free hit.0))

  module _ (column : LeavesSome wire.columns.low wire.columns.high c.i side) (row : LeavesSome wire.rows.low wire.rows.high c.j side) where
    -- from each half square a line leads to the one or the other, and these cross
    to_crossing : (h : Half) → Left h → Walk Left h (record { u = column.0; v = row.0 })
    to_crossing h left = elim (in_or_not (low_end c.i side) (high_end c.i side) h.u) [
      | inr free ↦ append (along_column h.u left.0.across free h.v row.0 left.0.up row.1) (along_row row.0 row.1 row.2 h.u column.0 left.0.across column.1)
      | inl under ↦ append (along_row h.v left.0.up (λ k. left.1 (under, k)) h.u column.0 left.0.across column.1) (along_column column.0 column.1 column.2 h.v row.0 left.0.up row.1)
    ]

    pub walk_by_crossing : (p q : Half) → Left p → Left q → Walk Left p q
    walk_by_crossing p q left_p left_q = append (to_crossing p left_p) (Walk-reverse (to_crossing q left_q))
