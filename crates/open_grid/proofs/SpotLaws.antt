-- which spots of a wire a defect parts, by their hulls
use Rattle.std.proofs.Common.{ℕ, ◌<◌, ◌≤◌, ◌≡◌, sym, subst, ◌∙◌, List, length, Contains, Some, slice_get, arith, inl, inr, ◌⊎◌, ℤ, ◌≤ℤ◌, ◌<ℤ◌, ◌↔◌}
use Rattle.lists.proofs.Words.{AllZip-long, ints, by_lt_z, same_Some, slice_get_within}
use Rattle.lists.proofs.Comparing.{equal_or_not}
use Rattle.lists.proofs.Containing.{Contains-slice_get, some_item}
use Rattle.paths.proofs.PathLaws.{first, within}
use Rattle.geo_core.specs.Plane.{IsIn, IsInterval, IsInUnion}
use Rattle.geo_core.specs.declared.axis.Axis.{Axis}
use Rattle.geo_core.specs.declared.axis.Axis.TheVariants.{X, Y}
use Rattle.geo_core.specs.declared.plane.Cell.{Cell}
use Rattle.geo_core.specs.declared.plane.Half.{Half}
use Rattle.fault_model.specs.FaultNames.{IsInAnchor, IsInFootprint, IslandLists, IsOn, Walk}
use Rattle.fault_model.specs.IslandLists.{IsAnchoredIsland}
use Rattle.fault_model.specs.declared.island.Spot.{Spot}
use Rattle.half_boxes.specs.HalfBoxes.{HasHalf, LiesWithin, span_along}
use Rattle.half_boxes.specs.declared.boxes.HalfBox.{HalfBox}
use Rattle.half_boxes.specs.declared.span.TheConstants.{FARTHEST_HALF}
use Rattle.severing.specs.Severing.{IsLeft, IsSevered}
use Rattle.union_area.specs.WindowParts.{place_along}
use Rattle.open_grid.specs.inside.ZoneNeeds.{HasHullOf, HaveAnchorBoxes, IsHullOf}
use Rattle.open_grid.specs.inside.Wires.{Cuts, LosesSome, PartsWire, Spans, high_end, low_end, other_axis}
use Rattle.open_grid.proofs.BoxLaws.{hull_among}
use Rattle.open_grid.proofs.HullLaws.{another, half_at, in_hull, number_of_hull, some_before, some_behind, some_outside}
use Rattle.open_grid.proofs.WireLaws.{IsLeftOfWire, has_along, hit_both, none_past, number_along, spanned_under, spans_or_leaves, walk_before, walk_behind, walk_by_crossing}

-- one anchor alone is parted from none
pub few_not_severed : (island : IslandLists) (hulls : List HalfBox) (removed : Half → Type 0) → HaveAnchorBoxes island hulls → length hulls < 2 → IsSevered island removed → ⊥
few_not_severed island hulls removed have few severed =
    let e = AllZip-long (λ (spot : Spot). IsHullOf spot.rects) island.anchors hulls have in
    let a = severed.one_is in let b = severed.other_is in
    severed.different (omega arith)

module _ (island : IslandLists) (wire : HalfBox) (hulls : List HalfBox) (side : ℕ) (c : Cell) (some : 1 ≤ side)
    (columns_fit : IsInterval FARTHEST_HALF (low_end c.i side) (high_end c.i side)) (rows_fit : IsInterval FARTHEST_HALF (low_end c.j side) (high_end c.j side))
    (is_wire : (h : Half) → HasHalf wire h ↔ IsOn (IsInUnion island.pieces) h) (anchored : IsAnchoredIsland island) (have : HaveAnchorBoxes island hulls) where
  fit_along : (axis : Axis) → IsInterval FARTHEST_HALF (low_end (place_along axis c) side) (high_end (place_along axis c) side)
  fit_along X = columns_fit
  fit_along Y = rows_fit

  abbrev IsSpot : ℕ → Half → Type 0
  IsSpot = IsInAnchor island.anchors

  on_wire : (k : ℕ) (h : Half) → IsSpot k h → HasHalf wire h
  on_wire k h a = (is_wire h).1 (a.lies.0, a.lies.1, anchored.on_pieces a.spot a.lies.0 (Contains-slice_get island.anchors k a.spot a.at) a.lies.2)

  -- an anchor's half squares are those of the spot at its number
  in_spot : (k : ℕ) (spot : Spot) → slice_get island.anchors k ≡ Some spot → (h : Half) → IsSpot k h → IsOn (IsInUnion spot.rects) h
  in_spot k spot at h a = subst (λ (s : Spot). IsOn (IsInUnion s.rects) h) (same_Some a.spot spot (sym a.at ∙ at)) a.lies

  walk_of_wire : {p q : Half} → Walk (IsLeft (IsOn (IsInUnion island.pieces)) (IsInFootprint c side)) p q → Walk (IsLeftOfWire wire side c) p q
  walk_of_wire = within (λ h left. ((is_wire h).1 left.0, left.1))

  walk_of_island : {p q : Half} → Walk (IsLeftOfWire wire side c) p q → Walk (IsLeft (IsOn (IsInUnion island.pieces)) (IsInFootprint c side)) p q
  walk_of_island = within (λ h left. ((is_wire h).0 left.0, left.1))

  -- ---- what parts two anchors

  module _ (two : 2 ≤ length hulls) where
    many : 2 ≤ length island.anchors
    many = let e = AllZip-long (λ (spot : Spot). IsHullOf spot.rects) island.anchors hulls have in omega arith

    -- a spot of which nothing is left
    lost_severs : (k : ℕ) (spot : Spot) → slice_get island.anchors k ≡ Some spot → ((h : Half) → IsOn (IsInUnion spot.rects) h → IsInFootprint c side h) → IsSevered island (IsInFootprint c side)
    lost_severs k spot at lost =
        let j = another (length island.anchors) k many in
        record {
          one = k;
          other = j.0;
          one_is = slice_get_within island.anchors k spot at;
          other_is = j.1;
          different = j.2;
          apart = λ p q in_p in_q w. (first w).1 (lost p (in_spot k spot at p in_p));
        }

    loses_severs : LosesSome hulls side c → IsSevered island (IsInFootprint c side)
    loses_severs l =
        let n = number_of_hull island.anchors hulls have l.hull l.among in
        lost_severs n.number n.spot n.at (λ h on.
        let has = in_hull n.spot.rects l.hull n.hull h on in
        (spanned_under _ _ c.i side l.across h.u has.across, spanned_under _ _ c.j side l.up h.v has.up))

    cut_severs : (axis : Axis) → Cuts axis wire hulls side c → IsSevered island (IsInFootprint c side)
    cut_severs axis cut =
        let a = number_of_hull island.anchors hulls have cut.first cut.first_among in
        let b = number_of_hull island.anchors hulls have cut.last cut.last_among in
        let begins = cut.along.begins in let ends = cut.along.ends in let fit = (fit_along axis).some in
        elim (equal_or_not a.number b.number) [
          | inl same ↦
              let spot_is = same_Some a.spot b.spot (sym a.at ∙ subst (λ k. slice_get island.anchors k ≡ Some b.spot) (sym same) b.at) in
              lost_severs a.number a.spot a.at (λ h on.
              let x = (has_along axis cut.first h (in_hull a.spot.rects cut.first a.hull h on)).before in
              let y = (has_along axis cut.last h (in_hull b.spot.rects cut.last b.hull h (subst (λ (s : Spot). IsOn (IsInUnion s.rects) h) spot_is on))).from in
              hit_both axis side c h (record { from = omega (arith, ints); before = omega (arith, ints) })
              (spanned_under _ _ (place_along (other_axis axis) c) side cut.through (number_along (other_axis axis) h)
              (has_along (other_axis axis) wire h (on_wire a.number h (record { spot = a.spot; at = a.at; lies = on })))))
          | inr differ ↦ record {
            one = a.number;
            other = b.number;
            one_is = slice_get_within island.anchors a.number a.spot a.at;
            other_is = slice_get_within island.anchors b.number b.spot b.at;
            different = differ;
            apart = λ p q in_p in_q w.
                let x = (has_along axis cut.first p (in_hull a.spot.rects cut.first a.hull p (in_spot a.number a.spot a.at p in_p))).before in
                let y = (has_along axis cut.last q (in_hull b.spot.rects cut.last b.hull q (in_spot b.number b.spot b.at q in_q))).from in
                none_past wire side c axis fit cut.through p q (omega (arith, ints)) (omega (arith, ints)) (walk_of_wire w);
          }
        ]

    pub parts_severs : PartsWire wire hulls side c → IsSevered island (IsInFootprint c side)
    parts_severs (inl lost) = loses_severs lost
    parts_severs (inr (inl cut)) = cut_severs X cut
    parts_severs (inr (inr cut)) = cut_severs Y cut

  -- ---- nothing else does

  module _ (severed : IsSevered island (IsInFootprint c side)) where
    -- the hulls of two anchors that are parted
    one : (spot : Spot) × (slice_get island.anchors severed.one ≡ Some spot)
    one = some_item island.anchors severed.one severed.one_is

    other : (spot : Spot) × (slice_get island.anchors severed.other ≡ Some spot)
    other = some_item island.anchors severed.other severed.other_is

    one_hull : HasHullOf hulls one.0.rects
    one_hull = hull_among island.anchors hulls have one.0 (Contains-slice_get island.anchors severed.one one.0 one.1)

    other_hull : HasHullOf hulls other.0.rects
    other_hull = hull_among island.anchors hulls have other.0 (Contains-slice_get island.anchors severed.other other.0 other.1)

    -- no walk joins a half square of the one to one of the other
    none_joined : (p q : Half) → IsOn (IsInUnion one.0.rects) p → IsOn (IsInUnion other.0.rects) q → Walk (IsLeftOfWire wire side c) p q → ⊥
    none_joined p q on_one on_other w =
        severed.apart p q (record { spot = one.0; at = one.1; lies = on_one }) (record { spot = other.0; at = other.1; lies = on_other }) (walk_of_island w)

    one_on_wire : (h : Half) → IsOn (IsInUnion one.0.rects) h → HasHalf wire h
    one_on_wire h on = on_wire severed.one h (record { spot = one.0; at = one.1; lies = on })

    other_on_wire : (h : Half) → IsOn (IsInUnion other.0.rects) h → HasHalf wire h
    other_on_wire h on = on_wire severed.other h (record { spot = other.0; at = other.1; lies = on })

    module _ (axis : Axis) where
      abbrev begin : ℤ
      begin = low_end (place_along axis c) side

      abbrev end : ℤ
      end = high_end (place_along axis c) side

      not_both_behind : end <ℤ (span_along axis one_hull.one).high → end <ℤ (span_along axis other_hull.one).high → ⊥
      not_both_behind a b =
          let fit = fit_along axis in let f = fit.some in let g = fit.least in
          some_behind one.0.rects one_hull.one one_hull.hull axis end (omega (arith, ints)) a (λ p on_one p_behind.
          some_behind other.0.rects other_hull.one other_hull.hull axis end (omega (arith, ints)) b (λ q on_other q_behind.
          none_joined p q on_one on_other (walk_behind wire side c axis p q (one_on_wire p on_one) (other_on_wire q on_other) p_behind q_behind)))

      not_both_before : (span_along axis one_hull.one).low <ℤ begin → (span_along axis other_hull.one).low <ℤ begin → ⊥
      not_both_before a b =
          let fit = fit_along axis in let f = fit.some in let g = fit.most in
          some_before one.0.rects one_hull.one one_hull.hull axis begin (omega (arith, ints)) a (λ p on_one p_before.
          some_before other.0.rects other_hull.one other_hull.hull axis begin (omega (arith, ints)) b (λ q on_other q_before.
          none_joined p q on_one on_other (walk_before wire side c axis p q (one_on_wire p on_one) (other_on_wire q on_other) p_before q_before)))

      -- a defect that leads across cuts between them
      module _ (through : Spans (span_along (other_axis axis) wire).low (span_along (other_axis axis) wire).high side (place_along (other_axis axis) c)) where
        cut_behind : (first : HalfBox) → Contains hulls first → (span_along axis first).high ≤ℤ end → Cuts axis wire hulls side c
        cut_behind first among ends = by_lt_z (span_along axis one_hull.one).low begin
            (λ a. by_lt_z (span_along axis other_hull.one).low begin
            (λ b. absurd (not_both_before a b))
            (λ b. record { first = first; last = other_hull.one; first_among = among; last_among = other_hull.among; along = record { begins = b; ends = ends }; through = through }))
            (λ a. record { first = first; last = one_hull.one; first_among = among; last_among = one_hull.among; along = record { begins = a; ends = ends }; through = through })

        cut_between : Cuts axis wire hulls side c
        cut_between = by_lt_z end (span_along axis one_hull.one).high
            (λ a. by_lt_z end (span_along axis other_hull.one).high (λ b. absurd (not_both_behind a b)) (cut_behind other_hull.one other_hull.among))
            (cut_behind one_hull.one one_hull.among)

    -- the defect's half squares, as a box
    abbrev defect : HalfBox
    defect = record {
      columns = record { low = low_end c.i side; high = high_end c.i side; within = columns_fit };
      rows = record { low = low_end c.j side; high = high_end c.j side; within = rows_fit };
    }

    -- a hull that the defect does not have all of does not lie within it
    has_all_or_not : (hull : HalfBox) → Contains hulls hull → LosesSome hulls side c ⊎ (LiesWithin hull defect → ⊥)
    has_all_or_not hull among = elim (spans_or_leaves hull.columns.low hull.columns.high c.i side hull.columns.within.some) [
      | inr (u, i, free) ↦ inr (λ inside. let t = half_at X hull u i in free (subst (IsIn (low_end c.i side) (high_end c.i side)) t.2 (inside t.0 t.1).across))
      | inl columns ↦ elim (spans_or_leaves hull.rows.low hull.rows.high c.j side hull.rows.within.some) [
        | inr (v, i, free) ↦ inr (λ inside. let t = half_at Y hull v i in free (subst (IsIn (low_end c.j side) (high_end c.j side)) t.2 (inside t.0 t.1).up))
        | inl rows ↦ inl (record { hull = hull; among = among; across = columns; up = rows })
      ]
    ]

    pub severed_parts : PartsWire wire hulls side c
    severed_parts = elim (has_all_or_not one_hull.one one_hull.among) [
      | inl lost ↦ inl lost
      | inr one_left ↦ elim (has_all_or_not other_hull.one other_hull.among) [
        | inl lost ↦ inl lost
        | inr other_left ↦ elim (spans_or_leaves wire.rows.low wire.rows.high c.j side wire.rows.within.some) [
          | inl through ↦ inr (inl (cut_between X through))
          | inr row ↦ elim (spans_or_leaves wire.columns.low wire.columns.high c.i side wire.columns.within.some) [
            | inl through ↦ inr (inr (cut_between Y through))
            | inr column ↦ absurd (
                some_outside one.0.rects one_hull.one one_hull.hull defect one_left (λ p on_one p_out.
                some_outside other.0.rects other_hull.one other_hull.hull defect other_left (λ q on_other q_out.
                none_joined p q on_one on_other
                (walk_by_crossing wire side c column row p q
                (one_on_wire p on_one, λ hit. p_out (record { across = hit.0; up = hit.1 }))
                (other_on_wire q on_other, λ hit. q_out (record { across = hit.0; up = hit.1 })))))
                )
          ]
        ]
      ]
    ]
