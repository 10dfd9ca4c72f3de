-- rectangles by rank touch where the boxes do, and so do the pairs of them that a search finds
use Rattle.std.proofs.Common.{ℕ, zero, suc, ◌+◌, ◌*◌, ◌^◌, ◌<◌, ◌≤◌, refl, sym, subst, List, length, arith, inl, inr, ℤ, ◌<ℤ◌, Contains, ◌↔◌}
use Rattle.lists.proofs.Words.{AllZip, AllZip-long, leb_tells, slice_get_within}
use Rattle.lists.proofs.Comparing.{equal_or_not}
use Rattle.lists.proofs.Containing.{some_item}
use Rattle.std.proofs.Math.Nat.{mul-le-mul_left}
use Rattle.std.proofs.lemmas.Slice.Zip.{AllZip-left}
use Rattle.paths.specs.Paths.{stay, step}
use Rattle.paths.proofs.PathLaws.{reverse}
use Rattle.classes.specs.Classes.{AreJoined}
use Rattle.geo_core.specs.Plane.{IntervalsOverlap, IntervalsTouch, Touch}
use Rattle.geo_core.specs.declared.interval.Interval.{Interval}
use Rattle.geo_core.specs.declared.plane.Rect.{Rect}
use Rattle.geo_core.proofs.IntervalLaws.{overlapping, touching}
use Rattle.geo_core.proofs.RectLaws as rects
use Rattle.geo_core.proofs.RectLaws.{HasSides, sides_of}
use Rattle.touch_sweep.specs.Touching.{AreTouching}
use Rattle.half_boxes.specs.HalfBoxes.{AreTouchingBoxes, TouchHalves}
use Rattle.half_boxes.specs.inside.Ranks.{HaveRanks, IsRank, IsRankedBox, TouchAlike}
use Rattle.half_boxes.specs.inside.Scans.{AreTouchingPairs}
use Rattle.half_boxes.specs.declared.boxes.HalfBox.{HalfBox}
use Rattle.half_boxes.proofs.BoxLaws.{TouchHalves-sym, touch_across, touch_by_axis, touch_up}
use Rattle.half_boxes.proofs.RankLaws.{end_le, end_less, rank_le, rank_less}

-- ---- along one axis

module _ (ends : List ℤ) (have : HaveRanks ends) (a0 a1 b0 b1 p0 p1 q0 q1 : ℤ) (al : IsRank ends a0 p0) (ah : IsRank ends a1 p1) (bl : IsRank ends b0 q0) (bh : IsRank ends b1 q1)
    (a : a0 <ℤ a1) (b : b0 <ℤ b1) (p : p0 <ℤ p1) (q : q0 <ℤ q1) where
  overlap_alike : IntervalsOverlap p0 p1 q0 q1 ↔ IntervalsOverlap a0 a1 b0 b1
  overlap_alike = (
    λ o. let e = (overlapping p0 p1 q0 q1 p q).1 o in (overlapping a0 a1 b0 b1 a b).0 (end_less ends have a0 b1 p0 q1 al bh e.0, end_less ends have b0 a1 q0 p1 bl ah e.1),
    λ o. let e = (overlapping a0 a1 b0 b1 a b).1 o in (overlapping p0 p1 q0 q1 p q).0 (rank_less ends have a0 b1 p0 q1 al bh e.0, rank_less ends have b0 a1 q0 p1 bl ah e.1),
  )

  intervals_alike : IntervalsTouch p0 p1 q0 q1 ↔ IntervalsTouch a0 a1 b0 b1
  intervals_alike = (
    λ t. let e = (touching p0 p1 q0 q1 p q).1 t in (touching a0 a1 b0 b1 a b).0 (end_le ends have a0 b1 p0 q1 al bh e.0, end_le ends have b0 a1 q0 p1 bl ah e.1),
    λ t. let e = (touching a0 a1 b0 b1 a b).1 t in (touching p0 p1 q0 q1 p q).0 (rank_le ends have a0 b1 p0 q1 al bh e.0, rank_le ends have b0 a1 q0 p1 bl ah e.1),
  )

-- ---- rectangles

abbrev columns_of : Rect → Interval
columns_of rect = record { low = rect.x0; high = rect.x1; within = rect.across }

abbrev rows_of : Rect → Interval
rows_of rect = record { low = rect.y0; high = rect.y1; within = rect.up }

sides : (rect : Rect) → HasSides rect (columns_of rect) (rows_of rect)
sides rect = sides_of rect (columns_of rect) (rows_of rect) refl refl refl refl

module _ (columns rows : List ℤ) (across : HaveRanks columns) (up : HaveRanks rows) (one other : HalfBox) (p q : Rect) (r : IsRankedBox columns rows one p) (s : IsRankedBox columns rows other q) where
  boxes_alike : Touch p q ↔ TouchHalves one other
  boxes_alike =
      let columns_overlap = overlap_alike columns across one.columns.low one.columns.high other.columns.low other.columns.high p.x0 p.x1 q.x0 q.x1 r.left r.right s.left s.right
      one.columns.within.some other.columns.within.some p.across.some q.across.some in
      let columns_touch = intervals_alike columns across one.columns.low one.columns.high other.columns.low other.columns.high p.x0 p.x1 q.x0 q.x1 r.left r.right s.left s.right
      one.columns.within.some other.columns.within.some p.across.some q.across.some in
      let rows_overlap = overlap_alike rows up one.rows.low one.rows.high other.rows.low other.rows.high p.y0 p.y1 q.y0 q.y1 r.bottom r.top s.bottom s.top
      one.rows.within.some other.rows.within.some p.up.some q.up.some in
      let rows_touch = intervals_alike rows up one.rows.low one.rows.high other.rows.low other.rows.high p.y0 p.y1 q.y0 q.y1 r.bottom r.top s.bottom s.top
      one.rows.within.some other.rows.within.some p.up.some q.up.some in (
        λ t. elim (rects.touch_by_axis (sides p) (sides q) t) [
          | inl k ↦ touch_up one other (columns_overlap.0 k.0) (rows_touch.0 k.1)
          | inr k ↦ touch_across one other (columns_touch.0 k.0) (rows_overlap.0 k.1)
        ],
        λ t. elim (touch_by_axis one other t) [
          | inl k ↦ rects.touch_up (sides p) (sides q) (columns_overlap.1 k.0) (rows_touch.1 k.1)
          | inr k ↦ rects.touch_across (sides p) (sides q) (columns_touch.1 k.0) (rows_overlap.1 k.1)
        ],
      )

pub all_alike : (columns rows : List ℤ) (boxes : List HalfBox) (made : List Rect) → HaveRanks columns → HaveRanks rows → AllZip (IsRankedBox columns rows) boxes made → TouchAlike boxes made
all_alike columns rows boxes made across up each = record {
  one_each = AllZip-long (IsRankedBox columns rows) boxes made each;
  alike = λ a b one other p q one_at other_at p_at q_at.
      boxes_alike columns rows across up one other p q
      (rw (one_at, p_at) at (AllZip-left (IsRankedBox columns rows) boxes made each a))
      (rw (other_at, q_at) at (AllZip-left (IsRankedBox columns rows) boxes made each b));
}

-- ---- pairs

pub boxes_sym : (boxes : List HalfBox) (a b : ℕ) → AreTouchingBoxes boxes a b → AreTouchingBoxes boxes b a
boxes_sym boxes a b t = record { one = t.other; other = t.one; one_at = t.other_at; other_at = t.one_at; touch = TouchHalves-sym t.one t.other t.touch }

module _ (boxes : List HalfBox) (made : List Rect) (same : TouchAlike boxes made) (pairs : List (ℕ × ℕ)) where
  pub link_touches : ((a b : ℕ) → Contains pairs (a, b) → AreTouching made a b) → (a b : ℕ) → Contains pairs (a, b) → AreTouchingBoxes boxes a b
  link_touches found a b c =
      let t = found a b c in
      let many = same.one_each in
      let first = slice_get_within made a t.one t.one_at in
      let second = slice_get_within made b t.other t.other_at in
      let one = some_item boxes a (omega arith) in
      let other = some_item boxes b (omega arith) in
      record { one = one.0; other = other.0; one_at = one.1; other_at = other.1; touch = (same.alike a b one.0 other.0 t.one t.other one.1 other.1 t.one_at t.other_at).0 t.touch }

  touching_made : (a b : ℕ) → a < b → AreTouchingBoxes boxes a b → AreTouching made a b
  touching_made a b less t =
      let many = same.one_each in
      let first = slice_get_within boxes a t.one t.one_at in
      let second = slice_get_within boxes b t.other t.other_at in
      let p = some_item made a (omega arith) in
      let q = some_item made b (omega arith) in
      record { lesser = less; one = p.0; other = q.0; one_at = p.1; other_at = q.1; touch = (same.alike a b t.one t.other p.0 q.0 t.one_at t.other_at p.1 q.1).1 t.touch }

  pub touching_joined : ((a b : ℕ) → AreTouching made a b → AreJoined (length made) pairs a b) → (a b : ℕ) → AreTouchingBoxes boxes a b → AreJoined (length boxes) pairs a b
  touching_joined all a b t = subst (λ n. AreJoined n pairs a b) same.one_each (elim (equal_or_not a b) [
    | inl e ↦ subst (AreJoined (length made) pairs a) e (stay (subst (λ n. a < n) (sym same.one_each) (slice_get_within boxes a t.one t.one_at)))
    | inr apart ↦
        elim (leb_tells a b) [
          | inl y ↦ let y' = y.1 in all a b (touching_made a b (omega arith) t)
          | inr y ↦ reverse (λ a b e. elim e [ inl c ↦ inr c | inr c ↦ inl c ]) (all b a (touching_made b a y.1 (boxes_sym boxes a b t)))
        ]
  ])

-- ---- short lists

-- a list that is short has no more pairs than a sweep may find
levels_of : (n levels : ℕ) → n ≤ 400 → n ≤ 2 ^ levels → n ≤ 51 * (levels + 1)
levels_of n zero h k = omega arith
levels_of n (suc zero) h k = omega arith
levels_of n (suc (suc zero)) h k = omega arith
levels_of n (suc (suc (suc zero))) h k = omega arith
levels_of n (suc (suc (suc (suc zero)))) h k = omega arith
levels_of n (suc (suc (suc (suc (suc zero))))) h k = omega arith
levels_of n (suc (suc (suc (suc (suc (suc zero)))))) h k = omega arith
levels_of n (suc (suc (suc (suc (suc (suc (suc levels))))))) h k = omega arith

module _ (boxes : List HalfBox) (pairs : List (ℕ × ℕ)) (found : AreTouchingPairs boxes pairs) where
  pub pairs_join : (a b : ℕ) → AreTouchingBoxes boxes a b → AreJoined (length boxes) pairs a b
  pairs_join a b t =
      let first = slice_get_within boxes a t.one t.one_at in
      elim (found.all a b t) [
        | inl e ↦ subst (AreJoined (length boxes) pairs a) e (stay first)
        | inr pair ↦ step first pair (stay (slice_get_within boxes b t.other t.other_at))
      ]

  pub pairs_few : length boxes ≤ 400 → (levels : ℕ) → length boxes ≤ 2 ^ levels → length pairs ≤ 51 * length boxes * (levels + 1)
  pairs_few short levels most = let few = found.few in let n = length boxes in omega (arith, mul-le-mul_left n (levels_of n levels short most))
