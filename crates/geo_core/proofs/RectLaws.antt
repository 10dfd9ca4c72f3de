-- cells, and rectangles by their columns and their rows
use Rattle.std.proofs.Common.{◌≡◌, refl, sym, subst, ap, ◌∙◌, arith, inl, inr, ◌⊎◌, ℤ, pos, neg_ℤ, ◌+ℤ◌, ◌-ℤ◌, ◌≤ℤ◌, ◌<ℤ◌, ◌↔◌}
use Rattle.lists.proofs.Words.{ints}
use Rattle.std.proofs.Math.Dec.{T_prop}
use Rattle.geo_core.specs.Plane.{IsIn, IsInterval, ComesWithin, IntervalsOverlap, IntervalsTouch, IsPartOf, IsIntervalJoin, Has, IsInLayout, ComesNear, IsJoin, Overlap, ShareEdge, Touch}
use Rattle.geo_core.specs.declared.bounds.TheConstants.{FARTHEST, FARTHEST_GROWN}
use Rattle.geo_core.specs.declared.interval.Interval.{Interval}
use Rattle.geo_core.specs.declared.plane.Cell.{Cell}
use Rattle.geo_core.specs.declared.plane.Rect.{Rect}
use Rattle.geo_core.proofs.IntervalLaws as intervals
use Rattle.geo_core.proofs.IntervalLaws.{equal_or_not, Adjoins-sym, IsIn-at, ends_in, in_ends}

-- ---- cells

pub same_cell : (c d : Cell) → c.i ≡ d.i → c.j ≡ d.j → c ≡ d
same_cell c d e f = let at : ℤ → ℤ → Cell = λ x y. record { i = x; j = y } in ap (λ x. at x c.j) e ∙ ap (at d.i) f

-- two cells are one, or not
pub cells_equal_or_not : (c d : Cell) → (c ≡ d) ⊎ (c ≡ d → ⊥)
cells_equal_or_not c d = elim (equal_or_not c.i d.i) [
  | inl e ↦ elim (equal_or_not c.j d.j) [ inl f ↦ inl (same_cell c d e f) | inr n ↦ inr (λ f. n (ap (λ (x : Cell). x.j) f)) ]
  | inr n ↦ inr (λ e. n (ap (λ (x : Cell). x.i) e))
]

pub ShareEdge-sym : (c d : Cell) → ShareEdge c d → ShareEdge d c
ShareEdge-sym c d (inl (e, a)) = inl (sym e, Adjoins-sym c.i d.i a)
ShareEdge-sym c d (inr (e, a)) = inr (sym e, Adjoins-sym c.j d.j a)

-- ---- rectangles by intervals

-- the rectangle has these columns and these rows
pub record HasSides (rect : Rect) (columns rows : Interval) : Type 0 where
  pub left : rect.x0 ≡ columns.low
  pub right : rect.x1 ≡ columns.high
  pub bottom : rect.y0 ≡ rows.low
  pub top : rect.y1 ≡ rows.high

pub sides_of : (rect : Rect) (columns rows : Interval) → columns.low ≡ rect.x0 → columns.high ≡ rect.x1 → rows.low ≡ rect.y0 → rows.high ≡ rect.y1 → HasSides rect columns rows
sides_of rect columns rows left right bottom top = record { left = sym left; right = sym right; bottom = sym bottom; top = sym top }

module _ {rect : Rect} {columns rows : Interval} (s : HasSides rect columns rows) where
  pub by_sides : (c : Cell) → Has rect c → IsIn columns.low columns.high c.i × IsIn rows.low rows.high c.j
  by_sides c h = (IsIn-at columns.low columns.high c.i h.across (sym s.left) (sym s.right) refl, IsIn-at rows.low rows.high c.j h.up (sym s.bottom) (sym s.top) refl)

  pub from_sides : (c : Cell) → IsIn columns.low columns.high c.i → IsIn rows.low rows.high c.j → Has rect c
  from_sides c across up = record { across = IsIn-at rect.x0 rect.x1 c.i across s.left s.right refl; up = IsIn-at rect.y0 rect.y1 c.j up s.bottom s.top refl }

-- what is said of two intervals each is said of two rectangles
module _ {a b : Rect} {a_columns a_rows b_columns b_rows : Interval} (s : HasSides a a_columns a_rows) (t : HasSides b b_columns b_rows) where
  pub overlap_is : (IntervalsOverlap a_columns.low a_columns.high b_columns.low b_columns.high × IntervalsOverlap a_rows.low a_rows.high b_rows.low b_rows.high) ↔ Overlap a b
  overlap_is = (
    λ h. let c : Cell = record { i = h.0.0; j = h.1.0 } in (c, from_sides s c h.0.1 h.1.1, from_sides t c h.0.2 h.1.2),
    λ o. let p = by_sides s o.0 o.1 in let q = by_sides t o.0 o.2 in ((o.0.i, p.0, q.0), (o.0.j, p.1, q.1)),
  )

  -- where columns overlap and rows touch, or columns touch and rows overlap
  abbrev TouchByAxis : Type 0
  TouchByAxis =
      (IntervalsOverlap a_columns.low a_columns.high b_columns.low b_columns.high × IntervalsTouch a_rows.low a_rows.high b_rows.low b_rows.high)
      ⊎ (IntervalsTouch a_columns.low a_columns.high b_columns.low b_columns.high × IntervalsOverlap a_rows.low a_rows.high b_rows.low b_rows.high)

  pub touch_by_axis : Touch a b → TouchByAxis
  touch_by_axis (c, d, h, k, n) =
      let p = by_sides s c h in
      let q = by_sides t d k in
      elim n [
        | inl e ↦
            let i : c.i ≡ d.i = ap (λ (x : Cell). x.i) e in
            let j : c.j ≡ d.j = ap (λ (x : Cell). x.j) e in
            inl ((d.i, subst (IsIn a_columns.low a_columns.high) i p.0, q.0), (c.j, d.j, p.1, q.1, inl j))
        | inr (inl (e, next)) ↦ inr ((c.i, d.i, p.0, q.0, inr next), (d.j, subst (IsIn a_rows.low a_rows.high) e p.1, q.1))
        | inr (inr (e, next)) ↦ inl ((d.i, subst (IsIn a_columns.low a_columns.high) e p.0, q.0), (c.j, d.j, p.1, q.1, inr next))
      ]

  pub touch_up : IntervalsOverlap a_columns.low a_columns.high b_columns.low b_columns.high → IntervalsTouch a_rows.low a_rows.high b_rows.low b_rows.high → Touch a b
  touch_up (i, h, k) (j, j', l, m, n) =
      let c : Cell = record { i = i; j = j } in
      let d : Cell = record { i = i; j = j' } in
      (c, d, from_sides s c h l, from_sides t d k m, elim n [ inl e ↦ inl (same_cell c d refl e) | inr next ↦ inr (inr (refl, next)) ])

  pub touch_across : IntervalsTouch a_columns.low a_columns.high b_columns.low b_columns.high → IntervalsOverlap a_rows.low a_rows.high b_rows.low b_rows.high → Touch a b
  touch_across (i, i', h, k, n) (j, l, m) =
      let c : Cell = record { i = i; j = j } in
      let d : Cell = record { i = i'; j = j } in
      (c, d, from_sides s c h l, from_sides t d k m, elim n [ inl e ↦ inl (same_cell c d e refl) | inr next ↦ inr (inl (refl, next)) ])

-- a rectangle that is grown in its columns and in its rows
pub grown : {rect r : Rect} {columns rows columns' rows' : Interval} (by : ℤ) → HasSides rect columns rows → HasSides r columns' rows'
    → ((x : ℤ) → IsIn columns'.low columns'.high x ↔ ComesWithin columns.low columns.high by x) → ((x : ℤ) → IsIn rows'.low rows'.high x ↔ ComesWithin rows.low rows.high by x)
    → (c : Cell) → Has r c ↔ ComesNear rect by c
grown by s t across up c = (
  λ h.
      let k = by_sides t c h in
      let x = (across c.i).0 k.0 in
      let y = (up c.j).0 k.1 in
      let d : Cell = record { i = x.0; j = y.0 } in
      (d, from_sides s d x.1 y.1, (x.2, y.2)),
  λ n.
      let k = by_sides s n.0 n.1 in
      from_sides t c ((across c.i).1 (n.0.i, k.0, n.2.0)) ((up c.j).1 (n.0.j, k.1, n.2.1)),
)

-- one that has the common columns and the common rows
pub clipped : {a b r : Rect} {a_columns a_rows b_columns b_rows columns rows : Interval} → HasSides a a_columns a_rows → HasSides b b_columns b_rows → HasSides r columns rows
    → ((x : ℤ) → IsIn columns.low columns.high x ↔ (IsIn a_columns.low a_columns.high x × IsIn b_columns.low b_columns.high x))
    → ((x : ℤ) → IsIn rows.low rows.high x ↔ (IsIn a_rows.low a_rows.high x × IsIn b_rows.low b_rows.high x))
    → (c : Cell) → Has r c ↔ (Has a c × Has b c)
clipped s t u across up c = (
  λ h.
      let k = by_sides u c h in
      let x = (across c.i).0 k.0 in
      let y = (up c.j).0 k.1 in
      (from_sides s c x.0 y.0, from_sides t c x.1 y.1),
  λ h.
      let k = by_sides s c h.0 in
      let l = by_sides t c h.1 in
      from_sides u c ((across c.i).1 (k.0, l.0)) ((up c.j).1 (k.1, l.1)),
)

-- ---- rectangles within one another

abbrev pub AllIn : Rect → Rect → Type 0
AllIn a b = (c : Cell) → Has a c → Has b c

-- a rectangle has all cells of another exactly where it has its columns and its rows
pub columns_in : (a b : Rect) → AllIn a b → IsPartOf a.x0 a.x1 b.x0 b.x1
columns_in a b inside x h =
    let some = a.up.some in
    let row : IsIn a.y0 a.y1 a.y0 = record { from = omega (arith, ints); before = some } in
    (inside (record { i = x; j = a.y0 }) (record { across = h; up = row })).across

pub rows_in : (a b : Rect) → AllIn a b → IsPartOf a.y0 a.y1 b.y0 b.y1
rows_in a b inside y h =
    let some = a.across.some in
    let column : IsIn a.x0 a.x1 a.x0 = record { from = omega (arith, ints); before = some } in
    (inside (record { i = a.x0; j = y }) (record { across = column; up = h })).up

pub all_in : (a b : Rect) → IsPartOf a.x0 a.x1 b.x0 b.x1 → IsPartOf a.y0 a.y1 b.y0 b.y1 → AllIn a b
all_in a b across up c h = record { across = across c.i h.across; up = up c.j h.up }

join_at : {a0 a1 b0 b1 low high : ℤ} (a0' a1' b0' b1' low' high' : ℤ) → a0' ≡ a0 → a1' ≡ a1 → b0' ≡ b0 → b1' ≡ b1 → low' ≡ low → high' ≡ high → IsIntervalJoin a0 a1 b0 b1 low high
    → IsIntervalJoin a0' a1' b0' b1' low' high'
join_at a0' a1' b0' b1' low' high' p q r s t u j = rw (p, q, r, s, t, u) j

joined_sides : {a b r : Rect} → IsIntervalJoin a.x0 a.x1 b.x0 b.x1 r.x0 r.x1 → IsIntervalJoin a.y0 a.y1 b.y0 b.y1 r.y0 r.y1 → IsJoin a b r
joined_sides {a} {b} {r} across up = record {
  first = all_in a r across.first up.first;
  second = all_in b r across.second up.second;
  least = λ other p q. all_in r other
      (across.least other.x0 other.x1 (columns_in a other p) (columns_in b other q))
      (up.least other.y0 other.y1 (rows_in a other p) (rows_in b other q));
}

-- one that has the joined columns and the joined rows
pub joined : {a b r : Rect} {a_columns a_rows b_columns b_rows columns rows : Interval} → HasSides a a_columns a_rows → HasSides b b_columns b_rows → HasSides r columns rows
    → IsIntervalJoin a_columns.low a_columns.high b_columns.low b_columns.high columns.low columns.high → IsIntervalJoin a_rows.low a_rows.high b_rows.low b_rows.high rows.low rows.high → IsJoin a b r
joined {a} {b} {r} s t u across_axis up_axis = joined_sides (join_at a.x0 a.x1 b.x0 b.x1 r.x0 r.x1 s.left s.right t.left t.right u.left u.right across_axis)
    (join_at a.y0 a.y1 b.y0 b.y1 r.y0 r.y1 s.bottom s.top t.bottom t.top u.bottom u.top up_axis)

-- the whole of what a layout may cover
abbrev layout_rect : Rect
layout_rect = record { x0 = neg_ℤ FARTHEST; y0 = neg_ℤ FARTHEST; x1 = FARTHEST; y1 = FARTHEST; across = span; up = span } where
  span : IsInterval FARTHEST_GROWN (neg_ℤ FARTHEST) FARTHEST
  span = record { some = omega (arith, ints); least = omega (arith, ints); most = omega (arith, ints) }

-- two rectangles within a layout are joined within it
pub join_in_layout : (a b r : Rect) → IsJoin a b r → IsInLayout a → IsInLayout b → IsInLayout r
join_in_layout a b r j p q =
    let inside = j.least layout_rect (in_whole a p) (in_whole b q) in
    record { across = within_ends r.x0 r.x1 r.across.some (columns_in r layout_rect inside); up = within_ends r.y0 r.y1 r.up.some (rows_in r layout_rect inside) } where
      in_whole : (a : Rect) → IsInLayout a → AllIn a layout_rect
      in_whole a p = all_in a layout_rect (in_ends a.x0 a.x1 _ _ p.across.least p.across.most) (in_ends a.y0 a.y1 _ _ p.up.least p.up.most)

      within_ends : (low high : ℤ) → low <ℤ high → IsPartOf low high (neg_ℤ FARTHEST) FARTHEST → IsInterval FARTHEST low high
      within_ends low high some part = let k = ends_in low high _ _ some part in record { some = some; least = k.0; most = k.1 }

-- ---- rectangles with the same cells

abbrev rect_with : (x0 y0 x1 y1 : ℤ) → IsInterval FARTHEST_GROWN x0 x1 → IsInterval FARTHEST_GROWN y0 y1 → Rect
rect_with x0 y0 x1 y1 across up = record { x0 = x0; y0 = y0; x1 = x1; y1 = y1; across = across; up = up }

one_fact : (low high : ℤ) (p q : IsInterval FARTHEST_GROWN low high) → p ≡ q
one_fact low high = hlevel T_prop

-- rectangles with the same sides are one
pub same_rect : (a b : Rect) → a.x0 ≡ b.x0 → a.y0 ≡ b.y0 → a.x1 ≡ b.x1 → a.y1 ≡ b.y1 → a ≡ b
same_rect a b p q r s = last b.across b.up where
  first : (across : IsInterval FARTHEST_GROWN a.x0 a.x1) (up : IsInterval FARTHEST_GROWN a.y0 a.y1) → a ≡ rect_with a.x0 a.y0 a.x1 a.y1 across up
  first across up = ap (λ f. rect_with a.x0 a.y0 a.x1 a.y1 f a.up) (one_fact a.x0 a.x1 a.across across) ∙ ap (rect_with a.x0 a.y0 a.x1 a.y1 across) (one_fact a.y0 a.y1 a.up up)

  last : (across : IsInterval FARTHEST_GROWN b.x0 b.x1) (up : IsInterval FARTHEST_GROWN b.y0 b.y1) → a ≡ rect_with b.x0 b.y0 b.x1 b.y1 across up
  last = subst (λ y1. (across : IsInterval FARTHEST_GROWN b.x0 b.x1) (up : IsInterval FARTHEST_GROWN b.y0 y1) → a ≡ rect_with b.x0 b.y0 b.x1 y1 across up) s
      (subst (λ x1. (across : IsInterval FARTHEST_GROWN b.x0 x1) (up : IsInterval FARTHEST_GROWN b.y0 a.y1) → a ≡ rect_with b.x0 b.y0 x1 a.y1 across up) r
      (subst (λ y0. (across : IsInterval FARTHEST_GROWN b.x0 a.x1) (up : IsInterval FARTHEST_GROWN y0 a.y1) → a ≡ rect_with b.x0 y0 a.x1 a.y1 across up) q
      (subst (λ x0. (across : IsInterval FARTHEST_GROWN x0 a.x1) (up : IsInterval FARTHEST_GROWN a.y0 a.y1) → a ≡ rect_with x0 a.y0 a.x1 a.y1 across up) p first)))

-- and so are rectangles with the same cells
ends_alike : (a0 a1 b0 b1 : ℤ) → a0 <ℤ a1 → b0 <ℤ b1 → IsPartOf a0 a1 b0 b1 → IsPartOf b0 b1 a0 a1 → (a0 ≡ b0) × (a1 ≡ b1)
ends_alike a0 a1 b0 b1 some also inside back =
    let p = ends_in a0 a1 b0 b1 some inside in
    let q = ends_in b0 b1 a0 a1 also back in
    (omega (arith, ints), omega (arith, ints))

pub same_cells_same_rect : (a b : Rect) → AllIn a b → AllIn b a → a ≡ b
same_cells_same_rect a b inside back =
    let x = ends_alike a.x0 a.x1 b.x0 b.x1 a.across.some b.across.some (columns_in a b inside) (columns_in b a back) in
    let y = ends_alike a.y0 a.y1 b.y0 b.y1 a.up.some b.up.some (rows_in a b inside) (rows_in b a back) in
    same_rect a b x.0 y.0 x.1 y.1

-- rectangles touch in either order
pub Touch-sym : (a b : Rect) → Touch a b → Touch b a
Touch-sym a b (c, d, h, k, inl e) = (d, c, k, h, inl (sym e))
Touch-sym a b (c, d, h, k, inr s) = (d, c, k, h, inr (ShareEdge-sym c d s))

-- a rectangle comes near a cell exactly where its columns, moved out, have the cell's column, and its rows the row
pub comes_near : (rect : Rect) (by : ℤ) (c : Cell) → pos 0 ≤ℤ by → ComesNear rect by c ↔ (IsIn (rect.x0 -ℤ by) (rect.x1 +ℤ by) c.i × IsIn (rect.y0 -ℤ by) (rect.y1 +ℤ by) c.j)
comes_near rect by c p =
    let x = intervals.grown rect.x0 rect.x1 by c.i rect.across.some p in
    let y = intervals.grown rect.y0 rect.y1 by c.j rect.up.some p in (
      λ n. (x.1 (n.0.i, n.1.across, n.2.0), y.1 (n.0.j, n.1.up, n.2.1)),
      λ k. let a = x.0 k.0 in let b = y.0 k.1 in (record { i = a.0; j = b.0 }, record { across = a.1; up = b.1 }, (a.2, b.2)),
    )

-- rectangles whose columns, or whose rows, have no number in common have no cell in common
pub apart_across : (a b : Rect) (p q : Interval) → p.low ≡ a.x0 → p.high ≡ a.x1 → q.low ≡ b.x0 → q.high ≡ b.x1 → (IntervalsOverlap p.low p.high q.low q.high → ⊥) → (c : Cell) → Has a c → Has b c → ⊥
apart_across a b p q e f g h none c s t = none (c.i, IsIn-at p.low p.high c.i s.across e f refl, IsIn-at q.low q.high c.i t.across g h refl)

pub apart_up : (a b : Rect) (p q : Interval) → p.low ≡ a.y0 → p.high ≡ a.y1 → q.low ≡ b.y0 → q.high ≡ b.y1 → (IntervalsOverlap p.low p.high q.low q.high → ⊥) → (c : Cell) → Has a c → Has b c → ⊥
apart_up a b p q e f g h none c s t = none (c.j, IsIn-at p.low p.high c.j s.up e f refl, IsIn-at q.low q.high c.j t.up g h refl)
