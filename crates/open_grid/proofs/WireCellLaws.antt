-- the cells at which a defect parts anchors of a wire, as rectangles
use Rattle.std.proofs.Common.{ℕ, ◌+◌, ◌<◌, ◌≤◌, ◌≡◌, refl, sym, subst, List, [], ◌∷◌, ◌++◌, length, take, take_all, get_or, Contains, arith, inl, inr, ◌⊎◌, ℤ, ◌↔◌}
use Rattle.lists.proofs.Words.{ints}
use Rattle.lists.proofs.Containing.{Contains-none}
use Rattle.geo_core.specs.Plane.{Has, IsIn, IsInterval, IsInUnion}
use Rattle.geo_core.specs.declared.axis.Axis.TheVariants.{X, Y}
use Rattle.geo_core.specs.declared.bounds.TheConstants.{FARTHEST_GROWN, GREATEST_SIDE}
use Rattle.geo_core.specs.declared.interval.Interval.{Interval}
use Rattle.geo_core.specs.declared.plane.Cell.{Cell}
use Rattle.geo_core.specs.declared.plane.Half.{Half}
use Rattle.geo_core.specs.declared.plane.Rect.{Rect}
use Rattle.geo_core.proofs.IntervalLaws.{IsIn-at}
use Rattle.fault_model.specs.FaultNames.{IsInFootprint, IslandLists, IsOn}
use Rattle.fault_model.proofs.UnionLaws.{union_none, union_one, union_push}
use Rattle.half_boxes.specs.HalfBoxes.{HasHalf}
use Rattle.half_boxes.specs.declared.boxes.HalfBox.{HalfBox}
use Rattle.half_boxes.specs.declared.span.TheConstants.{FARTHEST_HALF}
use Rattle.open_grid.specs.inside.Wires.{AreEndsAmong, BoundEnds, Cuts, GainsCells, HaveSeveringCells, IsWire, LosesSome, PartsWire, Spans, SpansBoth, high_end, low_end}
use Rattle.open_grid.proofs.BoxLaws.{among_more}
use Rattle.open_grid.proofs.ExtentLaws.{spans_of_all, spans_of_two}
use Rattle.open_grid.proofs.SpotLaws.{few_not_severed, parts_severs, severed_parts}

-- ---- cuts by the greatest low end and the least high end

module _ (window : Rect) (wire : HalfBox) (hulls : List HalfBox) (low high : ℤ) (side : ℕ) (c : Cell) where
  columns_cut : AreEndsAmong X hulls low high → BoundEnds X hulls low high → (Has window c × Cuts X wire hulls side c) ↔ SpansBoth window low high wire.rows.low wire.rows.high side c
  columns_cut ends bounds = (
    λ h. let cut = h.1 in
        record { in_window = h.0; across = spans_of_all X hulls low high ends bounds side c.i cut.first cut.last cut.first_among cut.last_among cut.along; up = cut.through },
    λ s. (
      s.in_window,
      record {
        first = ends.high_of;
        last = ends.low_of;
        first_among = ends.high_among;
        last_among = ends.low_among;
        along = spans_of_two X hulls low high ends bounds side c.i s.across;
        through = s.up;
      },
    ),
  )

  rows_cut : AreEndsAmong Y hulls low high → BoundEnds Y hulls low high → (Has window c × Cuts Y wire hulls side c) ↔ SpansBoth window wire.columns.low wire.columns.high low high side c
  rows_cut ends bounds = (
    λ h. let cut = h.1 in
        record { in_window = h.0; across = cut.through; up = spans_of_all Y hulls low high ends bounds side c.j cut.first cut.last cut.first_among cut.last_among cut.along },
    λ s. (
      s.in_window,
      record {
        first = ends.high_of;
        last = ends.low_of;
        first_among = ends.high_among;
        last_among = ends.low_among;
        along = spans_of_two Y hulls low high ends bounds side c.j s.up;
        through = s.across;
      },
    ),
  )

-- ---- rectangles that are gained

pub gains_none : (gained : Cell → Type 0) (rects : List Rect) → ((c : Cell) → gained c → ⊥) → GainsCells gained rects rects
gains_none gained rects none = record { cells = λ c. (λ u. inl u, λ h. elim h [ inl u ↦ u | inr g ↦ absurd (none c g) ]) }

pub gains_one : (gained : Cell → Type 0) (old : List Rect) (rect : Rect) → ((c : Cell) → Has rect c ↔ gained c) → GainsCells gained old (old ++ rect ∷ [])
gains_one gained old rect same = record {
  cells = λ c. let push = union_push c old rect in (
    λ u. elim (push.0 u) [ inl v ↦ inl v | inr has ↦ inr ((same c).0 has) ],
    λ h. push.1 (elim h [ inl v ↦ inl v | inr g ↦ inr ((same c).1 g) ]),
  );
}

-- one gain after the other
gains_on : (before after both : Cell → Type 0) (old mid new : List Rect) → ((c : Cell) → both c ↔ (before c ⊎ after c)) → GainsCells before old mid → GainsCells after mid new
    → GainsCells both old new
gains_on before after both old mid new either one other = record {
  cells = λ c. (
    λ u. elim ((other.cells c).0 u) [
      | inr late ↦ inr ((either c).1 (inr late))
      | inl v ↦ elim ((one.cells c).0 v) [ inl w ↦ inl w | inr early ↦ inr ((either c).1 (inl early)) ]
    ],
    λ h. elim h [
      | inl w ↦ (other.cells c).1 (inl ((one.cells c).1 (inl w)))
      | inr b ↦ elim ((either c).0 b) [
        | inl early ↦ (other.cells c).1 (inl ((one.cells c).1 (inr early)))
        | inr late ↦ (other.cells c).1 (inr late)
      ]
    ],
  );
}

-- those of one rectangle of a window
module _ (window : Rect) (left right bottom top : ℤ) (side : ℕ) where
  pub spanning_rect : (rect : Rect) (columns rows places lines : Interval) → columns.low ≡ window.x0 → columns.high ≡ window.x1 → rows.low ≡ window.y0 → rows.high ≡ window.y1
      → ((x : ℤ) → IsIn places.low places.high x ↔ (IsIn columns.low columns.high x × Spans left right side x))
      → ((y : ℤ) → IsIn lines.low lines.high y ↔ (IsIn rows.low rows.high y × Spans bottom top side y))
      → rect.x0 ≡ places.low → rect.x1 ≡ places.high → rect.y0 ≡ lines.low → rect.y1 ≡ lines.high
      → (c : Cell) → Has rect c ↔ SpansBoth window left right bottom top side c
  spanning_rect rect columns rows places lines x0 x1 y0 y1 across up rx0 rx1 ry0 ry1 c = (
    λ has.
        let a = (across c.i).0 (IsIn-at places.low places.high c.i has.across (sym rx0) (sym rx1) refl) in
        let b = (up c.j).0 (IsIn-at lines.low lines.high c.j has.up (sym ry0) (sym ry1) refl) in
        record {
          in_window = record { across = IsIn-at window.x0 window.x1 c.i a.0 (sym x0) (sym x1) refl; up = IsIn-at window.y0 window.y1 c.j b.0 (sym y0) (sym y1) refl };
          across = a.1;
          up = b.1;
        },
    λ s. record {
      across = IsIn-at rect.x0 rect.x1 c.i ((across c.i).1 (IsIn-at columns.low columns.high c.i s.in_window.across x0 x1 refl, s.across)) rx0 rx1 refl;
      up = IsIn-at rect.y0 rect.y1 c.j ((up c.j).1 (IsIn-at rows.low rows.high c.j s.in_window.up y0 y1 refl, s.up)) ry0 ry1 refl;
    },
  )

  pub none_across : (columns : Interval) → columns.low ≡ window.x0 → columns.high ≡ window.x1 → ((x : ℤ) → IsIn columns.low columns.high x → Spans left right side x → ⊥)
      → (c : Cell) → SpansBoth window left right bottom top side c → ⊥
  none_across columns x0 x1 none c s = none c.i (IsIn-at columns.low columns.high c.i s.in_window.across x0 x1 refl) s.across

  pub none_up : (rows : Interval) → rows.low ≡ window.y0 → rows.high ≡ window.y1 → ((y : ℤ) → IsIn rows.low rows.high y → Spans bottom top side y → ⊥)
      → (c : Cell) → SpansBoth window left right bottom top side c → ⊥
  none_up rows y0 y1 none c s = none c.j (IsIn-at rows.low rows.high c.j s.in_window.up y0 y1 refl) s.up

-- the same by equal ends
spans_at : (low high low' high' : ℤ) (side : ℕ) (x : ℤ) → low' ≡ low → high' ≡ high → Spans low high side x → Spans low' high' side x
spans_at low high low' high' side x e f s = let a = s.begins in let b = s.ends in record { begins = omega (arith, ints); ends = omega (arith, ints) }

-- ---- hull by hull

-- the cells of the window at which one of the hulls is lost
abbrev pub LostCells : Rect → ℕ → List HalfBox → Cell → Type 0
LostCells window side hulls c = Has window c × LosesSome hulls side c

module _ (window : Rect) (side : ℕ) where
  pub lost_none : (rects : List Rect) → GainsCells (LostCells window side []) rects rects
  lost_none rects = gains_none (LostCells window side []) rects (λ c h. Contains-none h.1.among)

  pub lost_more : (hulls : List HalfBox) (i : ℕ) (hull : HalfBox) (left right bottom top : ℤ) (old mid new : List Rect) → i < length hulls → hull ≡ get_or hulls i hull
      → left ≡ hull.columns.low → right ≡ hull.columns.high → bottom ≡ hull.rows.low → top ≡ hull.rows.high
      → GainsCells (LostCells window side (take i hulls)) old mid → GainsCells (SpansBoth window left right bottom top side) mid new
      → GainsCells (LostCells window side (take (i + 1) hulls)) old new
  lost_more hulls i hull left right bottom top old mid new small is left_is right_is bottom_is top_is so_far here =
      gains_on (LostCells window side (take i hulls)) (SpansBoth window left right bottom top side) (LostCells window side (take (i + 1) hulls)) old mid new either so_far here
    where
      here_lost : (c : Cell) → SpansBoth window left right bottom top side c → (other : HalfBox) → hull ≡ other → Contains (take (i + 1) hulls) other → LosesSome (take (i + 1) hulls) side c
      here_lost c s other e among = record {
        hull = hull;
        among = subst (Contains (take (i + 1) hulls)) (sym e) among;
        across = spans_at left right hull.columns.low hull.columns.high side c.i (sym left_is) (sym right_is) s.across;
        up = spans_at bottom top hull.rows.low hull.rows.high side c.j (sym bottom_is) (sym top_is) s.up;
      }

      either : (c : Cell) → LostCells window side (take (i + 1) hulls) c ↔ (LostCells window side (take i hulls) c ⊎ SpansBoth window left right bottom top side c)
      either c = (
        λ h. let l = h.1 in elim ((among_more hulls i hull small is l.hull).0 l.among) [
          | inl before ↦ inl (h.0, record { hull = l.hull; among = before; across = l.across; up = l.up })
          | inr e ↦
              let one = subst (λ (o : HalfBox). Spans o.columns.low o.columns.high side c.i) (sym e) l.across in
              let other = subst (λ (o : HalfBox). Spans o.rows.low o.rows.high side c.j) (sym e) l.up in
              inr (record {
                in_window = h.0;
                across = spans_at hull.columns.low hull.columns.high left right side c.i left_is right_is one;
                up = spans_at hull.rows.low hull.rows.high bottom top side c.j bottom_is top_is other;
              })
        ],
        λ h. elim h [
          | inl (has, l) ↦ (has, record { hull = l.hull; among = (among_more hulls i hull small is l.hull).1 (inl l.among); across = l.across; up = l.up })
          | inr s ↦ (s.in_window, here_lost c s hull refl ((among_more hulls i hull small is hull).1 (inr refl)))
        ],
      )

  pub lost_all : (hulls : List HalfBox) (i : ℕ) (old new : List Rect) → length hulls ≤ i → GainsCells (LostCells window side (take i hulls)) old new → GainsCells (LostCells window side hulls) old new
  lost_all hulls i old new past all = subst (λ (hs : List HalfBox). GainsCells (LostCells window side hs) old new) (take_all i hulls past) all

-- ---- all of them

module _ (window : Rect) (wire : HalfBox) (hulls : List HalfBox) (side : ℕ) where
  -- what is lost, what is cut along columns, and what is cut along rows
  pub parting_cells : (low high bottom top from to least most : ℤ) (lost cut both : List Rect)
      → AreEndsAmong X hulls low high → BoundEnds X hulls low high → AreEndsAmong Y hulls bottom top → BoundEnds Y hulls bottom top
      → from ≡ wire.rows.low → to ≡ wire.rows.high → least ≡ wire.columns.low → most ≡ wire.columns.high
      → GainsCells (LostCells window side hulls) [] lost → GainsCells (SpansBoth window low high from to side) lost cut → GainsCells (SpansBoth window least most bottom top side) cut both
      → (c : Cell) → IsInUnion both c ↔ (Has window c × PartsWire wire hulls side c)
  parting_cells low high bottom top from to least most lost cut both ends_x bounds_x ends_y bounds_y from_is to_is least_is most_is first second third c = (
    λ u. elim ((third.cells c).0 u) [
      | inr s ↦ let k = (rows_cut window wire hulls bottom top side c ends_y bounds_y).1 (record {
        in_window = s.in_window;
        across = spans_at least most wire.columns.low wire.columns.high side c.i (sym least_is) (sym most_is) s.across;
        up = s.up;
      })
          in (k.0, inr (inr k.1))
      | inl v ↦ elim ((second.cells c).0 v) [
        | inr s ↦ let k = (columns_cut window wire hulls low high side c ends_x bounds_x).1 (record {
          in_window = s.in_window;
          across = s.across;
          up = spans_at from to wire.rows.low wire.rows.high side c.j (sym from_is) (sym to_is) s.up;
        })
            in (k.0, inr (inl k.1))
        | inl w ↦ elim ((first.cells c).0 w) [ inl none ↦ absurd (union_none c none) | inr h ↦ (h.0, inl h.1) ]
      ]
    ],
    λ h. elim h.1 [
      | inl l ↦ (third.cells c).1 (inl ((second.cells c).1 (inl ((first.cells c).1 (inr (h.0, l))))))
      | inr (inl k) ↦
          let s = (columns_cut window wire hulls low high side c ends_x bounds_x).0 (h.0, k) in
          (third.cells c).1 (inl ((second.cells c).1 (inr (record {
            in_window = s.in_window;
            across = s.across;
            up = spans_at wire.rows.low wire.rows.high from to side c.j from_is to_is s.up;
          }))))
      | inr (inr k) ↦
          let s = (rows_cut window wire hulls bottom top side c ends_y bounds_y).0 (h.0, k) in
          (third.cells c).1 (inr (record {
            in_window = s.in_window;
            across = spans_at wire.columns.low wire.columns.high least most side c.i least_is most_is s.across;
            up = s.up;
          }))
    ],
  )

-- ---- of an island

-- a defect of a window is one of the half units that spans may have
defect_fits : (low high x : ℤ) (side : ℕ) → IsInterval FARTHEST_GROWN low high → IsIn low high x → 1 ≤ side → side ≤ GREATEST_SIDE → IsInterval FARTHEST_HALF (low_end x side) (high_end x side)
defect_fits low high x side w h some few =
    let a = w.least in let b = w.most in let f = h.from in let g = h.before in
    record { some = omega (arith, ints); least = omega (arith, ints); most = omega (arith, ints) }

-- of an island of one rectangle the box has what the rectangle has
half_of_wire : (island : IslandLists) (wire : Rect) (box : HalfBox) → island.pieces ≡ wire ∷ [] → ((h : Half) → HasHalf box h ↔ IsOn (Has wire) h)
    → (h : Half) → HasHalf box h ↔ IsOn (IsInUnion island.pieces) h
half_of_wire island wire box alone same h = subst (λ (rects : List Rect). HasHalf box h ↔ IsOn (IsInUnion rects) h) (sym alone) (
  λ has. let on = (same h).0 has in (on.0, on.1, (union_one on.0 wire).1 on.2),
  λ on. (same h).1 (on.0, on.1, (union_one on.0 wire).0 on.2),
)

-- of fewer than two anchors none is parted
pub none_severing : (wire : Rect) (hulls : List HalfBox) (window : Rect) (side : ℕ) (island : IslandLists) → IsWire wire hulls island → length hulls < 2 → HaveSeveringCells island side window []
none_severing wire hulls window side island is one c =
    (λ u. absurd (union_none c u), λ h. absurd (few_not_severed island hulls (IsInFootprint c side) is.have_hulls one h.1))

module _ (wire : Rect) (box : HalfBox) (same : (h : Half) → HasHalf box h ↔ IsOn (Has wire) h) (hulls : List HalfBox) (window : Rect) (side : ℕ) (some : 1 ≤ side) (few : side ≤ GREATEST_SIDE)
    (island : IslandLists) (is : IsWire wire hulls island) where
  fits_across : (c : Cell) → Has window c → IsInterval FARTHEST_HALF (low_end c.i side) (high_end c.i side)
  fits_across c has = defect_fits window.x0 window.x1 c.i side window.across has.across some few

  fits_up : (c : Cell) → Has window c → IsInterval FARTHEST_HALF (low_end c.j side) (high_end c.j side)
  fits_up c has = defect_fits window.y0 window.y1 c.j side window.up has.up some few

  pub severing_cells : 2 ≤ length hulls → (rects : List Rect) → ((c : Cell) → IsInUnion rects c ↔ (Has window c × PartsWire box hulls side c)) → HaveSeveringCells island side window rects
  severing_cells two rects are c =
      let on = half_of_wire island wire box is.alone same in (
        λ u. let h = (are c).0 u in (h.0, parts_severs island box hulls side c some (fits_across c h.0) (fits_up c h.0) on is.anchored is.have_hulls two h.1),
        λ h. (are c).1 (h.0, severed_parts island box hulls side c some (fits_across c h.0) (fits_up c h.0) on is.anchored is.have_hulls h.1),
      )
