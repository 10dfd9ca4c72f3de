-- holes, and what unions of rectangles and spots have of them
use Rattle.std.proofs.Common.{ℕ, List, [], ◌∷◌, ◌<◌, ◌+◌, ◌≡◌, refl, sym, subst, ap, ◌∙◌, inl, inr, ◌⊎◌, ℤ, ◌+ℤ◌, ◌↔◌, All, Contains, length, get_or, take}
use Rattle.lists.proofs.Words.{All-contains, Contains-append_left, Contains-push, slice_get_read, take_more}
use Rattle.lists.proofs.Containing.{Contains-none, Contains-slice_get, Contains-take_cases}
use Rattle.geo_core.specs.Intervals.{IntervalsOverlap}
use Rattle.geo_core.specs.Cells.{Has, IsInLayout}
use Rattle.geo_core.specs.Unions.{IsInUnion}
use Rattle.geo_core.specs.declared.plane.Half.{Half}
use Rattle.geo_core.specs.declared.plane.Rect.{Rect}
use Rattle.geo_core.proofs.IntervalLaws.{IsIn-at}
use Rattle.fault_model.specs.FaultNames.{IsOn}
use Rattle.fault_model.specs.declared.island.Spot.{Spot}
use Rattle.fault_model.proofs.HalfLaws.{halves_in}
use Rattle.fault_model.proofs.UnionLaws.{union_more, union_none}
use Rattle.half_boxes.specs.HalfBoxes.{HasHalf, IsInBoxes, OverlapHalves}
use Rattle.half_boxes.specs.declared.boxes.HalfBox.{HalfBox}
use Rattle.ring_test.specs.Rings.{Hole, IsInHole}

pub same_hole : (a b : Hole) → a.left ≡ b.left → a.right ≡ b.right → a.bottom ≡ b.bottom → a.top ≡ b.top → a ≡ b
same_hole a b left right bottom top =
    let at : ℤ → ℤ → ℤ → ℤ → Hole = λ l r d t. record { left = l; right = r; bottom = d; top = t } in
    ap (λ l. at l a.right a.bottom a.top) left ∙ ap (λ r. at b.left r a.bottom a.top) right ∙ ap (λ d. at b.left b.right d a.top) bottom ∙ ap (at b.left b.right b.bottom) top

-- ---- columns and rows of what a layout has of a hole

module _ (rect : Rect) (hole : Hole) (h : Half) (on : IsOn (Has rect) h) (is : IsInHole hole h) where
  pub columns_in_hole : (left right : ℤ) → left ≡ hole.left → right ≡ hole.right → IntervalsOverlap (rect.x0 +ℤ rect.x0) (rect.x1 +ℤ rect.x1) left right
  columns_in_hole left right e f = (h.u, halves_in rect.x0 rect.x1 h.u on.0.i on.1.0 on.2.across, IsIn-at left right h.u is.0 e f refl)

  pub rows_in_hole : (bottom top : ℤ) → bottom ≡ hole.bottom → top ≡ hole.top → IntervalsOverlap (rect.y0 +ℤ rect.y0) (rect.y1 +ℤ rect.y1) bottom top
  rows_in_hole bottom top e f = (h.v, halves_in rect.y0 rect.y1 h.v on.0.j on.1.1 on.2.up, IsIn-at bottom top h.v is.1 e f refl)

-- ---- boxes

pub boxes_overlap : (one other : HalfBox) → IntervalsOverlap one.columns.low one.columns.high other.columns.low other.columns.high
    → IntervalsOverlap one.rows.low one.rows.high other.rows.low other.rows.high → OverlapHalves one other
boxes_overlap one other (u, a, b) (v, c, d) = (record { u = u; v = v }, record { across = a; up = c }, record { across = b; up = d })

pub columns_common : (one other : HalfBox) → OverlapHalves one other → IntervalsOverlap one.columns.low one.columns.high other.columns.low other.columns.high
columns_common one other (h, a, b) = (h.u, a.across, b.across)

pub rows_common : (one other : HalfBox) → OverlapHalves one other → IntervalsOverlap one.rows.low one.rows.high other.rows.low other.rows.high
rows_common one other (h, a, b) = (h.v, a.up, b.up)

-- ---- lists of rectangles and of spots, one more

pub on_none : (h : Half) → IsOn (IsInUnion []) h → ⊥
on_none h (c, lies, u) = union_none c u

pub on_more : (pieces : List Rect) (i : ℕ) (piece : Rect) (h : Half) → i < length pieces → piece ≡ get_or pieces i piece
    → IsOn (IsInUnion (take (i + 1) pieces)) h ↔ (IsOn (IsInUnion (take i pieces)) h ⊎ IsOn (Has piece) h)
on_more pieces i piece h small is = (
  λ (c, lies, u). elim ((union_more c pieces i piece small is).0 u) [ inl old ↦ inl (c, lies, old) | inr new ↦ inr (c, lies, new) ],
  λ either. elim either [
    | inl (c, lies, old) ↦ (c, lies, (union_more c pieces i piece small is).1 (inl old))
    | inr (c, lies, new) ↦ (c, lies, (union_more c pieces i piece small is).1 (inr new))
  ],
)

-- the same of boxes
pub boxes_none : (h : Half) → IsInBoxes [] h → ⊥
boxes_none h b = Contains-none b.among

pub boxes_more : (boxes : List HalfBox) (i : ℕ) (one : HalfBox) (h : Half) → i < length boxes → one ≡ get_or boxes i one → IsInBoxes (take (i + 1) boxes) h ↔ (IsInBoxes (take i boxes) h ⊎ HasHalf one h)
boxes_more boxes i one h small is =
    let added = sym (take_more boxes i one small) in (
      λ b. elim (Contains-take_cases boxes i one b.one small b.among) [
        | inl old ↦ inl (record { one = b.one; among = old; has = b.has })
        | inr last ↦ inr (subst (λ o. HasHalf o h) (sym (is ∙ last)) b.has)
      ],
      λ either. elim either [
        | inl b ↦ record { one = b.one; among = subst (λ xs. Contains xs b.one) added (Contains-append_left (take i boxes) (get_or boxes i one ∷ []) b.one b.among); has = b.has }
        | inr has ↦ record {
          one = get_or boxes i one;
          among = subst (λ xs. Contains xs (get_or boxes i one)) added (Contains-push (take i boxes) (get_or boxes i one));
          has = subst (λ o. HasHalf o h) is has;
        }
      ],
    )

-- where no rectangle that a layout may have comes into a hole, none of a layout does
pub layout_misses : (pieces : List Rect) (hole : Hole) → All IsInLayout pieces → ((rect : Rect) (h : Half) → IsInLayout rect → IsOn (Has rect) h → IsInHole hole h → ⊥)
    → (h : Half) → IsOn (IsInUnion pieces) h → IsInHole hole h → ⊥
layout_misses pieces hole all none h (c, lies, u) is = none u.rect h (All-contains IsInLayout pieces u.rect all (Contains-slice_get pieces u.number u.rect u.at)) (c, lies, u.has) is

-- what a rectangle of a list has, its union has
pub on_piece : (pieces : List Rect) (i : ℕ) (piece : Rect) (h : Half) → i < length pieces → piece ≡ get_or pieces i piece → IsOn (Has piece) h → IsOn (IsInUnion pieces) h
on_piece pieces i piece h small is (c, lies, has) = (c, lies, record { number = i; rect = piece; at = slice_get_read pieces (length pieces) i piece refl small is; has = has })

-- all half squares of the rectangles lie in the hole
abbrev pub HasAll : Hole → List Rect → Type 0
HasAll hole rects = (h : Half) → IsOn (IsInUnion rects) h → IsInHole hole h

pub all_more : (hole : Hole) (rects : List Rect) (i : ℕ) (rect : Rect) → i < length rects → rect ≡ get_or rects i rect → HasAll hole (take i rects)
    → ((h : Half) → IsOn (Has rect) h → IsInHole hole h) → HasAll hole (take (i + 1) rects)
all_more hole rects i rect small is all last h on = elim ((on_more rects i rect h small is).0 on) [ inl old ↦ all h old | inr new ↦ last h new ]

-- none of the spots so far lies in the hole
abbrev pub LosesNone : Hole → List Spot → Type 0
LosesNone hole spots = (spot : Spot) → Contains spots spot → HasAll hole spot.rects → ⊥

pub none_more : (hole : Hole) (spots : List Spot) (i : ℕ) (spot : Spot) → i < length spots → spot ≡ get_or spots i spot → LosesNone hole (take i spots)
    → (HasAll hole spot.rects → ⊥) → LosesNone hole (take (i + 1) spots)
none_more hole spots i spot small is none out other among all = elim (Contains-take_cases spots i spot other small among) [
  | inl old ↦ none other old all
  | inr new ↦ out (subst (λ (s : Spot). HasAll hole s.rects) (sym (is ∙ new)) all)
]
