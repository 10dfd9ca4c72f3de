-- the bounds of rectangles, one after the other, and the window of lists of them
use Rattle.std.proofs.Common.{ℕ, zero, suc, ◌+◌, ◌<◌, ◌≡◌, sym, subst, ◌∙◌, ap, List, [], ◌∷◌, ◌++◌, length, take, get_or, inl, inr, ℤ, pos, ◌↔◌, Option, Some, Contains}
use Rattle.lists.proofs.Words.{append-nil, flat_map, flat_map-append, get_or_from_slice_get}
use Rattle.geo_core.specs.Plane.{Has, ComesNear, IsInLayout, IsJoin, IsInUnion, IsCoveredIn}
use Rattle.geo_core.specs.declared.plane.Cell.{Cell}
use Rattle.geo_core.specs.declared.plane.Rect.{Rect}
use Rattle.geo_core.proofs.RectLaws.{join_in_layout}
use Rattle.fault_model.specs.FaultNames.{IsCovered, IsBoundsOf, IsWindow}
use Rattle.fault_model.proofs.UnionLaws.{in_union, among_union, union_append, union_one}
use Rattle.area_parts.specs.inside.LayoutBounds.{AreBounds}
use Rattle.lists.proofs.Containing.{Contains-head, Contains-none, Contains-tail, number_of}
use Rattle.lists.proofs.Mapping.{Contains-flat_map, Contains-flat_map_from}
use Rattle.lists.proofs.Reading.{taken_more}

-- the bounds of one rectangle
pub one_bounds : (rect : Rect) → IsInLayout rect → AreBounds (rect ∷ []) (Some rect)
one_bounds rect within = (
  record {
    all_in = λ c v. (union_one c rect).0 v;
    least = λ other f c has. f c ((union_one c rect).1 has);
  },
  within,
)

-- ---- two lists

module _ (first second : List Rect) where
  pub joined_bounds : (a b box : Rect) → IsJoin a b box → AreBounds first (Some a) → AreBounds second (Some b) → AreBounds (first ++ second) (Some box)
  joined_bounds a b box j p q = (
    record {
      all_in = λ c v. elim ((union_append c first second).0 v) [ inl before ↦ j.first c (p.0.all_in c before) | inr behind ↦ j.second c (q.0.all_in c behind) ];
      least = λ other f. j.least other (p.0.least other (λ c v. f c ((union_append c first second).1 (inl v)))) (q.0.least other (λ c v. f c ((union_append c first second).1 (inr v))));
    },
    join_in_layout a b box j p.1 q.1,
  )

  pub second_alone : (box : Option Rect) → first ≡ [] → AreBounds second box → AreBounds (first ++ second) box
  second_alone box none q = subst (λ xs. AreBounds (xs ++ second) box) (sym none) q

  pub first_alone : (box : Option Rect) → second ≡ [] → AreBounds first box → AreBounds (first ++ second) box
  first_alone box none p = subst (λ xs. AreBounds (first ++ xs) box) (sym none) (subst (λ xs. AreBounds xs box) (sym (append-nil first)) p)

-- ---- all lists

-- what the lists cover, each by its number
abbrev pub Covered : List (List Rect) → Cell → Type 0
Covered lists = IsCovered (IsCoveredIn lists)

-- all rectangles of the lists
abbrev pub rects_of : List (List Rect) → List Rect
rects_of lists = flat_map (λ list. list) lists

-- one list more
pub rects_next : (lists : List (List Rect)) (k : ℕ) (list : List Rect) → k < length lists → list ≡ get_or lists k list → rects_of (take (k + 1) lists) ≡ rects_of (take k lists) ++ list
rects_next lists k list small is =
    ap rects_of (taken_more lists k list small is) ∙ flat_map-append (λ xs. xs) (take k lists) (list ∷ []) ∙ ap (λ rects. rects_of (take k lists) ++ rects) (append-nil list)

-- a list with an item is one of the lists
is_listed : (lists : List (List Rect)) (number : ℕ) (rect : Rect) → Contains (get_or lists number []) rect → Contains lists (get_or lists number [])
is_listed [] number rect h = absurd (Contains-none h)
is_listed (list ∷ lists) zero rect h = Contains-head list lists
is_listed (list ∷ lists) (suc number) rect h = Contains-tail list lists (get_or lists number []) (is_listed lists number rect h)

pub covered_is : (lists : List (List Rect)) (c : Cell) → IsInUnion (rects_of lists) c ↔ Covered lists c
covered_is lists c = (
  λ v.
      let found = Contains-flat_map_from (λ list. list) lists v.rect (among_union (rects_of lists) c v) in
      let number = number_of lists found.0 found.1 in
      let is : get_or lists number.0 [] ≡ found.0 = get_or_from_slice_get lists number.0 found.0 [] number.1 in
      (number.0, in_union (get_or lists number.0 []) v.rect c (subst (λ list. Contains list v.rect) (sym is) found.2) v.has),
  λ covered.
      let list = get_or lists covered.0 [] in
      let v = covered.1 in
      let among = among_union list c v in
      in_union (rects_of lists) v.rect c (Contains-flat_map (λ list. list) lists list v.rect (is_listed lists covered.0 v.rect among) among) v.has,
)

pub bounds_of_covered : (lists : List (List Rect)) (box : Rect) → IsBoundsOf (IsInUnion (rects_of lists)) box → IsBoundsOf (Covered lists) box
bounds_of_covered lists box b = record {
  all_in = λ c h. b.all_in c ((covered_is lists c).1 h);
  least = λ other f. b.least other (λ c v. f c ((covered_is lists c).0 v));
}

pub no_window : (lists : List (List Rect)) → rects_of lists ≡ [] → (c : Cell) → Covered lists c → ⊥
no_window lists e c h =
    let v = (covered_is lists c).1 h in
    Contains-none (subst (λ xs. Contains xs v.rect) e (among_union (rects_of lists) c v))

-- the bounds, grown
pub window_from : (covered : Cell → Type 0) (box window : Rect) (by : ℤ) (reach : ℕ) → IsBoundsOf covered box → ((c : Cell) → Has window c ↔ ComesNear box by c) → by ≡ pos reach
    → IsWindow covered reach window
window_from covered box window by reach bounds grown e = record { box = box; bounds = bounds; grown = λ c. subst (λ x. Has window c ↔ ComesNear box x c) e (grown c) }
