-- unions of lists of rectangles: by what the list contains, and as it grows
use Rattle.std.proofs.Common.{List, [], arith, get_or, inl, inr, length, refl, subst, sym, take, ℕ, ◌++◌, ◌+◌, ◌<◌, ◌∷◌, ◌≡◌, ◌≢◌, ◌⊎◌, Contains, ◌↔◌}
use Rattle.lists.proofs.Words.{Contains-append_cases, Contains-append_left, Contains-append_right, Contains-permutation, IsPermutation-sym, IsPermutation, ints}
use Rattle.lists.proofs.Containing.{Contains-head, Contains-none, Contains-one, Contains-slice_get, number_of}
use Rattle.lists.proofs.Reading.{taken_more}
use Rattle.geo_core.specs.Plane.{Has, IsInUnion}
use Rattle.geo_core.specs.declared.plane.Cell.{Cell}
use Rattle.geo_core.specs.declared.plane.Rect.{Rect}

-- a rectangle has a cell
pub corner_of : (rect : Rect) → (c : Cell) × Has rect c
corner_of rect =
    let a = rect.across.some in let b = rect.up.some in
    (record { i = rect.x0; j = rect.y0 }, record { across = record { from = omega (arith, ints); before = a }; up = record { from = omega (arith, ints); before = b } })

pub in_union : (rects : List Rect) (rect : Rect) (c : Cell) → Contains rects rect → Has rect c → IsInUnion rects c
in_union rects rect c among has = let number = number_of rects rect among in record { number = number.0; rect = rect; at = number.1; has = has }

pub among_union : (rects : List Rect) (c : Cell) (u : IsInUnion rects c) → Contains rects u.rect
among_union rects c u = Contains-slice_get rects u.number u.rect u.at

-- the union of rectangles of which there is one has a cell
pub cell_of_some : (rects : List Rect) → rects ≢ [] → (c : Cell) × IsInUnion rects c
cell_of_some [] some = absurd (some refl)
cell_of_some (rect ∷ rects) some = let c = corner_of rect in (c.0, in_union (rect ∷ rects) rect c.0 (Contains-head rect rects) c.1)

-- what has the rectangles of a list has its union
pub union_within : (xs ys : List Rect) (c : Cell) → ((x : Rect) → Contains xs x → Contains ys x) → IsInUnion xs c → IsInUnion ys c
union_within xs ys c all u = in_union ys u.rect c (all u.rect (among_union xs c u)) u.has

module _ (c : Cell) where
  pub union_none : IsInUnion [] c → ⊥
  union_none u = Contains-none (among_union [] c u)

  pub union_one : (x : Rect) → IsInUnion (x ∷ []) c ↔ Has x c
  union_one x = (
    λ u. subst (λ (r : Rect). Has r c) (sym (Contains-one x u.rect (among_union (x ∷ []) c u))) u.has,
    in_union (x ∷ []) x c (Contains-head x []),
  )

  pub union_append : (xs ys : List Rect) → IsInUnion (xs ++ ys) c ↔ (IsInUnion xs c ⊎ IsInUnion ys c)
  union_append xs ys = (
    λ u. elim (Contains-append_cases xs ys u.rect (among_union (xs ++ ys) c u)) [ inl k ↦ inl (in_union xs u.rect c k u.has) | inr k ↦ inr (in_union ys u.rect c k u.has) ],
    λ h. elim h [ inl u ↦ union_within xs (xs ++ ys) c (Contains-append_left xs ys) u | inr u ↦ union_within ys (xs ++ ys) c (Contains-append_right xs ys) u ],
  )

  pub union_push : (xs : List Rect) (x : Rect) → IsInUnion (xs ++ x ∷ []) c ↔ (IsInUnion xs c ⊎ Has x c)
  union_push xs x = let both = union_append xs (x ∷ []) in let one = union_one x in (
    λ u. elim (both.0 u) [ inl v ↦ inl v | inr v ↦ inr (one.0 v) ],
    λ h. both.1 (elim h [ inl v ↦ inl v | inr has ↦ inr (one.1 has) ]),
  )

  pub union_more : (xs : List Rect) (i : ℕ) (x : Rect) → i < length xs → x ≡ get_or xs i x → IsInUnion (take (i + 1) xs) c ↔ (IsInUnion (take i xs) c ⊎ Has x c)
  union_more xs i x small is = subst (λ (ys : List Rect). IsInUnion ys c ↔ (IsInUnion (take i xs) c ⊎ Has x c)) (sym (taken_more xs i x small is)) (union_push (take i xs) x)

  pub union_permutation : (xs ys : List Rect) → IsPermutation xs ys → IsInUnion ys c ↔ IsInUnion xs c
  union_permutation xs ys p = (
    union_within ys xs c (λ x. Contains-permutation ys xs x (IsPermutation-sym xs ys p)),
    union_within xs ys c (λ x. Contains-permutation xs ys x p),
  )
