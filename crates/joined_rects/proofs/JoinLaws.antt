-- lists of rectangles in which two that share a whole edge become one
use Rattle.std.proofs.Common.{List, [], ◌∷◌, ◌++◌, ℕ, ◌+◌, ◌<◌, ◌≡◌, ◌∙◌, ap, append_assoc, arith, drop, false, get_or, inl, inr, length, length-append, refl, subst, sym}
use Rattle.lists.proofs.Words.{cases_Bool, drop_more, sum_by-IsPermutation, sum_by-append, sum_by-cons, IsPermutation, get_or_from_slice_get, slice_get_within, slice_get-get_or}
use Rattle.std.proofs.lemmas.List.Sorted.{length_permutation}
use Rattle.geo_core.specs.Plane.{Has}
use Rattle.geo_core.specs.declared.plane.Cell.{Cell}
use Rattle.geo_core.specs.declared.plane.Rect.{Rect}
use Rattle.skyline_runs.specs.Depths.{has_cell}
use Rattle.skyline_runs.specs.Runs.{AreApart, HaveSameCells, IsInTwo}
use Rattle.skyline_runs.proofs.laws.DepthLaws.{depth_from_union, depth_of_two, has_from, has_so, two_from_depth, union_from_depth, weight, weight_not, weight_so}
use Rattle.joined_rects.specs.inside.Joins.{AreHalvesOf, IsJoined}

-- ---- what such lists say

-- they have the same cells
pub same_cells : (rects joined : List Rect) → IsJoined rects joined → HaveSameCells rects joined
same_cells rects joined is c =
    let same = is.depths c in (
      λ u. let some = depth_from_union c joined u.number u.rect u.at u.has in union_from_depth c rects (omega arith),
      λ u. let some = depth_from_union c rects u.number u.rect u.at u.has in union_from_depth c joined (omega arith),
    )

-- a cell lies in two rectangles of a list exactly where they are not apart
two_apart : (rects : List Rect) (c : Cell) → AreApart rects → IsInTwo rects c → ⊥
two_apart rects c apart t =
    apart t.first t.second t.one t.differ (slice_get_within rects t.second t.other t.other_at) (
      c,
      subst (λ (r : Rect). Has r c) (sym (get_or_from_slice_get rects t.first t.one t.one t.one_at)) t.one_has,
      subst (λ (r : Rect). Has r c) (sym (get_or_from_slice_get rects t.second t.other t.one t.other_at)) t.other_has,
    )

apart_none : (rects : List Rect) → ((c : Cell) → IsInTwo rects c → ⊥) → AreApart rects
apart_none rects none i j d before within (c, one_has, other_has) = none c (record {
  first = i;
  second = j;
  differ = before;
  one = get_or rects i d;
  other = get_or rects j d;
  one_at = slice_get-get_or rects i d (omega arith);
  other_at = slice_get-get_or rects j d within;
  one_has = one_has;
  other_has = other_has;
})

-- and are apart where the others are
pub still_apart : (rects joined : List Rect) → AreApart rects → IsJoined rects joined → AreApart joined
still_apart rects joined apart is = apart_none joined (λ c t.
    let same = is.depths c in let two = depth_of_two c joined t in two_apart rects c apart (two_from_depth c rects (omega arith)))

-- ---- steps

pub joined_same : (rects : List Rect) → IsJoined rects rects
joined_same rects = record { depths = λ c. refl; fewer = omega arith }

pub joined_again : (rects mid joined : List Rect) → IsJoined rects mid → IsJoined mid joined → IsJoined rects joined
joined_again rects mid joined first second = record {
  depths = λ c. second.depths c ∙ first.depths c;
  fewer = let a = first.fewer in let b = second.fewer in omega arith;
}

pub joined_permuted : (rects sorted : List Rect) → IsPermutation rects sorted → IsJoined rects sorted
joined_permuted rects sorted order = record {
  depths = λ c. sum_by-IsPermutation (weight c) rects sorted order;
  fewer = let long = length_permutation rects sorted order in omega arith;
}

-- two that make one
weights : (one next both : Rect) (c : Cell) → AreHalvesOf one next both → weight c both ≡ weight c one + weight c next
weights one next both c halves = elim (cases_Bool (has_cell c one)) [
  | inl t ↦
      let here = has_from c one t in let whole = weight_so c both ((halves.cells c).1 (inl here)) in let first = weight_so c one here in
      elim (cases_Bool (has_cell c next)) [
        | inl s ↦ absurd (halves.apart c here (has_from c next s))
        | inr f ↦ let second = weight_not c next f in omega arith
      ]
  | inr f ↦
      let first = weight_not c one f in
      elim (cases_Bool (has_cell c next)) [
        | inl s ↦ let there = has_from c next s in let whole = weight_so c both ((halves.cells c).1 (inr there)) in let second = weight_so c next there in omega arith
        | inr g ↦ let second = weight_not c next g in let whole = weight_not c both (neither f g) in omega arith
      ]
] where
  neither : has_cell c one ≡ false → has_cell c next ≡ false → has_cell c both ≡ false
  neither f g = elim (cases_Bool (has_cell c both)) [
    | inl t ↦ elim ((halves.cells c).0 (has_from c both t)) [ inl h ↦ cc (has_so c one h) | inr h ↦ cc (has_so c next h) ]
    | inr e ↦ e
  ]

pub joined_here : (front back : List Rect) (one next both : Rect) → AreHalvesOf one next both → IsJoined (front ++ one ∷ next ∷ back) (front ++ both ∷ back)
joined_here front back one next both halves = record {
  depths = λ c.
      let whole = weights one next both c halves in
      omega (
        arith,
        sum_by-append (weight c) front (both ∷ back),
        sum_by-append (weight c) front (one ∷ next ∷ back),
        sum_by-cons (weight c) both back,
        sum_by-cons (weight c) one (next ∷ back),
        sum_by-cons (weight c) next back,
      );
  fewer = omega (arith, length-append front (both ∷ back), length-append front (one ∷ next ∷ back));
}

-- ---- a list that is gone through: what was joined, the last one, and what is left

abbrev pub IsJoinedTo : List Rect → List Rect → Rect → List Rect → Type 0
IsJoinedTo rects joined last left = IsJoined rects (joined ++ last ∷ left)

-- one more of those that are left
module _ (rects joined others : List Rect) (k : ℕ) (last rect : Rect) (small : k < length others) (is : rect ≡ get_or others k rect) (so_far : IsJoinedTo rects joined last (drop k others)) where
  left_is : drop k others ≡ rect ∷ drop (k + 1) others
  left_is = drop_more others k rect small ∙ ap (λ (r : Rect). r ∷ drop (k + 1) others) (sym is)

  -- it is joined to the last one
  pub joined_to_last : (both : Rect) → AreHalvesOf last rect both → IsJoinedTo rects joined both (drop (k + 1) others)
  joined_to_last both halves =
      joined_again rects (joined ++ last ∷ rect ∷ drop (k + 1) others) (joined ++ both ∷ drop (k + 1) others)
      (subst (λ (left : List Rect). IsJoinedTo rects joined last left) left_is so_far) (joined_here joined (drop (k + 1) others) last rect both halves)

  -- it is the last one itself
  pub joined_to_none : (more : List Rect) → more ≡ joined ++ last ∷ [] → IsJoinedTo rects more rect (drop (k + 1) others)
  joined_to_none more gained =
      subst (λ (front : List Rect). IsJoinedTo rects front rect (drop (k + 1) others)) (sym gained)
      (subst (IsJoined rects) (sym (append_assoc joined (last ∷ []) (rect ∷ drop (k + 1) others)))
      (subst (λ (left : List Rect). IsJoinedTo rects joined last left) left_is so_far))
