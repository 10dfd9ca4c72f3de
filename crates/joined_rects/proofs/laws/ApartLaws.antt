-- rectangles without common cells, and lists of them one after the other
use Rattle.std.proofs.Common.{ℕ, zero, suc, ◌+◌, ◌<◌, ◌≡◌, ◌∙◌, sym, subst, List, [], ◌∷◌, ◌++◌, length, get_or, inl, inr, ◌⊎◌, ◌↔◌, arith}
use Rattle.lists.proofs.Words.{get_or_from_slice_get, slice_get-get_or, slice_get_within}
use Rattle.lists.proofs.Containing.{slice_get-front, slice_get-back}
use Rattle.geo_core.specs.Plane.{Has, HasNumber, IsInUnion}
use Rattle.geo_core.specs.declared.plane.Cell.{Cell}
use Rattle.geo_core.specs.declared.plane.Rect.{Rect}
use Rattle.skyline_runs.specs.Runs.{AreApart, IsInTwo}

-- ---- two rectangles of a list

-- rectangles are apart exactly where no cell lies in two
pub two_apart : (rects : List Rect) → AreApart rects → (c : Cell) → IsInTwo rects c → ⊥
two_apart rects apart c t =
    apart t.first t.second t.one t.differ (slice_get_within rects t.second t.other t.other_at) (
      c,
      subst (λ (r : Rect). Has r c) (sym (get_or_from_slice_get rects t.first t.one t.one t.one_at)) t.one_has,
      subst (λ (r : Rect). Has r c) (sym (get_or_from_slice_get rects t.second t.other t.one t.other_at)) t.other_has,
    )

pub apart_none : (rects : List Rect) → ((c : Cell) → IsInTwo rects c → ⊥) → AreApart rects
apart_none rects none i j d before within (c, one_has, other_has) = none c (record {
  first = i;
  second = j;
  differ = before;
  one = get_or rects i d;
  other = get_or rects j d;
  one_at = slice_get-get_or rects i d (omega arith);
  other_at = slice_get-get_or rects j d within;
  one_has = one_has;
  other_has = other_has;
})

-- ---- two lists

number_cases : (xs ys : List Rect) (k : ℕ) (r : Rect) → HasNumber (xs ++ ys) k r
    → HasNumber xs k r ⊎ ((m : ℕ) × (k ≡ length xs + m) × HasNumber ys m r)
number_cases [] ys k r at = inr (k, omega arith, at)
number_cases (x ∷ xs) ys zero r at = inl at
number_cases (x ∷ xs) ys (suc k) r at = elim (number_cases xs ys k r at) [ inl h ↦ inl h | inr h ↦ let e = h.1 in inr (h.0, omega arith, h.2) ]

module _ (c : Cell) (xs ys : List Rect) where
  -- two rectangles of both lists
  abbrev pub TwoOfBoth : Type 0
  TwoOfBoth = IsInTwo xs c ⊎ (IsInTwo ys c ⊎ (IsInUnion xs c × IsInUnion ys c))

  two_cases : (t : IsInTwo (xs ++ ys) c) → HasNumber xs t.first t.one ⊎ ((m : ℕ) × (t.first ≡ length xs + m) × HasNumber ys m t.one)
      → HasNumber xs t.second t.other ⊎ ((m : ℕ) × (t.second ≡ length xs + m) × HasNumber ys m t.other) → TwoOfBoth
  two_cases t (inl p) (inl q) = inl
      (record {
        first = t.first;
        second = t.second;
        differ = t.differ;
        one = t.one;
        other = t.other;
        one_at = p;
        other_at = q;
        one_has = t.one_has;
        other_has = t.other_has;
      })
  two_cases t (inl p) (inr q) = inr (inr (
    record { number = t.first; rect = t.one; at = p; has = t.one_has },
    record { number = q.0; rect = t.other; at = q.2; has = t.other_has },
  ))
  two_cases t (inr p) (inl q) = let e = p.1 in let d = t.differ in let w = slice_get_within xs t.second t.other q in absurd (omega arith)
  two_cases t (inr p) (inr q) =
      let e = p.1 in let f = q.1 in let d = t.differ in
      inr (inl (record {
        first = p.0;
        second = q.0;
        differ = omega arith;
        one = t.one;
        other = t.other;
        one_at = p.2;
        other_at = q.2;
        one_has = t.one_has;
        other_has = t.other_has;
      }))

  two_in_front : IsInTwo xs c → IsInTwo (xs ++ ys) c
  two_in_front t = record {
    first = t.first;
    second = t.second;
    differ = t.differ;
    one = t.one;
    other = t.other;
    one_at = slice_get-front xs ys t.first t.one t.one_at;
    other_at = slice_get-front xs ys t.second t.other t.other_at;
    one_has = t.one_has;
    other_has = t.other_has;
  }

  two_behind : IsInTwo ys c → IsInTwo (xs ++ ys) c
  two_behind t = let d = t.differ in record {
    first = length xs + t.first;
    second = length xs + t.second;
    differ = omega arith;
    one = t.one;
    other = t.other;
    one_at = slice_get-back xs ys t.first ∙ t.one_at;
    other_at = slice_get-back xs ys t.second ∙ t.other_at;
    one_has = t.one_has;
    other_has = t.other_has;
  }

  one_in_each : IsInUnion xs c × IsInUnion ys c → IsInTwo (xs ++ ys) c
  one_in_each h = let w = slice_get_within xs h.0.number h.0.rect h.0.at in record {
    first = h.0.number;
    second = length xs + h.1.number;
    differ = omega arith;
    one = h.0.rect;
    other = h.1.rect;
    one_at = slice_get-front xs ys h.0.number h.0.rect h.0.at;
    other_at = slice_get-back xs ys h.1.number ∙ h.1.at;
    one_has = h.0.has;
    other_has = h.1.has;
  }

  two_from : TwoOfBoth → IsInTwo (xs ++ ys) c
  two_from (inl t) = two_in_front t
  two_from (inr (inl t)) = two_behind t
  two_from (inr (inr h)) = one_in_each h

  pub two_append : IsInTwo (xs ++ ys) c ↔ TwoOfBoth
  two_append = (λ t. two_cases t (number_cases xs ys t.first t.one t.one_at) (number_cases xs ys t.second t.other t.other_at), two_from)

-- ---- lists that are apart

pub apart_few : (rects : List Rect) → length rects < 2 → AreApart rects
apart_few rects few = λ i j d before within. absurd (omega arith)

pub apart_append : (xs ys : List Rect) → AreApart xs → AreApart ys → ((c : Cell) → IsInUnion xs c → IsInUnion ys c → ⊥) → AreApart (xs ++ ys)
apart_append xs ys one other none = apart_none (xs ++ ys) (λ c t. elim ((two_append c xs ys).0 t) [
  | inl u ↦ two_apart xs one c u
  | inr h ↦ elim h [ inl u ↦ two_apart ys other c u | inr k ↦ none c k.0 k.1 ]
])
