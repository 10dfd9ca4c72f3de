-- The place of a name that is found is one where it stands, and the only one where names differ.
use Rattle.std.proofs.Common.{◌≡◌, ◌↔◌, ℕ, ◌<◌, ◌≤◌, Bool, true, false, nat_eq, List, length, get_or, Option, Some, None, inl, inr, refl, sym, ap, ◌∙◌, true≢false, arith}
use Rattle.lists.proofs.Words.{position, position_or_len, common_steps, cases_lt, get_or_from_slice_get, slice_get-get_or, slice_get_within}
use Rattle.std.specs.Cmp.Lexicographic.{pointwise, bytes_decides, nat_list_eq_equiv}
use Rattle.std.proofs.lemmas.List.Sums.{fails_before_first}
use Rattle.std.proofs.lemmas.List.Quantifiers.{position-Some}
use Rattle.lists.specs.Differing.{AreDifferent}
use Rattle.library_model.specs.Names.{StandsAt, place_of}

-- whether a name is this one
abbrev pub is_name : List ℕ → List ℕ → Bool
is_name = pointwise nat_eq

pub is_name-true : (one other : List ℕ) → is_name one other ≡ true → one ≡ other
is_name-true one other t = (bytes_decides one other).0 t

pub is_name-same : (name : List ℕ) → is_name name name ≡ true
is_name-same name = nat_list_eq_equiv.refl name

-- the place that is found is one where the name stands
pub stands_where_found : (name : List ℕ) (names : List (List ℕ)) (place : ℕ) → position (is_name name) names ≡ Some place → StandsAt names name place
stands_where_found name names place found =
    let told = position-Some (is_name name) names place name found in
    slice_get-get_or names place name told.0 ∙ ap Some (sym (is_name-true name _ told.1))

-- where names differ, one stands at one place
pub stands_once : (name : List ℕ) (names : List (List ℕ)) (one other : ℕ) → AreDifferent names → StandsAt names name one → StandsAt names name other → one ≡ other
stands_once name names one other differ first second =
    elim (cases_lt one other) [
      | inl before ↦ absurd (stand_apart one other first second before)
      | inr not_before ↦ elim (cases_lt other one) [ inl behind ↦ absurd (stand_apart other one second first behind) | inr not_behind ↦ omega arith ]
    ]
  where
    stand_apart : (i j : ℕ) → StandsAt names name i → StandsAt names name j → i < j → ⊥
    stand_apart i j at_i at_j before =
        differ i j name before (slice_get_within names j name at_j)
        (get_or_from_slice_get names i name name at_i ∙ sym (get_or_from_slice_get names j name name at_j))

is_found : (name : List ℕ) (names : List (List ℕ)) (place : ℕ) → StandsAt names name place → place_of names name ≡ None → ⊥
is_found name names place stands none =
    let within : place < length names = slice_get_within names place name stands in
    let past : length names ≤ position_or_len (is_name name) names = grind (arith, common_steps) in
    let fails : is_name name (get_or names place name) ≡ false = fails_before_first (is_name name) names place name (omega arith) in
    true≢false (sym (is_name-same name) ∙ ap (is_name name) (sym (get_or_from_slice_get names place name name stands)) ∙ fails)

-- where names differ, the place of a name is the one at which it stands
pub place_of-is : (names : List (List ℕ)) (name : List ℕ) (place : ℕ) → AreDifferent names → (place_of names name ≡ Some place) ↔ StandsAt names name place
place_of-is names name place differ = (stands_where_found name names place, λ stands. by_place stands (place_of names name) refl)
  where
    by_place : StandsAt names name place → (found : Option ℕ) → place_of names name ≡ found → place_of names name ≡ Some place
    by_place stands None e = absurd (is_found name names place stands e)
    by_place stands (Some k) e = e ∙ ap Some (stands_once name names k place differ (stands_where_found name names k e) stands)
