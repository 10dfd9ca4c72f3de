-- pairs of a layer and a datatype, as a document writes them
use Rattle.std.proofs.Common.{◌≡◌, ℕ, ◌+◌, ◌<◌, ◌≤◌, List, [], ◌∷◌, ◌++◌, length, get_or, take, drop, map, Option, Some, None, sym, ap, ◌∙◌, subst, arith, ◌≢◌, append_assoc, option_and_then, All}
use Rattle.std.proofs.Common.{Contains, take_all}
use Rattle.lists.proofs.Words.{length-map, take-append-drop, take_more, length-drop, get_or_default, add-zero, All-from_recursion, Contains-get_or, all_pairs_push, same_Some}
use Rattle.toml.specs.Data.{Data, array, as_array}
use Rattle.toml.specs.View.{items_of, items_view, view}
use Rattle.toml.specs.declared.value.Value.{Value}
use Rattle.map_model.specs.MapNames.{IsPair, ArePairs}
use Rattle.lists.specs.Differing.{AreDifferent}
use Rattle.layer_map.specs.Values.{array_of, whole_number, pair_value, values_in}
use Rattle.layer_map.specs.inside.ReadValues.{AreWholesIn, IsThere, IsWholeIn, IsWithin, Finds, finds, lacks, AreWritten, IsWritten}
use Rattle.map_model.specs.declared.limits.TheConstants.{GREATEST_PAIR_NUMBER, MOST_PAIRS}
use Rattle.std.proofs.lemmas.List.{get_or-drop}
use Rattle.lists.proofs.Differing.{different_apart}
use Rattle.layer_map.proofs.ValueLaws.{listed-items_of}
use Rattle.layer_map.proofs.FindLaws.{none_found}
use Rattle.layer_map.proofs.SpelledLaws.{none_written}

-- the values of an array that writes a list are that list
pub values_of_list : (vs : List Value) (ds : List Data) → array (items_view vs) ≡ array (items_of ds) → map view vs ≡ ds
values_of_list vs ds h = sym (listed-items_of (map view vs)) ∙ ap (λ d. values_in (Some d)) h ∙ listed-items_of ds

-- what stands at a key, where an array does, and where none does
module _ {A : Type 0} (as_value : A → Data) (Kind : List A → Type 0) (there : Option Data) where
  pub array_there : (vs : List Value) (things : Option (List A)) → there ≡ Some (array (items_view vs)) → Finds (AreWritten as_value Kind (map view vs)) things
      → Finds (IsThere (λ xs. array_of (map as_value xs)) Kind there) things
  array_there vs (Some things) told (finds are) = finds (record { written = told ∙ ap (λ (ds : List Data). Some (array (items_of ds))) are.written; is = are.is })
  array_there vs None told (lacks not) =
      lacks (λ things are. not things (record { written = values_of_list vs (map as_value things) (same_Some _ _ (sym told ∙ are.written)); is = are.is }))

  pub no_array_there : option_and_then as_array there ≡ None → Finds (IsThere (λ xs. array_of (map as_value xs)) Kind there) None
  no_array_there h = lacks (λ things are. let e : None ≡ as_array (array_of (map as_value things)) = sym h ∙ ap (option_and_then as_array) are.written in cc e)

module _ (numbers : List Value) where
  -- the numbers of a pair
  two_are : (pair : ℕ × ℕ) → IsWritten pair_value IsPair (array (items_view numbers)) pair → AreWholesIn 0 GREATEST_PAIR_NUMBER (map view numbers) (pair.0 ∷ pair.1 ∷ [])
  two_are pair is = record {
    written = values_of_list numbers (whole_number pair.0 ∷ whole_number pair.1 ∷ []) is.written;
    is = All-from_recursion (IsWithin 0 GREATEST_PAIR_NUMBER) (pair.0 ∷ pair.1 ∷ []) (record { least = omega arith; most = is.is.layer }, (record { least = omega arith; most = is.is.datatype }, tt));
  }

  -- an array of another length is no pair, nor one of other values
  pub not_two : (length numbers ≡ 2 → ⊥) → Finds (IsWritten pair_value IsPair (array (items_view numbers))) None
  not_two other = lacks (λ pair is. other (sym (length-map numbers view) ∙ ap length (two_are pair is).written))

  pub not_numbers : (i : ℕ) (v : Value) → i < length numbers → v ≡ get_or numbers i v → ((n : ℕ) → IsWholeIn 0 GREATEST_PAIR_NUMBER (view v) n → ⊥)
      → Finds (IsWritten pair_value IsPair (array (items_view numbers))) None
  not_numbers i v within is not = lacks (λ pair written.
      none_found (none_written whole_number (IsWithin 0 GREATEST_PAIR_NUMBER) numbers i v within is _ (λ xs each. each) 0 not) (pair.0 ∷ pair.1 ∷ []) (two_are pair written))

pub is_pair : (numbers : List Value) (first second : Value) (layer datatype : ℕ) → length numbers ≡ 2 → first ≡ get_or numbers 0 first → second ≡ get_or numbers 1 second
    → IsWholeIn 0 GREATEST_PAIR_NUMBER (view first) layer → IsWholeIn 0 GREATEST_PAIR_NUMBER (view second) datatype
    → Finds (IsWritten pair_value IsPair (array (items_view numbers))) (Some (layer, datatype))
is_pair (a ∷ b ∷ []) first second layer datatype two f s is also =
    finds (record {
      written = ap (λ (ds : List Data). array (items_of ds)) (ap (λ d. d ∷ view b ∷ []) (ap view (sym f) ∙ is.written) ∙ ap (λ d. whole_number layer ∷ d ∷ []) (ap view (sym s) ∙ also.written));
      is = record { layer = is.is.most; datatype = also.is.most };
    })
is_pair numbers first second layer datatype two f s is also = absurd (omega arith)

pub no_array_no_pair : (d : Data) → None ≡ as_array d → Finds (IsWritten pair_value IsPair d) None
no_array_no_pair d h = lacks (λ pair is. let e : None ≡ as_array (pair_value pair) = h ∙ ap as_array is.written in cc e)

-- several pairs
pub wrong_count : (vs : List Value) → ((1 ≤ length vs) × (length vs ≤ MOST_PAIRS) → ⊥) → Finds (AreWritten pair_value ArePairs (map view vs)) None
wrong_count vs not = lacks (λ pairs are.
    let same : length vs ≡ length pairs = sym (length-map vs view) ∙ ap length are.written ∙ length-map pairs pair_value in
    not (omega (arith, are.is.some), omega (arith, are.is.few)))

pub all_pairs : (vs : List Value) (pairs : List (ℕ × ℕ)) → 1 ≤ length vs → length vs ≤ MOST_PAIRS → AreWritten pair_value (All IsPair) (map view vs) pairs
    → Finds (AreWritten pair_value ArePairs (map view vs)) (Some pairs)
all_pairs vs pairs some few far =
    let same : length vs ≡ length pairs = sym (length-map vs view) ∙ ap length far.written ∙ length-map pairs pair_value in
    finds (record { written = far.written; is = record { some = omega arith; few = omega arith; each = far.is } })

-- pairs that are added one by one
pub record Adds (old more now : List (ℕ × ℕ)) (i : ℕ) : Type 0 where
  pub added : now ≡ old ++ take i more
  pub differ : AreDifferent old → AreDifferent now

pub adds_more : (old more now : List (ℕ × ℕ)) (i : ℕ) → i < length more → Adds old more now i → (Contains now (get_or more i (0, 0)) → ⊥) → Adds old more (now ++ get_or more i (0, 0) ∷ []) (i + 1)
adds_more old more now i within far new = record {
  added = ap (λ xs. xs ++ get_or more i (0, 0) ∷ []) far.added ∙ append_assoc old (take i more) (get_or more i (0, 0) ∷ []) ∙ ap (λ xs. old ++ xs) (sym (take_more more i (0, 0) within));
  differ = λ h. all_pairs_push (λ one other. one ≢ other) now (get_or more i (0, 0)) (far.differ h) (λ k d below same. new (subst (Contains now) same (Contains-get_or now k d below)));
}

pub stands_earlier : (old more now : List (ℕ × ℕ)) (i : ℕ) → i < length more → Adds old more now i → Contains now (get_or more i (0, 0)) → AreDifferent (old ++ more) → ⊥
stands_earlier old more now i within far there differ =
    let parts : old ++ more ≡ (old ++ take i more) ++ drop i more = ap (λ xs. old ++ xs) (sym (take-append-drop i more)) ∙ sym (append_assoc old (take i more) (drop i more)) in
    let first : get_or (drop i more) 0 (get_or more i (0, 0)) ≡ get_or more i (0, 0) = rw (get_or-drop, add-zero) (get_or_default more i _ (0, 0) within) in
    let behind : Contains (drop i more) (get_or more i (0, 0)) = (0, omega (arith, length-drop i more), first) in
    different_apart (old ++ take i more) (drop i more) (get_or more i (0, 0)) (subst AreDifferent parts differ) (subst (λ (xs : List (ℕ × ℕ)). Contains xs (get_or more i (0, 0))) far.added there)
    behind

pub all_added : (old more now : List (ℕ × ℕ)) (i : ℕ) → length more ≤ i → Adds old more now i → now ≡ old ++ more
all_added old more now i all far = far.added ∙ ap (λ xs. old ++ xs) (take_all i more all)
