-- where something stands first
use Rattle.std.proofs.Common.{◌≡◌, ℕ, ℤ, ◌<◌, ◌≤◌, List, length, get_or, map, Option, Some, None, sym, ap, ◌∙◌, subst, arith, slice_get, Contains}
use Rattle.lists.proofs.Words.{get_or_from_slice_get, length-map, map-map, slice_get_within}
use Rattle.std.specs.Prelude.{option_and_then, IsSomeAnd}
use Rattle.toml.specs.Data.{Data, Members, array, as_str, as_integer, integer, string}
use Rattle.toml.specs.View.{items_view, view}
use Rattle.toml.specs.declared.value.Value.{Value}
use Rattle.layer_map.specs.Values.{array_of, cuts_in, metals_in, name_of_item, pairs_of_item, values_in}
use Rattle.layer_map.specs.FirstPlaces.{IsFirstAmong, IsFirstAt, IsFirstNamed, IsFirstPair, IsNoPairOf}
use Rattle.layer_map.specs.declared.place.ItemKind.{ItemKind}
use Rattle.layer_map.specs.declared.place.ItemKind.TheVariants as kind
use Rattle.layer_map.proofs.SearchLaws.{NoneBefore, not_contained, there}
use Rattle.layer_map.proofs.ValueLaws.{listed-items_of}
use Rattle.layer_map.proofs.CauseLaws.{some_within, value_at}

module _ {A B C : Type 0} (show : B → C) (see : A → B) (items : List A) (wanted : C) where
  -- items are looked through in their order, and seen as they are shown
  abbrev pub NotBefore : ℕ → Type 0
  NotBefore = NoneBefore (λ item. show (see item)) items wanted

  pub first_at : (i : ℕ) (item : A) → i < length items → item ≡ get_or items i item → show (see item) ≡ wanted → NotBefore i → IsFirstAt (map show (map see items)) wanted i
  first_at i item within is same before = rw (map-map show see items) (record {
    there = there (λ x. show (see x)) items wanted i item within is same;
    none_before = λ k less found. before k less (get_or_from_slice_get (map (λ x. show (see x)) items) k wanted wanted found);
  })

  pub nowhere : (n : ℕ) → length items ≤ n → NotBefore n → Contains (map show (map see items)) wanted → ⊥
  nowhere n all before among = not_contained (λ x. show (see x)) items wanted n all before (subst (λ xs. Contains xs wanted) (map-map show see items) among)

-- the same of items as they are
module _ {A C : Type 0} (see : A → C) (items : List A) (wanted : C) where
  pub first_seen : (i : ℕ) (item : A) → i < length items → item ≡ get_or items i item → see item ≡ wanted → NoneBefore see items wanted i → IsFirstAt (map see items) wanted i
  first_seen i item within is same before = record {
    there = there see items wanted i item within is same;
    none_before = λ k less found. before k less (get_or_from_slice_get (map see items) k wanted wanted found);
  }

-- a value that is an array of these values is this pair where they are its numbers
pub pair_is : (d : Data) (vs : List Value) (pair : List Data) → d ≡ array (items_view vs) → ((map view vs ≡ pair) → d ≡ array_of pair) × (d ≡ array_of pair → map view vs ≡ pair)
pair_is d vs pair is = (
  (λ same. is ∙ ap array_of same),
  (λ same. sym (listed-items_of (map view vs)) ∙ ap (λ x. values_in (Some x)) (sym is ∙ same) ∙ listed-items_of pair),
)

-- items that have a value among their pairs
module _ (vs : List Value) (wanted : Data) where
  abbrev pub HasIt : Data → Type 0
  HasIt item = Contains (values_in (pairs_of_item item)) wanted

  pub first_among : (i at : ℕ) (item : Value) → i < length vs → item ≡ get_or vs i item → IsFirstAt (values_in (pairs_of_item (view item))) wanted at
      → ((k : ℕ) → k < i → IsSomeAnd (slice_get (map view vs) k) HasIt → ⊥) → IsFirstAmong (map view vs) wanted i at
  first_among i at item within is first before = record { there = rw (value_at vs i item within is) first; none_before = before }

  pub not_here : (i : ℕ) (item : Value) → i < length vs → item ≡ get_or vs i item → (HasIt (view item) → ⊥) → IsSomeAnd (slice_get (map view vs) i) HasIt → ⊥
  not_here i item within is not has = not (rw (value_at vs i item within is) at has)

  pub not_anywhere : (n : ℕ) → length vs ≤ n → ((k : ℕ) → k < n → IsSomeAnd (slice_get (map view vs) k) HasIt → ⊥) → IsNoPairOf (map view vs) wanted
  not_anywhere n all before k has = before k (omega (arith, some_within HasIt (map view vs) k has, length-map vs view)) has

-- what text and what number stand at a key
pub text_is : (found : Option Data) (text : List ℕ) → Some text ≡ option_and_then as_str found → found ≡ Some (string text)
text_is None text e = cc e
text_is (Some (string t)) text e = cc e
text_is (Some other) text e = cc e

pub number_is : (found : Option Data) (number : ℤ) → Some number ≡ option_and_then as_integer found → found ≡ Some (integer number)
number_is None number e = cc e
number_is (Some (integer z)) number e = cc e
number_is (Some other) number e = cc e

Contains-from_slice_get : {A : Type 0} (xs : List A) (k : ℕ) (x : A) → slice_get xs k ≡ Some x → Contains xs x
Contains-from_slice_get xs k x found = (k, slice_get_within xs k x found, get_or_from_slice_get xs k x x found)

no_first_among : (items : List Data) (value : Data) (number at : ℕ) → IsNoPairOf items value → IsFirstAmong items value number at → ⊥
no_first_among items value number at none first = none number (has (slice_get items number) first.there)
  where
    has : (found : Option Data) → IsSomeAnd found (λ item. IsFirstAt (values_in (pairs_of_item item)) value at) → IsSomeAnd found (λ item. Contains (values_in (pairs_of_item item)) value)
    has None no_item = no_item
    has (Some item) is = Contains-from_slice_get (values_in (pairs_of_item item)) at value is.there

-- where neither metals nor cuts have a name or a pair, it stands first nowhere
pub no_name : (document : Members) (name : List ℕ) → (Contains (map name_of_item (metals_in document)) (Some (string name)) → ⊥)
    → (Contains (map name_of_item (cuts_in document)) (Some (string name)) → ⊥) → (sort : ItemKind) (number : ℕ) → IsFirstNamed document name sort number → ⊥
no_name document name metals cuts kind.Metal number first = metals (Contains-from_slice_get _ number _ first.there)
no_name document name metals cuts kind.Cut number (none, first) = cuts (Contains-from_slice_get _ number _ first.there)
no_name document name metals cuts kind.Terminal number no_kind = absurd no_kind

pub no_pair : (document : Members) (value : Data) → IsNoPairOf (metals_in document) value → IsNoPairOf (cuts_in document) value → (sort : ItemKind) (number at : ℕ)
    → IsFirstPair document value sort number at → ⊥
no_pair document value metals cuts kind.Metal number at first = no_first_among (metals_in document) value number at metals first
no_pair document value metals cuts kind.Cut number at (none, first) = no_first_among (cuts_in document) value number at cuts first
no_pair document value metals cuts kind.Terminal number at no_kind = absurd no_kind
