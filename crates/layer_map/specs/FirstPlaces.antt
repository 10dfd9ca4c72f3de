-- where something stands first in a document: a name, a pair of a layer and a datatype, and the cell of a terminal
use Rattle.std.specs.Prelude.{ℕ, ◌≡◌, ◌<◌, List, map, slice_get, Some, Contains, IsSomeAnd}
use Rattle.toml.specs.Data.{Data, Members, string}
use Rattle.layer_map.specs.Values.{values_in, name_of_item, pairs_of_item, metals_in, cuts_in}
use Rattle.layer_map.specs.declared.place.ItemKind.{ItemKind}
use Rattle.layer_map.specs.declared.place.ItemKind.TheVariants as kind

-- the item stands at this place of the list, and at none before it
pub record IsFirstAt {A : Type 0} (items : List A) (wanted : A) (number : ℕ) : Type 0 where
  pub there : slice_get items number ≡ Some wanted
  pub none_before : (k : ℕ) → k < number → slice_get items k ≡ Some wanted → ⊥

-- the metal or the cut with this number is the first of this name: metals come before cuts
abbrev pub IsFirstNamed : Members → List ℕ → ItemKind → ℕ → Type 0
IsFirstNamed document name kind.Metal number = IsFirstAt (map name_of_item (metals_in document)) (Some (string name)) number
IsFirstNamed document name kind.Cut number =
    (Contains (map name_of_item (metals_in document)) (Some (string name)) → ⊥)
    × IsFirstAt (map name_of_item (cuts_in document)) (Some (string name)) number
IsFirstNamed document name kind.Terminal number = ⊥

-- the item is the first of these that has the value among its pairs, where it stands first at this place
pub record IsFirstAmong (items : List Data) (value : Data) (number at : ℕ) : Type 0 where
  pub there : IsSomeAnd (slice_get items number) (λ item. IsFirstAt (values_in (pairs_of_item item)) value at)
  pub none_before : (k : ℕ) → k < number → IsSomeAnd (slice_get items k) (λ item. Contains (values_in (pairs_of_item item)) value) → ⊥

-- no item has the value among its pairs
abbrev pub IsNoPairOf : List Data → Data → Type 0
IsNoPairOf items value = (k : ℕ) → IsSomeAnd (slice_get items k) (λ item. Contains (values_in (pairs_of_item item)) value) → ⊥

-- the value stands first at this place among the pairs of the metal or the cut with this number: metals come before cuts
abbrev pub IsFirstPair : Members → Data → ItemKind → ℕ → ℕ → Type 0
IsFirstPair document value kind.Metal number at = IsFirstAmong (metals_in document) value number at
IsFirstPair document value kind.Cut number at = IsNoPairOf (metals_in document) value × IsFirstAmong (cuts_in document) value number at
IsFirstPair document value kind.Terminal number at = ⊥
