-- what is read of the items of metals and of cuts: names and pairs, and those that were seen
use Rattle.std.specs.Prelude.{ℕ, ◌≡◌, List, [], ◌∷◌, ◌++◌, map, flat_map, Option, Some, Contains}
use Rattle.toml.specs.Data.{Data, string}
use Rattle.layer_map.specs.Documents.{GivesLayer}
use Rattle.lists.specs.Differing.{AreDifferent}
use Rattle.layer_map.specs.Values.{pair_value, pairs_value, values_in, name_of_item, pairs_of_item}
use Rattle.layer_map.specs.declared.seen.Layer.{Layer}
use Rattle.layer_map.specs.declared.seen.Seen.{Seen}

-- a name as it stands in an item
abbrev pub written_name : List ℕ → Option Data
written_name name = Some (string name)

-- the values of the array at `pairs` of an item
abbrev pub pair_values : Data → List Data
pair_values item = values_in (pairs_of_item item)

-- the item has this name, which is new, and it was added
pub record TakesName (item : Data) (old new : List (List ℕ)) (name : List ℕ) : Type 0 where
  pub there : name_of_item item ≡ Some (string name)
  pub is_new : Contains old name → ⊥
  pub added : new ≡ old ++ name ∷ []

-- the item has these pairs, all of which are new, and they were added
pub record TakesPairs (item : Data) (old new : List (ℕ × ℕ)) (pairs : List (ℕ × ℕ)) : Type 0 where
  pub there : pairs_of_item item ≡ Some (pairs_value pairs)
  pub differ : AreDifferent new
  pub added : new ≡ old ++ pairs

-- the names and pairs of these items were seen
pub record AreSeen (items : List Data) (seen : Seen) : Type 0 where
  pub names : map name_of_item items ≡ map written_name seen.names.items
  pub pairs : flat_map pair_values items ≡ map pair_value seen.pairs.items
  pub names_differ : AreDifferent seen.names.items
  pub pairs_differ : AreDifferent seen.pairs.items

-- the item, behind these, gives this layer, whose name and pairs were added to those that were seen
pub record TakesLayer (earlier : List Data) (item : Data) (old new : Seen) (layer : Layer) : Type 0 where
  pub gives_it : GivesLayer item (record { name = layer.name; pairs = layer.pairs })
  pub names : new.names.items ≡ old.names.items ++ layer.name ∷ []
  pub pairs : new.pairs.items ≡ old.pairs.items ++ layer.pairs
  pub are_seen : AreSeen (earlier ++ item ∷ []) new
