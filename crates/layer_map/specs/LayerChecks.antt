-- What is checked of one item of a document's metals or cuts, one check after the other, and the fault of each.
use Rattle.std.specs.Prelude.{ℕ, List, [], ◌∷◌, ◌++◌, codes, map, flat_map, Contains}
use Rattle.toml.specs.Data.{Data, string}
use Rattle.lists.specs.Differing.{AreDifferent}
use Rattle.map_model.specs.MapNames.{IsLayerName, ArePairs}
use Rattle.layer_map.specs.Values.{StandsAs, pairs_value, values_in, name_of_item, pairs_of_item}
use Rattle.layer_map.specs.DocumentPaths.{name_at, pairs_at}
use Rattle.layer_map.specs.ItemChecks.{TableCheck, table_checks, TableHolds, table_fault}
use Rattle.layer_map.specs.declared.fault.MapFault.{MapFault}
use Rattle.layer_map.specs.declared.fault.MapFault.TheVariants.{BadValue, RepeatedPair, RepeatedName}

-- what is checked
pub data LayerCheck : Type 0 where
  as_table : TableCheck → LayerCheck
  has_name : LayerCheck
  has_new_name : LayerCheck
  has_pairs : LayerCheck
  has_new_pairs : LayerCheck

-- the checks in their order
abbrev pub layer_checks : List LayerCheck
layer_checks = map as_table table_checks ++ (has_name ∷ has_new_name ∷ has_pairs ∷ has_new_pairs ∷ [])

-- What each demands of an item that may have these keys, where the items of earlier layers are these. The name stands in
-- no earlier item, and no pair stands twice in the items up to this one.
abbrev pub LayerHolds : List (List ℕ) → List Data → Data → LayerCheck → Type 0
LayerHolds known earlier item (as_table check) = TableHolds known item check
LayerHolds known earlier item has_name = StandsAs string IsLayerName (name_of_item item)
LayerHolds known earlier item has_new_name = Contains (map name_of_item earlier) (name_of_item item) → ⊥
LayerHolds known earlier item has_pairs = StandsAs pairs_value ArePairs (pairs_of_item item)
LayerHolds known earlier item has_new_pairs = AreDifferent (flat_map (λ layer. values_in (pairs_of_item layer)) (earlier ++ item ∷ []))

-- the fault that each gives where it fails for the item with this path
abbrev pub layer_fault : ℕ → LayerCheck → MapFault
layer_fault path (as_table check) = table_fault path check
layer_fault path has_name = BadValue (name_at path)
layer_fault path has_new_name = RepeatedName (name_at path)
layer_fault path has_pairs = BadValue (pairs_at path)
layer_fault path has_new_pairs = RepeatedPair (pairs_at path)

-- the keys of a metal
abbrev pub metal_keys : List (List ℕ)
metal_keys = codes "name" ∷ codes "pairs" ∷ []
