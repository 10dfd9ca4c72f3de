-- What is checked of one item of a document's cuts: what is checked of each layer, and then the ends of the cut.
use Rattle.std.specs.Prelude.{ℕ, ◌≢◌, List, [], ◌∷◌, ◌++◌, codes, map}
use Rattle.toml.specs.Data.{Data}
use Rattle.layer_map.specs.Values.{lower_of_item, upper_of_item}
use Rattle.layer_map.specs.DocumentPaths.{lower_at, upper_at}
use Rattle.layer_map.specs.ItemChecks.{ReferenceCheck, reference_checks, ReferenceHolds, reference_fault}
use Rattle.layer_map.specs.LayerChecks.{LayerCheck, layer_checks, LayerHolds, layer_fault}
use Rattle.layer_map.specs.declared.fault.MapFault.{MapFault}
use Rattle.layer_map.specs.declared.fault.MapFault.TheVariants.{BadValue}

-- what is checked
pub data CutCheck : Type 0 where
  as_layer : LayerCheck → CutCheck
  of_lower : ReferenceCheck → CutCheck
  of_upper : ReferenceCheck → CutCheck
  ends_differ : CutCheck

-- the checks of the ends in their order
abbrev pub end_checks : List CutCheck
end_checks = map of_lower reference_checks ++ (map of_upper reference_checks ++ ends_differ ∷ [])

-- all checks in their order
abbrev pub cut_checks : List CutCheck
cut_checks = map as_layer layer_checks ++ end_checks

-- the keys of a cut
abbrev pub cut_keys : List (List ℕ)
cut_keys = codes "name" ∷ codes "pairs" ∷ codes "lower" ∷ codes "upper" ∷ []

-- What each demands of an item, where the document's metals are these, and the items of earlier layers are these.
abbrev pub CutHolds : List Data → List Data → Data → CutCheck → Type 0
CutHolds metals earlier item (as_layer check) = LayerHolds cut_keys earlier item check
CutHolds metals earlier item (of_lower check) = ReferenceHolds metals (lower_of_item item) check
CutHolds metals earlier item (of_upper check) = ReferenceHolds metals (upper_of_item item) check
CutHolds metals earlier item ends_differ = upper_of_item item ≢ lower_of_item item

-- the fault that each gives where it fails for the item with this path
abbrev pub cut_fault : ℕ → CutCheck → MapFault
cut_fault path (as_layer check) = layer_fault path check
cut_fault path (of_lower check) = reference_fault (lower_at path) check
cut_fault path (of_upper check) = reference_fault (upper_at path) check
cut_fault path ends_differ = BadValue (upper_at path)
