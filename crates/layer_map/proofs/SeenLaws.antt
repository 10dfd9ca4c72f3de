-- names and pairs that were seen, those of the next item, and those of all layers
use Rattle.std.proofs.Common.{◌≡◌, ℕ, List, [], ◌∷◌, ◌++◌, map, Some, refl, sym, ap, ◌∙◌, subst, Contains}
use Rattle.map_model.specs.MapNames.{MappedLayer, metal_layer, names_of, pairs_of}
use Rattle.lists.proofs.Words.{append-nil, flat_map, flat_map-append, map-append, map-map, AllZip}
use Rattle.toml.specs.Data.{Data, Members}
use Rattle.lists.specs.Differing.{AreDifferent}
use Rattle.layer_map.specs.Values.{name_of_item, pairs_of_item, pair_value, pairs_value, values_in, metals_in}
use Rattle.layer_map.specs.Documents.{GivesLayer}
use Rattle.layer_map.specs.inside.ReadLayers.{AreSeen, TakesLayer, TakesName, TakesPairs, pair_values, written_name}
use Rattle.layer_map.specs.inside.ReadMetals.{HaveNamesOf, TakesMetals}
use Rattle.layer_map.specs.declared.seen.Layer.{Layer}
use Rattle.layer_map.specs.declared.seen.Seen.{Seen}
use Rattle.map_model.specs.declared.layers.Metal.{Metal}
use Rattle.lists.proofs.Differing.{AreDifferent-map, AreDifferent-unmap, different_more}
use Rattle.lists.proofs.Mapping.{Contains-map_from}
use Rattle.layer_map.proofs.ValueLaws.{listed-items_of}
use Rattle.layer_map.proofs.SpelledLaws.{zip_shows}

name_tells : (one other : List ℕ) → written_name one ≡ written_name other → one ≡ other
name_tells one other same = cc same

pub pair_tells : (one other : ℕ × ℕ) → pair_value one ≡ pair_value other → one ≡ other
pair_tells (a, b) (c, d) same = cc same

pub name_among : (names : List (List ℕ)) (name : List ℕ) → Contains (map written_name names) (written_name name) → Contains names name
name_among names name among = let (other, there, same) = Contains-map_from written_name names (written_name name) among in subst (Contains names) (name_tells other name same) there

-- all pairs up to an item
pub pairs_up_to : (earlier : List Data) (item : Data) (pairs more : List (ℕ × ℕ)) → flat_map pair_values earlier ≡ map pair_value pairs → pairs_of_item item ≡ Some (pairs_value more)
    → flat_map pair_values (earlier ++ item ∷ []) ≡ map pair_value (pairs ++ more)
pairs_up_to earlier item pairs more seen there =
    let here : pair_values item ≡ map pair_value more = ap values_in there ∙ listed-items_of (map pair_value more) in
    flat_map-append pair_values earlier (item ∷ []) ∙ ap (λ xs. flat_map pair_values earlier ++ xs) (append-nil (pair_values item)) ∙ ap (λ xs. xs ++ pair_values item) seen
    ∙ ap (λ xs. map pair_value pairs ++ xs) here ∙ sym (map-append pair_value pairs more)

-- layers that items give have their names and their pairs, and where those that were seen differ so do these
pub names_zip : (ds : List Data) (layers : List MappedLayer) → AllZip GivesLayer ds layers → map name_of_item ds ≡ map written_name (names_of layers)
names_zip ds layers all = zip_shows GivesLayer name_of_item (λ layer. written_name layer.name) (λ d layer gives. gives.name) ds layers all ∙ sym (map-map written_name (λ layer. layer.name) layers)

pairs_zip : (ds : List Data) (layers : List MappedLayer) → AllZip GivesLayer ds layers → flat_map pair_values ds ≡ map pair_value (pairs_of layers)
pairs_zip [] [] all = refl
pairs_zip (d ∷ ds) (l ∷ ls) all = ap (λ xs. xs ++ flat_map pair_values ds) (ap values_in all.0.pairs ∙ listed-items_of (map pair_value l.pairs))
    ∙ ap (λ xs. map pair_value l.pairs ++ xs) (pairs_zip ds ls all.1) ∙ sym (map-append pair_value l.pairs (pairs_of ls))
pairs_zip ds layers all = absurd all

pub layers_differ : (ds : List Data) (layers : List MappedLayer) (seen : Seen) → AllZip GivesLayer ds layers → AreSeen ds seen → AreDifferent (names_of layers) × AreDifferent (pairs_of layers)
layers_differ ds layers seen all are = (
  AreDifferent-unmap written_name (names_of layers) (subst AreDifferent (sym are.names ∙ names_zip ds layers all) (AreDifferent-map written_name seen.names.items name_tells are.names_differ)),
  AreDifferent-unmap pair_value (pairs_of layers) (subst AreDifferent (sym are.pairs ∙ pairs_zip ds layers all) (AreDifferent-map pair_value seen.pairs.items pair_tells are.pairs_differ)),
)

-- what is known of the metals behind which cuts and terminals are read
module _ (document : Members) (seen : Seen) (metals : List Metal) (takes : TakesMetals document seen metals) where
  pub have_names : HaveNamesOf (metals_in document) metals
  have_names = names_zip (metals_in document) (map metal_layer metals) takes.gives_them ∙ ap (map written_name) (map-map (λ layer. layer.name) metal_layer metals)

  pub layer_names_differ : AreDifferent (names_of (map metal_layer metals))
  layer_names_differ = (layers_differ (metals_in document) (map metal_layer metals) seen takes.gives_them takes.are_seen).0

  pub names_are_different : AreDifferent (map (λ metal. metal.name) metals)
  names_are_different = subst AreDifferent (map-map (λ layer. layer.name) metal_layer metals) layer_names_differ

-- what was seen, and the next item
pub takes_layer : (earlier : List Data) (item : Data) (old new : Seen) (layer : Layer) → AreSeen earlier old → TakesName item old.names.items new.names.items layer.name
    → TakesPairs item old.pairs.items new.pairs.items layer.pairs → TakesLayer earlier item old new layer
takes_layer earlier item old new layer seen name pairs = record {
  gives_it = record { name = name.there; pairs = pairs.there };
  names = name.added;
  pairs = pairs.added;
  are_seen = record {
    names = map-append name_of_item earlier (item ∷ []) ∙ ap (λ xs. xs ++ name_of_item item ∷ []) seen.names ∙ ap (λ x. map written_name old.names.items ++ x ∷ []) name.there
        ∙ sym (map-append written_name old.names.items (layer.name ∷ [])) ∙ ap (map written_name) (sym name.added);
    pairs = pairs_up_to earlier item old.pairs.items layer.pairs seen.pairs pairs.there ∙ ap (map pair_value) (sym pairs.added);
    names_differ = subst AreDifferent (sym name.added) (different_more old.names.items layer.name seen.names_differ name.is_new);
    pairs_differ = pairs.differ;
  };
}
