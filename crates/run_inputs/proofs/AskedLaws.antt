-- what tasks ask of a map
use Rattle.std.proofs.Common.{ℕ, ◌≡◌, ◌+◌, ◌<◌, List, length, map, slice_get, zip, Option, Some, refl, sym, ap, subst, ◌∙◌, arith}
use Rattle.std.proofs.lemmas.Slice.Zip.{firsts-zip}
use Rattle.lists.proofs.Words.{length-map, map-map}
use Rattle.std.proofs.lemmas.Option.{slice_get-get_or, slice_get_within}
use Rattle.first_refusal.specs.Outcomes.{Reads, value, refused, reads, lacks, goes_on, stops}
use Rattle.command_line.specs.declared.task.Task.TheVariants.{Pairs}
use Rattle.map_model.specs.MapNames.{DefectSize, layer_map_of, weighed_size}
use Rattle.map_model.specs.declared.map.Map.{Map}
use Rattle.questions.specs.declared.kind.Kind.{Kind}
use Rattle.run_inputs.specs.Inquiries.{IsLayerNamed, IsListedIn, IsSizeNumbered, QueryComesTo, RegionComesTo}
use Rattle.run_inputs.specs.Refusals.{no_such_layer, no_such_size}
use Rattle.run_inputs.specs.declared.query.ListedSize.{ListedSize}
use Rattle.run_inputs.specs.declared.query.Query.TheVariants.{Pairs as for_pairs, Region as for_region}

module _ (given : Map) where
  abbrev sizes : List DefectSize
  sizes = (layer_map_of given).sizes

  -- the sizes of a layer map are those of the map
  sizes_are : map (λ (listed : DefectSize). listed.size) sizes ≡ given.sizes
  sizes_are = map-map (λ (listed : DefectSize). listed.size) weighed_size (zip given.sizes given.weights) ∙ firsts-zip given.sizes given.weights given.are_weights.as_many

  as_many : length sizes ≡ length given.sizes
  as_many = sym (length-map sizes (λ (listed : DefectSize). listed.size)) ∙ ap length sizes_are

  -- the size at a place has the number behind it
  size_numbered : (number : ℕ) (size : ListedSize) → number ≡ size.place + 1 → IsListedIn given.sizes size → IsSizeNumbered (layer_map_of given) number size
  size_numbered number size counted is = record {
    counted = counted;
    listed = subst (λ (all : List ℕ). slice_get all size.place ≡ Some size.size) (sym sizes_are)
        (subst (λ (n : ℕ). slice_get given.sizes size.place ≡ Some n) (sym is.is) (slice_get-get_or given.sizes size.place 0 is.below));
  }

  -- behind the last size there is none
  size_lacking : (number : ℕ) → length given.sizes < number → (size : ListedSize) → IsSizeNumbered (layer_map_of given) number size → ⊥
  size_lacking number behind size are =
      let at = slice_get_within (map (λ (listed : DefectSize). listed.size) sizes) size.place size.size are.listed in
      let counted = are.counted in
      let listed = length-map sizes (λ (listed : DefectSize). listed.size) in
      absurd (omega (arith, at, counted, listed, as_many, behind))

  -- the refusal tells how many sizes there are
  none_numbered : (number : ℕ) → length given.sizes < number → Reads (IsSizeNumbered (layer_map_of given) number) (no_such_size (length sizes)) (refused (no_such_size (length given.sizes)))
  none_numbered number behind =
      subst (λ n. Reads (IsSizeNumbered (layer_map_of given) number) (no_such_size (length sizes)) (refused (no_such_size n))) as_many (lacks (size_lacking number behind))

  module _ (layout name : List ℕ) (top : Option (List ℕ)) (number : ℕ) where
    -- the map has the size of which pairs are asked for
    pub pairs_asked : (size : ListedSize) → number ≡ size.place + 1 → IsListedIn given.sizes size → QueryComesTo (Pairs layout name top number) (layer_map_of given) (value (for_pairs size))
    pairs_asked size counted is = reads (record { size = size; numbered = size_numbered number size counted is; is_asked = refl })

    -- or it has fewer sizes
    pub pairs_lacking : length given.sizes < number → QueryComesTo (Pairs layout name top number) (layer_map_of given) (refused (no_such_size (length given.sizes)))
    pairs_lacking behind =
        subst (λ n. QueryComesTo (Pairs layout name top number) (layer_map_of given) (refused (no_such_size n))) as_many
        (lacks (λ query are. size_lacking number behind are.size are.numbered))

  module _ (kind : Kind) (layer : List ℕ) (number : ℕ) where
    -- the map lists fewer sizes than the number of the one whose cells are asked for
    pub region_lacks_size : length given.sizes < number → RegionComesTo (layer_map_of given) kind layer number (refused (no_such_size (length given.sizes)))
    region_lacks_size behind = stops (none_numbered number behind)

    module _ (size : ListedSize) (counted : number ≡ size.place + 1) (is : IsListedIn given.sizes size) where
      -- or it has the size and the layer
      pub region_asked : (found : ℕ) → IsLayerNamed (layer_map_of given) kind layer found → RegionComesTo (layer_map_of given) kind layer number (value (for_region kind found size))
      region_asked found named = goes_on {v = size} (reads (size_numbered number size counted is)) (reads (record { number = found; is_named = named; is_asked = refl }))

      -- or it lacks the layer
      pub region_lacks_layer : ((found : ℕ) → IsLayerNamed (layer_map_of given) kind layer found → ⊥) → RegionComesTo (layer_map_of given) kind layer number (refused no_such_layer)
      region_lacks_layer none = goes_on {v = size} (reads (size_numbered number size counted is)) (lacks (λ query are. none are.number are.is_named))
