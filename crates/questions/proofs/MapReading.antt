-- the sizes and the layers of a map, one after the other
use Rattle.std.proofs.Common.{◌≡◌, ℕ, ◌+◌, ◌<◌, ◌≤◌, List, length, map, get_or, sym, ap, ◌∙◌, subst, arith, option_map, zero-add, Some, slice_get}
use Rattle.lists.proofs.Words.{enumerate_from, zip, length-map, length-enumerate_from, slice_get-map, slice_get-get_or, slice_get_read, length-zip, map-map}
use Rattle.lists.proofs.Numbering.{slice_get-enumerate}
use Rattle.lists.proofs.Pairing.{slice_get-zip}
use Rattle.map_model.specs.MapNames.{MappedCut, weighed_size, cut_layer, mapped_cut, metal_layer, layer_map_of, sizes_of}
use Rattle.map_model.specs.declared.layers.Cut.{Cut}
use Rattle.map_model.specs.declared.layers.Metal.{Metal}
use Rattle.map_model.specs.declared.map.Map.{Map}
use Rattle.questions.specs.Questions.{cut_layers, metal_layers}

-- the number and the weight at one place, and that there are no more sizes than numbers
module _ (numbers weights : List ℕ) (as_many : length weights ≡ length numbers) (k : ℕ) where
  pub size_at : (rs ws : List ℕ) → rs ≡ numbers → ws ≡ weights → k < length rs → slice_get (sizes_of numbers weights) k ≡ Some (weighed_size (get_or rs k 0, get_or ws k 0))
  size_at rs ws e f small =
      let number : slice_get numbers k ≡ Some (get_or rs k 0) = subst (λ (xs : List ℕ). slice_get xs k ≡ Some (get_or rs k 0)) e (slice_get-get_or rs k 0 small) in
      let within : k < length ws = omega (arith, ap length e, ap length f) in
      let weight : slice_get weights k ≡ Some (get_or ws k 0) = subst (λ (xs : List ℕ). slice_get xs k ≡ Some (get_or ws k 0)) f (slice_get-get_or ws k 0 within) in
      slice_get-map weighed_size (zip numbers weights) k ∙ ap (option_map weighed_size) (slice_get-zip numbers weights k _ _ number weight)

  pub past_sizes : (rs : List ℕ) → rs ≡ numbers → length rs ≤ k → length (sizes_of numbers weights) ≤ k
  past_sizes rs e past = omega (arith, ap length e, length-zip numbers weights, length-map (zip numbers weights) weighed_size)

-- things as layers with their numbers
module _ {M L : Type 0} (as_layer : M → L) (first : ℕ) (things items : List M) (e : items ≡ things) (k : ℕ) where
  layer_at : (thing : M) → k < length items → thing ≡ get_or items k thing → slice_get (enumerate_from first (map as_layer things)) k ≡ Some (first + k, as_layer thing)
  layer_at thing small is =
      let read : slice_get things k ≡ Some thing = slice_get_read things (length items) k thing (ap length e) small (subst (λ xs. thing ≡ get_or xs k thing) e is) in
      slice_get-enumerate first (map as_layer things) k (as_layer thing) (slice_get-map as_layer things k ∙ ap (option_map as_layer) read)

  past_layers : length items ≤ k → length (enumerate_from first (map as_layer things)) ≤ k
  past_layers past = omega (arith, length-enumerate_from first (map as_layer things), length-map things as_layer, ap length e)

module _ (given : Map) where
  -- the metals of a map
  module _ (items : List Metal) (e : items ≡ given.metals) (k : ℕ) where
    pub metal_at : (metal : Metal) → k < length items → metal ≡ get_or items k metal → slice_get (metal_layers (layer_map_of given)) k ≡ Some (k, metal_layer metal)
    metal_at metal small is = layer_at metal_layer 0 given.metals items e k metal small is ∙ ap (λ n. Some (n, metal_layer metal)) (zero-add k)

    pub past_metals : length items ≤ k → length (metal_layers (layer_map_of given)) ≤ k
    past_metals = past_layers metal_layer 0 given.metals items e k

  -- its cuts, whose numbers go on behind those of the metals
  mapped_cuts : map (λ (cut : MappedCut). cut.mapped) (map mapped_cut given.cuts) ≡ map cut_layer given.cuts
  mapped_cuts = map-map (λ (cut : MappedCut). cut.mapped) mapped_cut given.cuts

  numbered : cut_layers (layer_map_of given) ≡ enumerate_from (length given.metals) (map cut_layer given.cuts)
  numbered = ap (enumerate_from (length (map metal_layer given.metals))) mapped_cuts ∙ ap (λ n. enumerate_from n (map cut_layer given.cuts)) (length-map given.metals metal_layer)

  module _ (items : List Cut) (e : items ≡ given.cuts) (k : ℕ) where
    pub cut_at : (metals : ℕ) (cut : Cut) → metals ≡ length given.metals → k < length items → cut ≡ get_or items k cut
        → slice_get (cut_layers (layer_map_of given)) k ≡ Some (metals + k, cut_layer cut)
    cut_at metals cut count small is =
        ap (λ ls. slice_get ls k) numbered ∙ layer_at cut_layer (length given.metals) given.cuts items e k cut small is ∙ ap (λ n. Some (n + k, cut_layer cut)) (sym count)

    pub past_cuts : length items ≤ k → length (cut_layers (layer_map_of given)) ≤ k
    past_cuts past = subst (λ ls. length ls ≤ k) (sym numbered) (past_layers cut_layer (length given.metals) given.cuts items e k past)
