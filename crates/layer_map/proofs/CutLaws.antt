-- the cuts of a document, and the metals that they join
use Rattle.std.proofs.Common.{◌≡◌, ℕ, ◌<◌, ◌≤◌, List, [], ◌∷◌, ◌++◌, length, map, Option, sym, ap, ◌∙◌, subst, arith, ◌≢◌, get_or, Some, inl, inr, slice_get, option_map}
use Rattle.lists.specs.Differing.{AreDifferent}
use Rattle.lists.proofs.Words.{AllZip, length-map, slice_get_within, cases_lt, slice_get-map, get_or_from_slice_get, map-map, same_Some}
use Rattle.toml.specs.Data.{Data, Members, string}
use Rattle.layer_map.specs.Documents.{GivesCut, GivesLayer, NamesMetal}
use Rattle.map_model.specs.MapNames.{MappedLayer, JoinsMetals, cut_layer, mapped_cut, mapped_layers, metal_layer, names_of}
use Rattle.layer_map.specs.inside.ReadLayers.{AreSeen, TakesLayer}
use Rattle.layer_map.specs.inside.ReadMetals.{TakesMetals}
use Rattle.layer_map.specs.inside.ReadCuts.{TakesCut, TakesCuts, TakesEnds}
use Rattle.layer_map.specs.Values.{cuts_in, metals_in, lower_of_item, upper_of_item}
use Rattle.map_model.specs.declared.layers.Cut.{Cut}
use Rattle.map_model.specs.declared.layers.Metal.{Metal}
use Rattle.map_model.specs.declared.limits.TheConstants.{MOST_CUTS}
use Rattle.layer_map.specs.declared.seen.Layer.{Layer}
use Rattle.layer_map.specs.declared.seen.Seen.{Seen}
use Rattle.lists.proofs.Pairing.{AllZip-append}
use Rattle.layer_map.proofs.SeenLaws.{layers_differ}
use Rattle.layer_map.proofs.SpelledLaws.{zip_becomes, zip_each}

-- an item stands at one place of different items
one_place : {A : Type 0} (xs : List A) → AreDifferent xs → (x : A) (i j : ℕ) → slice_get xs i ≡ Some x → slice_get xs j ≡ Some x → i ≡ j
one_place xs differ x i j one other =
    let same : get_or xs i x ≡ get_or xs j x = get_or_from_slice_get xs i x x one ∙ sym (get_or_from_slice_get xs j x x other) in
    elim (cases_lt i j) [
      | inl below ↦ absurd (differ i j x below (slice_get_within xs j x other) same)
      | inr not_below ↦ elim (cases_lt j i) [ inl above ↦ absurd (differ j i x above (slice_get_within xs i x one) (sym same)) | inr not_above ↦ omega arith ]
    ]

-- where the names of metals differ, what stands there names one metal
pub one_metal_named : (metals : List MappedLayer) (there : Option Data) (one other : ℕ) → AreDifferent (names_of metals) → NamesMetal metals there one → NamesMetal metals there other → one ≡ other
one_metal_named metals there one other differ names also =
    let same : names.metal.name ≡ also.metal.name = let e : Some (string names.metal.name) ≡ Some (string also.metal.name) = sym names.named ∙ also.named in cc e in
    let one_is = name_at_number one names in
    let other_is = name_at_number other also ∙ ap Some (sym same) in
    one_place (names_of metals) differ names.metal.name one other one_is other_is where
      name_at_number : (k : ℕ) (there_names : NamesMetal metals there k) → slice_get (names_of metals) k ≡ Some there_names.metal.name
      name_at_number k names = slice_get-map (λ (l : MappedLayer). l.name) metals k ∙ ap (λ o. option_map (λ (l : MappedLayer). l.name) o) names.numbered

-- what the two references name, at the item
module _ (metals : List Metal) (item : Data) {lower upper : ℕ} (lower_names : NamesMetal (map metal_layer metals) (lower_of_item item) lower)
    (upper_names : NamesMetal (map metal_layer metals) (upper_of_item item) upper) where
  pub one_end : lower ≡ upper → upper_of_item item ≡ lower_of_item item
  one_end same =
      let same_metal : upper_names.metal ≡ lower_names.metal = same_Some _ _ (sym upper_names.numbered ∙ ap (slice_get (map metal_layer metals)) (sym same) ∙ lower_names.numbered) in
      upper_names.named ∙ ap (λ (m : MappedLayer). Some (string m.name)) same_metal ∙ sym lower_names.named

  pub two_ends : AreDifferent (map (λ metal. metal.name) metals) → (lower ≡ upper → ⊥) → upper_of_item item ≢ lower_of_item item
  two_ends differ not same = not (one_metal_named (map metal_layer metals) (upper_of_item item) lower upper (subst AreDifferent (sym (map-map (λ layer. layer.name) metal_layer metals)) differ)
      (rw (sym same) at lower_names) upper_names)

pub names_within : (metals : List Metal) (there : Option Data) (number : ℕ) → NamesMetal (map metal_layer metals) there number → number < length metals
names_within metals there number names = let within = slice_get_within (map metal_layer metals) number names.metal names.numbered in omega (arith, length-map metals metal_layer)

pub takes_cut : (metals : List Metal) (earlier : List Data) (item : Data) (old new : Seen) (layer : Layer) (cut : Cut) → TakesLayer earlier item old new layer
    → TakesEnds metals item (cut.lower, cut.upper) → cut.name ≡ layer.name → cut.pairs ≡ layer.pairs → TakesCut metals earlier item old new cut
takes_cut metals earlier item old new layer cut takes ends same_name same_pairs =
    let same : record { name = layer.name; pairs = layer.pairs } ≡ cut_layer cut = ap (λ (n : List ℕ). record { name = n; pairs = layer.pairs }) (sym same_name)
    ∙ ap (λ (ps : List (ℕ × ℕ)). record { name = cut.name; pairs = ps }) (sym same_pairs) in
    record {
      gives_it = record { layer = subst (λ (l : MappedLayer). GivesLayer item l) same takes.gives_it; lower = ends.lower; upper = ends.upper };
      names = takes.names ∙ ap (λ (n : List ℕ). old.names.items ++ n ∷ []) (sym same_name);
      pairs = takes.pairs ∙ ap (λ (ps : List (ℕ × ℕ)). old.pairs.items ++ ps) (sym same_pairs);
      are_seen = takes.are_seen;
    }

-- what is known of all of them, behind the metals
pub takes_cuts : (document : Members) (metals : List Metal) (cuts : List Cut) (behind seen : Seen) → TakesMetals document behind metals → length cuts ≤ MOST_CUTS
    → AllZip (GivesCut (map metal_layer metals)) (cuts_in document) (map mapped_cut cuts) → AreSeen (metals_in document ++ cuts_in document) seen → TakesCuts document metals cuts
takes_cuts document metals cuts behind seen takes few gives_them are_seen =
    let layers = AllZip-append GivesLayer (metals_in document) (cuts_in document) (map metal_layer metals) (map (λ c. c.mapped) (map mapped_cut cuts)) takes.gives_them
    (zip_becomes (GivesCut (map metal_layer metals)) GivesLayer (λ c. c.mapped) (λ d c gives. gives.layer) (cuts_in document) (map mapped_cut cuts) gives_them) in
    let differ = layers_differ (metals_in document ++ cuts_in document) (mapped_layers metals cuts) seen layers are_seen in
    record {
      few = few;
      gives_them = gives_them;
      names_differ = differ.0;
      pairs_differ = differ.1;
      joins = zip_each (GivesCut (map metal_layer metals)) mapped_cut (JoinsMetals (length metals))
          (λ d cut gives. record { lower = names_within metals _ cut.lower gives.lower; upper = names_within metals _ cut.upper gives.upper }) (cuts_in document) cuts gives_them;
    }
