-- layers of a map by their names
use Rattle.std.proofs.Common.{ℕ, ◌+◌, ◌-◌, ◌<◌, ◌≡◌, ◌≢◌, refl, sym, ap, subst, ◌∙◌, arith, inl, inr, List, length, map, get_or, slice_get, Bool, true, false, Some, None, cond, nat_lt}
use Rattle.std.proofs.lemmas.Bool.{ltb-false}
use Rattle.std.proofs.lemmas.List.Sums.{fails_before_first, passes_at_first}
use Rattle.std.proofs.lemmas.Option.{cond_some, get_or_from_slice_get, slice_get-map, slice_get_cases, slice_get_within}
use Rattle.lists.proofs.Containing.{slice_get-back, slice_get-front}
use Rattle.lists.proofs.Words.{bytes_eq, bytes_eq-Decides, length-map, ltb-true, position, position_or_len}
use Rattle.map_model.specs.MapNames.{MappedCut, MappedLayer, cut_layer, layer_map_of, layers_of, mapped_cut, metal_layer}
use Rattle.map_model.specs.declared.layers.Cut.{Cut}
use Rattle.map_model.specs.declared.layers.Metal.{Metal}
use Rattle.map_model.specs.declared.map.Map.{Map}
use Rattle.questions.specs.declared.kind.Kind.{Kind}
use Rattle.questions.specs.declared.kind.Kind.TheVariants.{Via}
use Rattle.run_inputs.specs.Inquiries.{IsLayerNamed, IsLayerOfName}

module _ {X : Type 0} (p : X → Bool) (xs : List X) where
  -- the item at the first place passes, and none before it does
  pub record IsFirstAt (k : ℕ) : Type 0 where
    pub item : X
    pub at : slice_get xs k ≡ Some item
    pub passes : p item ≡ true
    pub first : (j : ℕ) (other : X) → j < k → slice_get xs j ≡ Some other → p other ≡ true → ⊥

  fails_before : (j : ℕ) (other : X) → j < position_or_len p xs → slice_get xs j ≡ Some other → p other ≡ true → ⊥
  fails_before j other before at passes =
      let fails = fails_before_first p xs j other before in
      let is = get_or_from_slice_get xs j other other at in
      cc (ap p (sym is), fails, passes)

  pub first_at : (k : ℕ) → Some k ≡ position p xs → IsFirstAt k
  first_at k e =
      let found = cond_some (nat_lt (position_or_len p xs) (length xs)) (position_or_len p xs) k (sym e) in
      let within : position_or_len p xs < length xs = ltb-true _ _ found.0 in
      elim (slice_get_cases xs k).1 [
        | inl h ↦ record {
          item = h.0;
          at = h.2;
          passes = ap p (sym (get_or_from_slice_get xs k h.0 h.0 h.2)) ∙ subst (λ n. p (get_or xs n h.0) ≡ true) found.1 (passes_at_first p xs h.0 within);
          first = λ j other before at passes. fails_before j other (omega (arith, before, found.1)) at passes;
        }
        | inr h ↦ absurd (omega (arith, h.0, found.1, within))
      ]

  never : (b : Bool) (n : ℕ) → None ≡ cond b (Some n) None → b ≡ false
  never true n e = absurd (cc e)
  never false n e = refl

  pub none_at : None ≡ position p xs → (j : ℕ) (other : X) → slice_get xs j ≡ Some other → p other ≡ true → ⊥
  none_at e j other at passes =
      let past = ltb-false _ _ (never (nat_lt (position_or_len p xs) (length xs)) (position_or_len p xs) e) in
      let within = slice_get_within xs j other at in
      fails_before j other (omega (arith, past, within)) at passes

module _ (given : Map) (name : List ℕ) where
  abbrev cuts_as_layers : List MappedLayer
  cuts_as_layers = map (λ (cut : MappedCut). cut.mapped) (map mapped_cut given.cuts)

  abbrev is_metal : Metal → Bool
  is_metal metal = bytes_eq metal.name name

  abbrev is_cut : Cut → Bool
  is_cut cut = bytes_eq cut.name name

  abbrev all : List MappedLayer
  all = layers_of (layer_map_of given)

  -- a metal stands at its place, and a cut behind all metals
  metal_stands : (k : ℕ) (metal : Metal) → slice_get given.metals k ≡ Some metal → slice_get all k ≡ Some (metal_layer metal)
  metal_stands k metal at = slice_get-front (map metal_layer given.metals) cuts_as_layers k (metal_layer metal) (rw (slice_get-map metal_layer given.metals k, at) refl)

  cut_stands : (k : ℕ) (cut : Cut) → slice_get given.cuts k ≡ Some cut → slice_get all (length given.metals + k) ≡ Some (cut_layer cut)
  cut_stands k cut at =
      let here : slice_get cuts_as_layers k ≡ Some (cut_layer cut) =
      rw (slice_get-map (λ (one : MappedCut). one.mapped) (map mapped_cut given.cuts) k, slice_get-map mapped_cut given.cuts k, at) refl in
      subst (λ n. slice_get all (n + k) ≡ Some (cut_layer cut)) (length-map given.metals metal_layer) (slice_get-back (map metal_layer given.metals) cuts_as_layers k ∙ here)

  -- so a layer of the name is a metal of it
  metal_of_name : (kind : Kind) → kind ≢ Via → (number : ℕ) → IsLayerOfName (layer_map_of given) kind name number
      → (metal : Metal) × (slice_get given.metals number ≡ Some metal) × (is_metal metal ≡ true)
  metal_of_name kind other number is =
      let small = is.of_kind.of_metal other in
      let count = length-map given.metals metal_layer in
      elim (slice_get_cases given.metals number).1 [
        | inl h ↦
            let same : metal_layer h.0 ≡ is.mapped = cc (sym (metal_stands number h.0 h.2) ∙ is.listed) in
            (h.0, h.2, (bytes_eq-Decides h.0.name name).1 (ap (λ (l : MappedLayer). l.name) same ∙ is.named))
        | inr h ↦ absurd (omega (arith, h.0, small, count))
      ]

  -- or a cut
  cut_of_name : (number : ℕ) → IsLayerOfName (layer_map_of given) Via name number
      → (k : ℕ) × (number ≡ length given.metals + k) × (cut : Cut) × (slice_get given.cuts k ≡ Some cut) × (is_cut cut ≡ true)
  cut_of_name number is =
      let behind = is.of_kind.behind_metals refl in
      let small = is.of_kind.of_cut refl in
      let metals = length-map given.metals metal_layer in
      let cuts = length-map given.cuts mapped_cut in
      let k = number - length given.metals in
      let place : number ≡ length given.metals + k = omega (arith, behind, metals) in
      elim (slice_get_cases given.cuts k).1 [
        | inl h ↦
            let same : cut_layer h.0 ≡ is.mapped = cc (sym (cut_stands k h.0 h.2) ∙ ap (λ n. slice_get all n) (sym place) ∙ is.listed) in
            (k, place, h.0, h.2, (bytes_eq-Decides h.0.name name).1 (ap (λ (l : MappedLayer). l.name) same ∙ is.named))
        | inr h ↦ absurd (omega (arith, h.0, small, metals, cuts, place))
      ]

  pub metal_named : (kind : Kind) → kind ≢ Via → (k : ℕ) → Some k ≡ position is_metal given.metals → IsLayerNamed (layer_map_of given) kind name k
  metal_named kind other k e =
      let found = first_at is_metal given.metals k e in
      let within = slice_get_within given.metals k found.item found.at in
      let count = length-map given.metals metal_layer in
      record {
        has_name = record {
          of_kind = record { of_metal = λ no. omega (arith, within, count); behind_metals = λ via. absurd (other via); of_cut = λ via. absurd (other via) };
          mapped = metal_layer found.item;
          listed = metal_stands k found.item found.at;
          named = (bytes_eq-Decides found.item.name name).0 found.passes;
        };
        first = λ j before is. let (metal, at, passes) = metal_of_name kind other j is in found.first j metal before at passes;
      }

  pub no_metal_named : (kind : Kind) → kind ≢ Via → None ≡ position is_metal given.metals → (number : ℕ) → IsLayerNamed (layer_map_of given) kind name number → ⊥
  no_metal_named kind other e number is = let (metal, at, passes) = metal_of_name kind other number is.has_name in none_at is_metal given.metals e number metal at passes

  pub cut_named : (k : ℕ) → Some k ≡ position is_cut given.cuts → IsLayerNamed (layer_map_of given) Via name (length given.metals + k)
  cut_named k e =
      let found = first_at is_cut given.cuts k e in
      let within = slice_get_within given.cuts k found.item found.at in
      let metals = length-map given.metals metal_layer in
      let cuts = length-map given.cuts mapped_cut in
      record {
        has_name = record {
          of_kind = record { of_metal = λ no. absurd (no refl); behind_metals = λ via. omega (arith, metals); of_cut = λ via. omega (arith, within, metals, cuts) };
          mapped = cut_layer found.item;
          listed = cut_stands k found.item found.at;
          named = (bytes_eq-Decides found.item.name name).0 found.passes;
        };
        first = λ number before is.
            let (j, place, cut, at, passes) = cut_of_name number is in found.first j cut (omega (arith, before, place)) at passes;
      }

  pub no_cut_named : None ≡ position is_cut given.cuts → (number : ℕ) → IsLayerNamed (layer_map_of given) Via name number → ⊥
  no_cut_named e number is = let (j, place, cut, at, passes) = cut_of_name number is.has_name in none_at is_cut given.cuts e j cut at passes
