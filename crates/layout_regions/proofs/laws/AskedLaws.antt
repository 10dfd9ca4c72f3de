-- the questions of a layer map: by which layer and measure each goes, and that no two layers have one name
use Rattle.std.proofs.Common.{ℕ, suc, ◌+◌, ◌<◌, ◌≡◌, refl, sym, ap, subst, ◌∙◌, inl, inr, arith, List, [], ◌∷◌, ◌++◌, length, map, get_or, Contains, Some, slice_get}
use Rattle.lists.specs.Differing.{AreDifferent}
use Rattle.lists.proofs.Containing.{Contains-cons_cases, Contains-none, slice_get-back, slice_get-front}
use Rattle.lists.proofs.Mapping.{Contains-flat_map_from, Contains-map_from}
use Rattle.lists.proofs.Words.{Contains-append_cases, cases_lt, enumerate_from, get_or-map, get_or_from_slice_get, length-map, slice_get_within}
use Rattle.map_model.specs.MapNames.{LayerMap, MappedCut, MappedLayer, layers_of, names_of}
use Rattle.questions.specs.Questions.{cut_layers, metal_layers, of_kind, of_sizes, question_of, questions}
use Rattle.questions.specs.declared.kind.Kind.{Kind}
use Rattle.questions.specs.declared.kind.Kind.TheVariants.{Short, Open, Via}
use Rattle.questions.specs.declared.question.Question.{Question}

-- an item with its number stands at its place
numbered_at : {X : Type 0} (k : ℕ) (xs : List X) (one : ℕ × X) → Contains (enumerate_from k xs) one → (n : ℕ) × (k + n ≡ one.0) × (slice_get xs n ≡ Some one.1)
numbered_at k [] one h = absurd (Contains-none h)
numbered_at k (x ∷ xs) one h = elim (Contains-cons_cases (k, x) (enumerate_from (k + 1) xs) one h) [
  | inl e ↦ let same : k ≡ one.0 = ap (λ o. o.0) e in (0, omega arith, ap (λ o. Some o.1) e)
  | inr behind ↦ let rest = numbered_at (k + 1) xs one behind in let e = rest.1 in (suc rest.0, omega arith, rest.2)
]

module _ {X Y : Type 0} (f : X → Y) (xs : List X) (different : AreDifferent (map f xs)) where
  never_before : (i j : ℕ) (x y : X) → slice_get xs i ≡ Some x → slice_get xs j ≡ Some y → f x ≡ f y → i < j → ⊥
  never_before i j x y at_i at_j same before =
      let first = slice_get_within xs i x at_i in
      let small = slice_get_within xs j y at_j in
      let one : get_or (map f xs) i (f x) ≡ f x = get_or-map f xs i x (f x) first ∙ ap f (get_or_from_slice_get xs i x x at_i) in
      let other : get_or (map f xs) j (f x) ≡ f y = get_or-map f xs j x (f x) small ∙ ap f (get_or_from_slice_get xs j y x at_j) in
      different i j (f x) before (omega (arith, length-map xs f)) (one ∙ same ∙ sym other)

  -- of items of which each is told by what `f` makes of it, one stands at one place
  one_place : (i j : ℕ) (x y : X) → slice_get xs i ≡ Some x → slice_get xs j ≡ Some y → f x ≡ f y → i ≡ j
  one_place i j x y at_i at_j same = elim (cases_lt i j) [
    | inl before ↦ absurd (never_before i j x y at_i at_j same before)
    | inr behind ↦ elim (cases_lt j i) [ inl before ↦ absurd (never_before j i y x at_j at_i (sym same) before) | inr least ↦ omega arith ]
  ]

module _ (layer_map : LayerMap) where
  -- the layers that questions of this kind are about
  abbrev layers_for : Kind → List (ℕ × MappedLayer)
  layers_for Short = metal_layers layer_map
  layers_for Open = metal_layers layer_map
  layers_for Via = cut_layers layer_map

  -- the question is about one of the layers of its kind
  pub record IsAskedOf (question : Question) : Type 0 where
    pub layer : ℕ × MappedLayer
    pub of_layer : Contains (layers_for question.kind) layer
    pub number : layer.0 ≡ question.number
    pub name : layer.1.name ≡ question.layer
    pub measure : question.measure ≡ layer_map.measure

  asked_of_kind : (kind : Kind) (question : Question) → Contains (of_kind kind (layers_for kind) layer_map.measure layer_map.sizes) question → IsAskedOf question
  asked_of_kind kind question listed =
      let found = Contains-flat_map_from (λ (layer : ℕ × MappedLayer). of_sizes kind layer.0 layer.1.name layer_map.measure layer_map.sizes) (layers_for kind) question listed in
      let layer = found.0 in
      let size = Contains-map_from (question_of kind layer.0 layer.1.name layer_map.measure) layer_map.sizes question found.2 in
      subst IsAskedOf size.2 (record { layer = layer; of_layer = found.1; number = refl; name = refl; measure = refl })

  pub asked : (question : Question) → Contains (questions layer_map) question → IsAskedOf question
  asked question listed =
      let asked_by : Kind → List Question = λ kind. of_kind kind (layers_for kind) layer_map.measure layer_map.sizes in
      elim (Contains-append_cases (asked_by Short ++ asked_by Open) (asked_by Via) question listed) [
        | inl of_metals ↦ elim (Contains-append_cases (asked_by Short) (asked_by Open) question of_metals) [
          | inl short ↦ asked_of_kind Short question short
          | inr other ↦ asked_of_kind Open question other
        ]
        | inr via ↦ asked_of_kind Via question via
      ]

  metal_at : (layer : ℕ × MappedLayer) → Contains (metal_layers layer_map) layer → slice_get (layers_of layer_map) layer.0 ≡ Some layer.1
  metal_at layer listed =
      let cuts = map (λ (cut : MappedCut). cut.mapped) layer_map.cuts in
      let (n, e, at) = numbered_at 0 layer_map.metals layer listed in
      let here : n ≡ layer.0 = omega arith in
      subst (λ i. slice_get (layers_of layer_map) i ≡ Some layer.1) here (slice_get-front layer_map.metals cuts n layer.1 at)

  cut_at : (layer : ℕ × MappedLayer) → Contains (cut_layers layer_map) layer → slice_get (layers_of layer_map) layer.0 ≡ Some layer.1
  cut_at layer listed =
      let cuts = map (λ (cut : MappedCut). cut.mapped) layer_map.cuts in
      let (n, e, at) = numbered_at (length layer_map.metals) cuts layer listed in
      subst (λ i. slice_get (layers_of layer_map) i ≡ Some layer.1) e (slice_get-back layer_map.metals cuts n ∙ at)

  layer_at : (kind : Kind) (layer : ℕ × MappedLayer) → Contains (layers_for kind) layer → slice_get (layers_of layer_map) layer.0 ≡ Some layer.1
  layer_at Short layer listed = metal_at layer listed
  layer_at Open layer listed = metal_at layer listed
  layer_at Via layer listed = cut_at layer listed

  -- where the names of layers differ, questions that name one layer have its number
  pub same_number : AreDifferent (names_of (layers_of layer_map)) → (one other : Question) → Contains (questions layer_map) one → Contains (questions layer_map) other
      → one.layer ≡ other.layer → one.number ≡ other.number
  same_number different one other one_listed other_listed e =
      let a = asked one one_listed in
      let b = asked other other_listed in
      let same = one_place (λ (layer : MappedLayer). layer.name) (layers_of layer_map) different a.layer.0 b.layer.0 a.layer.1 b.layer.1
      (layer_at one.kind a.layer a.of_layer) (layer_at other.kind b.layer b.of_layer) (a.name ∙ e ∙ sym b.name) in
      sym a.number ∙ same ∙ b.number
