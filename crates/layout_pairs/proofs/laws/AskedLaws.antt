-- what a layer map asks about shorts, and how far a size that it lists reaches
use Rattle.std.proofs.Common.{ℕ, ◌/◌, ◌≤◌, ◌≡◌, ap, ◌∙◌, inl, inr, arith, List, [], ◌∷◌, ◌++◌, Contains, map, fold, max}
use Rattle.lists.proofs.Containing.{Contains-cons_cases, Contains-none}
use Rattle.lists.proofs.Mapping.{Contains-flat_map, Contains-flat_map_from, Contains-map, Contains-map_from}
use Rattle.lists.proofs.Words.{Contains-append_cases, Contains-append_left}
use Rattle.map_model.specs.MapNames.{DefectSize, LayerMap, MappedLayer, reach_of, side_by}
use Rattle.map_model.specs.declared.measure.Measure.{Measure}
use Rattle.questions.specs.Questions.{cut_layers, metal_layers, of_kind, of_sizes, question_of, questions}
use Rattle.questions.specs.declared.kind.Kind.{Kind}
use Rattle.questions.specs.declared.kind.Kind.TheVariants.{Short, Open, Via}
use Rattle.questions.specs.declared.question.Question.{Question}

module _ (measure : Measure) (sizes : List DefectSize) (kind : Kind) (layers : List (ℕ × MappedLayer)) where
  -- the question is of this kind, for one of the layers and one of the sizes
  pub record IsAskedOf (question : Question) : Type 0 where
    pub layer : ℕ × MappedLayer
    pub size : DefectSize
    pub of_layer : Contains layers layer
    pub of_size : Contains sizes size
    pub is : question_of kind layer.0 layer.1.name measure size ≡ question

  abbrev asked_of_layer : ℕ × MappedLayer → List Question
  asked_of_layer layer = of_sizes kind layer.0 layer.1.name measure sizes

  asked_of : (question : Question) → Contains (of_kind kind layers measure sizes) question → IsAskedOf question
  asked_of question listed =
      let found = Contains-flat_map_from asked_of_layer layers question listed in
      let layer = found.0 in
      let size = Contains-map_from (question_of kind layer.0 layer.1.name measure) sizes question found.2 in
      record { layer = layer; size = size.0; of_layer = found.1; of_size = size.1; is = size.2 }

  is_asked : (layer : ℕ × MappedLayer) (size : DefectSize) → Contains layers layer → Contains sizes size
      → Contains (of_kind kind layers measure sizes) (question_of kind layer.0 layer.1.name measure size)
  is_asked layer size of_layer of_size =
      let ask = question_of kind layer.0 layer.1.name measure in
      Contains-flat_map asked_of_layer layers layer (ask size) of_layer (Contains-map ask sizes size of_size)

module _ (layer_map : LayerMap) where
  abbrev measure : Measure
  measure = layer_map.measure

  abbrev sizes : List DefectSize
  sizes = layer_map.sizes

  abbrev asked : Kind → List Question
  asked kind = of_kind kind (metal_layers layer_map) measure sizes

  abbrev vias : List Question
  vias = of_kind Via (cut_layers layer_map) measure sizes

  -- a question about shorts is one for a metal and a size
  pub short_asked : (question : Question) → Contains (questions layer_map) question → question.kind ≡ Short
      → IsAskedOf measure sizes Short (metal_layers layer_map) question
  short_asked question listed is_short = elim (Contains-append_cases (asked Short ++ asked Open) vias question listed) [
    | inl of_metals ↦ elim (Contains-append_cases (asked Short) (asked Open) question of_metals) [
      | inl short ↦ asked_of measure sizes Short (metal_layers layer_map) question short
      | inr open_kind ↦
          let found = asked_of measure sizes Open (metal_layers layer_map) question open_kind in
          let e : Open ≡ Short = ap (λ (q : Question). q.kind) found.is ∙ is_short in
          let none : ⊥ = cc in absurd none
    ]
    | inr via ↦
        let found = asked_of measure sizes Via (cut_layers layer_map) question via in
        let e : Via ≡ Short = ap (λ (q : Question). q.kind) found.is ∙ is_short in
        let none : ⊥ = cc in absurd none
  ]

  -- each metal and each size has one
  pub shorts_are_asked : (metal : ℕ × MappedLayer) (size : DefectSize) → Contains (metal_layers layer_map) metal → Contains sizes size
      → Contains (questions layer_map) (question_of Short metal.0 metal.1.name measure size)
  shorts_are_asked metal size of_metal of_size =
      let ask = question_of Short metal.0 metal.1.name measure size in
      Contains-append_left (asked Short ++ asked Open) vias ask
      (Contains-append_left (asked Short) (asked Open) ask (is_asked measure sizes Short (metal_layers layer_map) metal size of_metal of_size))

module _ {X : Type 0} (f : X → ℕ) where
  first_is_most : (a : ℕ) (xs : List X) → a ≤ fold max a (map f xs)
  first_is_most a [] = omega arith
  first_is_most a (x ∷ xs) = let rest = first_is_most (max a (f x)) xs in omega arith

  each_is_most : (a : ℕ) (xs : List X) (x : X) → Contains xs x → f x ≤ fold max a (map f xs)
  each_is_most a [] x listed = absurd (Contains-none listed)
  each_is_most a (y ∷ xs) x listed = elim (Contains-cons_cases y xs x listed) [
    | inl e ↦ let same : f y ≡ f x = ap f e in let most = first_is_most (max a (f y)) xs in omega arith
    | inr behind ↦ each_is_most (max a (f y)) xs x behind
  ]

-- a listed size reaches no further than the greatest
pub reach_of_listed : (layer_map : LayerMap) (size : DefectSize) → Contains layer_map.sizes size → side_by layer_map.measure size.size / 2 ≤ reach_of layer_map
reach_of_listed layer_map size listed = each_is_most (λ (one : DefectSize). side_by layer_map.measure one.size / 2) 0 layer_map.sizes size listed
