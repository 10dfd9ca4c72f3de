-- what holds of each question of a map, and how many there are
use Rattle.std.proofs.Common.{ℕ, ◌+◌, ◌*◌, ◌<◌, ◌≤◌, ◌≡◌, ◌∙◌, List, [], ◌∷◌, ◌++◌, length, map, ap, arith, refl, length-append, All, ◌≢◌}
use Rattle.lists.proofs.Words.{enumerate_from, length-map, All-append, All-cons, All-head, All-map, All-nil, All-tail, All-weaker, length-enumerate_from}
use Rattle.geo_core.specs.Bounds.{IsSide}
use Rattle.map_model.specs.MapNames.{DefectSize, IsSize, LayerMap, MappedCut, MappedLayer, sizes_of, side_by}
use Rattle.map_model.specs.declared.measure.Measure.{Measure}
use Rattle.map_model.proofs.laws.MeasureLaws.{size_is_side}
use Rattle.map_model.specs.declared.limits.TheConstants.{GREATEST_WEIGHT, MOST_CUTS, MOST_METALS, MOST_SIZES}
use Rattle.questions.specs.Questions.{IsAskable, cut_layers, metal_layers, of_kind, of_sizes, question_of, questions}
use Rattle.questions.specs.declared.kind.Kind.{Kind}
use Rattle.questions.specs.declared.kind.Kind.TheVariants.{Short, Open, Via}
use Rattle.questions.specs.declared.question.Question.{Question}
use Rattle.questions.specs.declared.row.TheConstants.{MOST_ROWS}

-- the size may stand in a question
pub record IsAskableSize (measure : Measure) (size : DefectSize) : Type 0 where
  pub is_side : IsSide (side_by measure size.size)
  pub light : size.weight ≤ GREATEST_WEIGHT

abbrev IsLight : ℕ → Type 0
IsLight weight = weight ≤ GREATEST_WEIGHT

module _ (measure : Measure) where
  pub askable_sizes : (numbers weights : List ℕ) → All (IsSize measure) numbers → All IsLight weights → All (IsAskableSize measure) (sizes_of numbers weights)
  askable_sizes [] weights each light = All-nil (IsAskableSize measure)
  askable_sizes (n ∷ numbers) [] each light = All-nil (IsAskableSize measure)
  askable_sizes (n ∷ numbers) (w ∷ weights) each light =
      All-cons (IsAskableSize measure) _ _ (record { is_side = size_is_side measure n (All-head (IsSize measure) n numbers each); light = All-head IsLight w weights light })
      (askable_sizes numbers weights (All-tail (IsSize measure) n numbers each) (All-tail IsLight w weights light))

-- three kinds
short_is_no_block : Short ≡ Via → ⊥
short_is_no_block e = cc

open_is_no_block : Open ≡ Via → ⊥
open_is_no_block e = cc

module _ (metals cuts : ℕ) (measure : Measure) (sizes : List DefectSize) (each : All (IsAskableSize measure) sizes) (kind : Kind) where
  record IsNumber (number : ℕ) : Type 0 where
    of_metal : kind ≢ Via → number < metals
    behind_metals : kind ≡ Via → metals ≤ number
    of_cut : kind ≡ Via → number < metals + cuts

  abbrev Askable : Question → Type 0
  Askable = IsAskable metals cuts

  askable_each : (number : ℕ) (name : List ℕ) → IsNumber number → All Askable (of_sizes kind number name measure sizes)
  askable_each number name is = All-map Askable (question_of kind number name measure) sizes
      (All-weaker (IsAskableSize measure) (λ size. Askable (question_of kind number name measure size))
      (λ size s. record { of_metal = is.of_metal; behind_metals = is.behind_metals; of_cut = is.of_cut; is_side = s.is_side; light = s.light }) sizes each)

  askable_kind : (first : ℕ) (layers : List MappedLayer) → ((number : ℕ) → first ≤ number → number < first + length layers → IsNumber number)
      → All Askable (of_kind kind (enumerate_from first layers) measure sizes)
  askable_kind first [] are = All-nil Askable
  askable_kind first (layer ∷ layers) are =
      All-append Askable (of_sizes kind first layer.name measure sizes) (of_kind kind (enumerate_from (first + 1) layers) measure sizes)
      (askable_each first layer.name (are first (omega arith) (omega arith)))
      (askable_kind (first + 1) layers (λ number low high. are number (omega arith) (omega arith)))

pub askable : (layer_map : LayerMap) → All (IsAskableSize layer_map.measure) layer_map.sizes → All (IsAskable (length layer_map.metals) (length layer_map.cuts)) (questions layer_map)
askable layer_map each =
    let metals = length layer_map.metals in
    let cuts = length layer_map.cuts in
    let measure = layer_map.measure in
    let sizes = layer_map.sizes in
    let mapped : List MappedLayer = map (λ (cut : MappedCut). cut.mapped) layer_map.cuts in
    let shorts = of_kind Short (metal_layers layer_map) measure sizes in
    let opens = of_kind Open (metal_layers layer_map) measure sizes in
    let as_many : length mapped ≡ cuts = length-map layer_map.cuts (λ (cut : MappedCut). cut.mapped) in
    All-append (IsAskable metals cuts) _ (of_kind Via (cut_layers layer_map) measure sizes)
    (All-append (IsAskable metals cuts) shorts opens
    (askable_kind metals cuts measure sizes each Short 0 layer_map.metals
    (λ number low high. record { of_metal = λ no. omega arith; behind_metals = λ e. absurd (short_is_no_block e); of_cut = λ e. absurd (short_is_no_block e) }))
    (askable_kind metals cuts measure sizes each Open 0 layer_map.metals
    (λ number low high. record { of_metal = λ no. omega arith; behind_metals = λ e. absurd (open_is_no_block e); of_cut = λ e. absurd (open_is_no_block e) })))
    (askable_kind metals cuts measure sizes each Via metals mapped
    (λ number low high. record { of_metal = λ no. absurd (no refl); behind_metals = λ e. low; of_cut = λ e. omega arith }))

-- the questions, where those of each kind were added in order
pub asked_in_order : (layer_map : LayerMap) (none shorts opens all : List Question) → none ≡ [] → shorts ≡ none ++ of_kind Short (metal_layers layer_map) layer_map.measure layer_map.sizes
    → opens ≡ shorts ++ of_kind Open (metal_layers layer_map) layer_map.measure layer_map.sizes → all ≡ opens ++ of_kind Via (cut_layers layer_map) layer_map.measure layer_map.sizes → all ≡ questions layer_map
asked_in_order layer_map none shorts opens all first second third fourth =
    let more_shorts = λ (qs : List Question). qs ++ of_kind Short (metal_layers layer_map) layer_map.measure layer_map.sizes in
    let more_opens = λ (qs : List Question). qs ++ of_kind Open (metal_layers layer_map) layer_map.measure layer_map.sizes in
    let more_vias = λ (qs : List Question). qs ++ of_kind Via (cut_layers layer_map) layer_map.measure layer_map.sizes in
    fourth ∙ ap more_vias (third ∙ ap more_opens (second ∙ ap more_shorts first))

-- how many questions there are
count_of_kind : (kind : Kind) (measure : Measure) (sizes : List DefectSize) (layers : List (ℕ × MappedLayer)) → length sizes ≤ MOST_SIZES
    → length (of_kind kind layers measure sizes) ≤ MOST_SIZES * length layers
count_of_kind kind measure sizes [] few = omega arith
count_of_kind kind measure sizes (layer ∷ layers) few =
    let rest = count_of_kind kind measure sizes layers few in
    omega (arith, length-append (of_sizes kind layer.0 layer.1.name measure sizes) (of_kind kind layers measure sizes), length-map sizes (question_of kind layer.0 layer.1.name measure))

pub few_questions : (layer_map : LayerMap) → length layer_map.metals ≤ MOST_METALS → length layer_map.cuts ≤ MOST_CUTS → length layer_map.sizes ≤ MOST_SIZES → length (questions layer_map) ≤ MOST_ROWS
few_questions layer_map few_metals few_cuts few =
    let measure = layer_map.measure in
    let sizes = layer_map.sizes in
    let mapped : List MappedLayer = map (λ (cut : MappedCut). cut.mapped) layer_map.cuts in
    let shorts = of_kind Short (metal_layers layer_map) measure sizes in
    let opens = of_kind Open (metal_layers layer_map) measure sizes in
    let short_count = count_of_kind Short measure sizes (metal_layers layer_map) few in
    let open_count = count_of_kind Open measure sizes (metal_layers layer_map) few in
    let via_count = count_of_kind Via measure sizes (cut_layers layer_map) few in
    omega (
      arith,
      length-append (shorts ++ opens) (of_kind Via (cut_layers layer_map) measure sizes),
      length-append shorts opens,
      length-enumerate_from 0 layer_map.metals,
      length-enumerate_from (length layer_map.metals) mapped,
      length-map layer_map.cuts (λ (cut : MappedCut). cut.mapped),
    )
