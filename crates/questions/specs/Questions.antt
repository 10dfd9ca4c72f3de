-- the questions that a layer map asks, and the rows that answer them
use Rattle.std.specs.Prelude.{ℕ, ◌≡◌, ◌≢◌, ◌+◌, ◌<◌, ◌≤◌, List, ◌++◌, length, map, flat_map}
use Rattle.lists.specs.Words.{enumerate_from}
use Rattle.geo_core.specs.Bounds.{IsSide}
use Rattle.map_model.specs.MapNames.{DefectSize, MappedLayer, LayerMap, side_by}
use Rattle.map_model.specs.declared.measure.Measure.{Measure}
use Rattle.questions.specs.declared.kind.Kind.{Kind}
use Rattle.questions.specs.declared.kind.Kind.TheVariants.{Short, Open, Via}
use Rattle.questions.specs.declared.question.Question.{Question}
use Rattle.questions.specs.declared.row.Row.{Row}

-- the side of the defects that the question names
abbrev pub side_of : Question → ℕ
side_of question = side_by question.measure question.size

-- this kind of fault, on the metal or at the cut with this number and name, by defects of this size
abbrev pub question_of : Kind → ℕ → List ℕ → Measure → DefectSize → Question
question_of kind number name measure size =
    record { kind = kind; number = number; layer = name; measure = measure; size = size.size; weight = size.weight }

-- the same for each size
abbrev pub of_sizes : Kind → ℕ → List ℕ → Measure → List DefectSize → List Question
of_sizes kind number name measure = map (question_of kind number name measure)

-- one kind of fault, for each of these metals or cuts in order, and there for each size
abbrev pub of_kind : Kind → List (ℕ × MappedLayer) → Measure → List DefectSize → List Question
of_kind kind layers measure sizes = flat_map (λ numbered. of_sizes kind numbered.0 numbered.1.name measure sizes) layers

-- the metals with their numbers
abbrev pub metal_layers : LayerMap → List (ℕ × MappedLayer)
metal_layers layer_map = enumerate_from 0 layer_map.metals

-- the cuts with their numbers, which go on behind those of the metals
abbrev pub cut_layers : LayerMap → List (ℕ × MappedLayer)
cut_layers layer_map = enumerate_from (length layer_map.metals) (map (λ cut. cut.mapped) layer_map.cuts)

-- the questions in order: shorts of each metal, opens of each metal, blocks of each cut
abbrev pub questions : LayerMap → List Question
questions layer_map =
    of_kind Short (metal_layers layer_map) layer_map.measure layer_map.sizes
    ++ of_kind Open (metal_layers layer_map) layer_map.measure layer_map.sizes
    ++ of_kind Via (cut_layers layer_map) layer_map.measure layer_map.sizes

-- what holds of each question of a map of so many metals and cuts: it is of one of the metals, or of one of the cuts where
-- it asks for via blocks, and for defects of a side of 1 to 2,000,000, with a weight of at most 1,000,000,000
pub record IsAskable (metals cuts : ℕ) (question : Question) : Type 0 where
  pub of_metal : question.kind ≢ Via → question.number < metals
  pub behind_metals : question.kind ≡ Via → metals ≤ question.number
  pub of_cut : question.kind ≡ Via → question.number < metals + cuts
  pub is_side : IsSide (side_of question)
  pub light : question.weight ≤ 1000000000

-- the row is of the fault, the layer, the size and the weight that the question names
pub record IsRowFor (question : Question) (row : Row) : Type 0 where
  pub kind : row.kind ≡ question.kind
  pub layer : row.layer ≡ question.layer
  pub measure : row.measure ≡ question.measure
  pub size : row.size ≡ question.size
  pub weight : row.weight ≡ question.weight
