-- the map that a document gives, and what bytes come to
use Rattle.std.proofs.Common.{Global, BTreeMap, String, ◌≡◌, ℕ, Bool, List, [], ◌∷◌, length, map, Result, Ok, Err, refl, sym, ap, ◌∙◌}
use Rattle.layer_map.specs.inside.ReadValues.{IsThere}
use Rattle.lists.proofs.Words.{length-map}
use Rattle.toml.specs.Data.{Members}
use Rattle.layer_map.specs.Documents.{GivesMap, IsDocument, MapComesTo, value_as}
use Rattle.map_model.specs.MapNames.{mapped_cut, metal_layer, layer_map_of, sizes_of, terminal_of, AreSizes, AreWeights}
use Rattle.map_model.specs.declared.measure.Measure.{Measure}
use Rattle.first_refusal.specs.Outcomes.{Reads, stops as ends, goes_on as goes_further}
use Rattle.first_refusal.specs.Checks.{all_hold, one_fails}
use Rattle.layer_map.specs.MapChecks.{Holds, checks_of, fault_of, has_sizes, sizes_are_array, sizes_are_few}
use Rattle.first_refusal.specs.Answers.{Answers, gives, refuses, no_memory}
use Rattle.toml.specs.View.{table_view}
use Rattle.toml.specs.declared.value.Value.{Value}
use Rattle.layer_map.specs.inside.ReadMetals.{TakesMetals}
use Rattle.layer_map.specs.inside.ReadCuts.{TakesCuts}
use Rattle.layer_map.specs.inside.ReadTerminals.{TakesTerminals}
use Rattle.layer_map.specs.Values.{contacts_in, truth_in, values_in, weights_in, whole_number, whole_numbers}
use Rattle.layer_map.specs.DocumentSizes.{measure_of, sizes_in}
use Rattle.layer_map.specs.declared.fault.MapFault.{MapFault}
use Rattle.layer_map.specs.declared.fault.MapFault.TheVariants.{Memory, Syntax}
use Rattle.map_model.specs.declared.layers.Cut.{Cut}
use Rattle.map_model.specs.declared.layers.Metal.{Metal}
use Rattle.map_model.specs.declared.layers.Terminal.{Terminal}
use Rattle.map_model.specs.declared.map.Map.{Map}
use Rattle.layer_map.specs.declared.seen.Seen.{Seen}
use Rattle.first_refusal.proofs.JudgeLaws.{Judges, given}
use Rattle.layer_map.proofs.ValueLaws.{listed-items_of}
use Rattle.layer_map.proofs.SeenLaws.{layer_names_differ}

-- how many sizes there are
pub sizes_count : (document : Members) {sizes : List ℕ} → Judges Memory (Holds document) (sizes_are_array ∷ sizes_are_few ∷ has_sizes ∷ []) fault_of
    (IsThere whole_numbers (AreSizes (measure_of document)) (sizes_in document)) (Ok sizes) → length sizes ≡ length (values_in (sizes_in document))
sizes_count document {sizes} told = sym (ap length (ap values_in (given told).written ∙ listed-items_of (map whole_number sizes)) ∙ length-map sizes whole_number)

-- the map of what was read
pub gives_map : (document : Members) {seen : Seen} {measure : Measure} {numbers weights : List ℕ} {metals : List Metal} {cuts : List Cut} {terminals : List Terminal} {contacts : Bool}
    → measure ≡ measure_of document
    → IsThere whole_numbers (AreSizes (measure_of document)) (sizes_in document) numbers → IsThere whole_numbers (AreWeights (length numbers)) (weights_in document) weights
    → TakesMetals document seen metals → TakesCuts document metals cuts → TakesTerminals document metals terminals → contacts ≡ truth_in (contacts_in document)
    → GivesMap document (record {
      metals = map metal_layer metals;
      cuts = map mapped_cut cuts;
      measure = measure;
      sizes = sizes_of numbers weights;
      terminals = map terminal_of terminals;
      contacts = contacts;
    })
gives_map document {seen} {measure} {numbers} {weights} {metals} measured sizes_there weights_there takes_metals takes_cuts takes_terminals told = record {
  numbers = numbers;
  weights = weights;
  has_sizes = sizes_there.written;
  has_weights = weights_there.written;
  measure = measured;
  sizes = refl;
  metals = takes_metals.gives_them;
  names_differ = layer_names_differ document seen metals takes_metals;
  cuts = takes_cuts.gives_them;
  terminals = takes_terminals.gives_them;
  contacts = told;
}

-- a document that lies in memory
abbrev Table : Type 0
Table = BTreeMap (String Global) Value

-- the answers to what document bytes are and to what they come to
abbrev AnswersDocument : List ℕ → Result Table MapFault → Type 0
AnswersDocument bytes = Answers Memory (λ outcome. Reads (IsDocument bytes) Syntax (value_as table_view outcome))

abbrev AnswersMap : List ℕ → Result Map MapFault → Type 0
AnswersMap bytes = Answers Memory (λ outcome. MapComesTo bytes (value_as layer_map_of outcome))

module _ (bytes : List ℕ) where
  pub no_document : (fault : MapFault) → AnswersDocument bytes (Err fault) → AnswersMap bytes (Err fault)
  no_document fault (refuses h) = refuses (ends h)
  no_document _ no_memory = no_memory

  pub map_answered : (table : Table) (result : Result Map MapFault) → AnswersDocument bytes (Ok table)
      → Judges Memory (Holds (table_view table)) (checks_of (table_view table)) fault_of (λ made. GivesMap (table_view table) (layer_map_of made)) result → AnswersMap bytes result
  map_answered table (Ok made) (gives is) (gives (all_hold all them)) = gives (goes_further is (all_hold all them))
  map_answered table (Err fault) (gives is) (refuses (one_fails f)) = refuses (goes_further is (one_fails f))
  map_answered table (Err _) (gives is) no_memory = no_memory
