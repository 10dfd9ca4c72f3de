-- All that is checked of a map's document, one check after the other, and the fault of each.
use Rattle.std.specs.Prelude.{ℕ, ◌≤◌, List, [], ◌∷◌, ◌++◌, codes, length, map, flat_map, take, slice_get, Option, IsSome}
use Rattle.std.specs.Prelude.{IsSomeAnd, IfSome, All, Contains}
use Rattle.lists.specs.Words.{range_with_len}
use Rattle.toml.specs.Data.{Data, Members, as_array, as_bool}
use Rattle.map_model.specs.MapNames.{AreSizes, AreWeights}
use Rattle.map_model.specs.declared.measure.Measure.{Measure}
use Rattle.map_model.specs.declared.measure.Measure.TheVariants.{Radius, Side}
use Rattle.layer_map.specs.Values.{whole_number, whole_numbers, StandsAs, keys_in, values_in, version_in, weights_in, cut_in}
use Rattle.layer_map.specs.Values.{terminal_in, contacts_in, metals_in, cuts_in, terminals_in}
use Rattle.layer_map.specs.DocumentSizes.{measure_of, sizes_in, sizes_key}
use Rattle.layer_map.specs.DocumentPaths.{document_path, version_path, sizes_path, weights_path, metals_path, cuts_path, terminals_path}
use Rattle.layer_map.specs.DocumentPaths.{contacts_path, metal_path, cut_path, terminal_path}
use Rattle.layer_map.specs.LayerChecks.{LayerCheck, layer_checks, LayerHolds, layer_fault, metal_keys}
use Rattle.layer_map.specs.CutChecks.{CutCheck, cut_checks, CutHolds, cut_fault}
use Rattle.layer_map.specs.TerminalChecks.{TerminalCheck, terminal_checks, TerminalHolds, terminal_fault}
use Rattle.layer_map.specs.declared.fault.MapFault.{MapFault}
use Rattle.layer_map.specs.declared.fault.MapFault.TheVariants.{BadKey, BadValue, LimitPassed}

-- what is checked: of the document and its keys, and of the item with each number among its metals, cuts and terminals
pub data MapCheck : Type 0 where
  has_known_keys : MapCheck
  has_version : MapCheck
  sizes_are_array : MapCheck
  sizes_are_few : MapCheck
  has_sizes : MapCheck
  has_weights : MapCheck
  has_metals : MapCheck
  metals_are_few : MapCheck
  of_metal : ℕ → LayerCheck → MapCheck
  cuts_are_array : MapCheck
  cuts_are_few : MapCheck
  of_cut : ℕ → CutCheck → MapCheck
  terminals_are_array : MapCheck
  terminals_are_few : MapCheck
  of_terminal : ℕ → TerminalCheck → MapCheck
  contacts_are_truth : MapCheck

-- the keys that a document has besides for its measure: beside sides it may say whether via clusters are terminals
abbrev pub further_keys : Measure → List (List ℕ)
further_keys Radius = []
further_keys Side = codes "contacts" ∷ []

-- the keys of a document whose sizes are measured so
abbrev pub map_keys : Measure → List (List ℕ)
map_keys measure =
    codes "version" ∷ sizes_key measure ∷ codes "weights" ∷ codes "metal" ∷ codes "cut" ∷ codes "terminal" ∷ further_keys measure

-- the number is that of a version: 1 or 2
abbrev pub IsVersion : ℕ → Type 0
IsVersion number = (1 ≤ number) × (number ≤ 2)

-- an array stands there
abbrev pub IsArray : Option Data → Type 0
IsArray there = IsSomeAnd there (λ value. IsSome (as_array value))

-- an array stands there, or nothing
abbrev pub IsArrayOrNone : Option Data → Type 0
IsArrayOrNone there = IfSome there (λ value. IsSome (as_array value))

-- a truth value stands there, or nothing
abbrev pub IsTruthOrNone : Option Data → Type 0
IsTruthOrNone there = IfSome there (λ value. IsSome (as_bool value))

-- What each demands of the document. To a cut every metal is an earlier layer.
abbrev pub Holds : Members → MapCheck → Type 0
Holds document has_known_keys = All (Contains (map_keys (measure_of document))) (keys_in document)
Holds document has_version = StandsAs whole_number IsVersion (version_in document)
Holds document sizes_are_array = IsArray (sizes_in document)
Holds document sizes_are_few = length (values_in (sizes_in document)) ≤ 32
Holds document has_sizes = StandsAs whole_numbers (AreSizes (measure_of document)) (sizes_in document)
Holds document has_weights = StandsAs whole_numbers (AreWeights (length (values_in (sizes_in document)))) (weights_in document)
Holds document has_metals = 1 ≤ length (metals_in document)
Holds document metals_are_few = length (metals_in document) ≤ 16
Holds document (of_metal number check) =
    IsSomeAnd (slice_get (metals_in document) number) (λ item. LayerHolds metal_keys (take number (metals_in document)) item check)
Holds document cuts_are_array = IsArrayOrNone (cut_in document)
Holds document cuts_are_few = length (cuts_in document) ≤ 16
Holds document (of_cut number check) =
    IsSomeAnd (slice_get (cuts_in document) number) (λ item. CutHolds (metals_in document)
    (metals_in document ++ take number (cuts_in document)) item check)
Holds document terminals_are_array = IsArrayOrNone (terminal_in document)
Holds document terminals_are_few = length (terminals_in document) ≤ 10000
Holds document (of_terminal number check) =
    IsSomeAnd (slice_get (terminals_in document) number) (λ item. TerminalHolds (metals_in document) (take number (terminals_in document))
    item check)
Holds document contacts_are_truth = IsTruthOrNone (contacts_in document)

-- these checks of each of the items, one item after the other
abbrev pub checks_of_each : {C : Type 0} → (ℕ → C → MapCheck) → List C → List Data → List MapCheck
checks_of_each of_item checks items = flat_map (λ number. map (of_item number) checks) (range_with_len 0 (length items))

-- the checks of the keys, the version, the sizes and the weights
abbrev pub first_checks : List MapCheck
first_checks = has_known_keys ∷ has_version ∷ sizes_are_array ∷ sizes_are_few ∷ has_sizes ∷ has_weights ∷ []

-- the checks of the metals: of them all, and then of each
abbrev pub checks_of_metals : Members → List MapCheck
checks_of_metals document = has_metals ∷ metals_are_few ∷ checks_of_each of_metal layer_checks (metals_in document)

-- the checks of the cuts
abbrev pub checks_of_cuts : Members → List MapCheck
checks_of_cuts document = cuts_are_array ∷ cuts_are_few ∷ checks_of_each of_cut cut_checks (cuts_in document)

-- the checks of the terminals
abbrev pub checks_of_terminals : Members → List MapCheck
checks_of_terminals document = terminals_are_array ∷ terminals_are_few ∷ checks_of_each of_terminal terminal_checks (terminals_in document)

-- the check of whether via clusters are terminals
abbrev pub last_checks : List MapCheck
last_checks = contacts_are_truth ∷ []

-- all checks of a document in their order
abbrev pub checks_of : Members → List MapCheck
checks_of document =
    first_checks ++ (checks_of_metals document ++ (checks_of_cuts document ++ (checks_of_terminals document ++ last_checks)))

-- the fault that each gives where it fails
abbrev pub fault_of : MapCheck → MapFault
fault_of has_known_keys = BadKey document_path
fault_of has_version = BadValue version_path
fault_of sizes_are_array = BadValue sizes_path
fault_of sizes_are_few = LimitPassed sizes_path
fault_of has_sizes = BadValue sizes_path
fault_of has_weights = BadValue weights_path
fault_of has_metals = BadValue metals_path
fault_of metals_are_few = LimitPassed metals_path
fault_of (of_metal number check) = layer_fault (metal_path number) check
fault_of cuts_are_array = BadValue cuts_path
fault_of cuts_are_few = LimitPassed cuts_path
fault_of (of_cut number check) = cut_fault (cut_path number) check
fault_of terminals_are_array = BadValue terminals_path
fault_of terminals_are_few = LimitPassed terminals_path
fault_of (of_terminal number check) = terminal_fault (terminal_path number) check
fault_of contacts_are_truth = BadValue contacts_path
