-- where all checks of a document hold it gives a layer map
use Rattle.std.proofs.Common.{◌≡◌, ℕ, suc, ◌<◌, List, [], ◌∷◌, ◌++◌, length, get_or, take, map, Option, Some, refl, sym, ap, ◌∙◌, subst, arith, zero-add, All, Contains, slice_get}
use Rattle.lists.proofs.Words.{flat_map, AllZip, All-contains, Contains-get_or, range_with_len, get_or-map, get_or-range_with_len, get_or_from_slice_get, length-map, length-range_with_len}
use Rattle.lists.proofs.Words.{get_or-take, length-take-le, slice_get_within}
use Rattle.geo_core.specs.declared.plane.Cell.{Cell}
use Rattle.toml.specs.Data.{Data, Members}
use Rattle.layer_map.specs.CutChecks.{cut_checks}
use Rattle.layer_map.specs.Documents.{GivesCut, GivesLayer, GivesMap, GivesTerminal, NamesMetal}
use Rattle.layer_map.specs.DocumentSizes.{measure_of}
use Rattle.layer_map.specs.LayerChecks.{layer_checks}
use Rattle.map_model.specs.MapNames.{LayerMap, MappedCut, MappedLayer, names_of, sizes_of}
use Rattle.lists.specs.Differing.{AreDifferent}
use Rattle.layer_map.specs.MapChecks.{Holds, MapCheck, checks_of, checks_of_cuts, checks_of_each, checks_of_metals, checks_of_terminals, first_checks, last_checks, of_cut, of_metal, of_terminal, has_known_keys}
use Rattle.layer_map.specs.MapChecks.{has_metals, metals_are_few, cuts_are_array, cuts_are_few, terminals_are_array, terminals_are_few}
use Rattle.layer_map.specs.inside.ReadLayers.{written_name}
use Rattle.layer_map.specs.TerminalChecks.{terminal_checks}
use Rattle.layer_map.specs.Values.{contacts_in, cuts_in, metals_in, name_of_item, terminals_in, truth_in}
use Rattle.lists.proofs.Containing.{All-back, All-front, all_of_each, number_of, some_item}
use Rattle.lists.proofs.Mapping.{Contains-flat_map, Contains-map_from}
use Rattle.std.proofs.lemmas.List.{take-map}
use Rattle.lists.proofs.Differing.{AreDifferent-unmap}
use Rattle.layer_map.proofs.SeenLaws.{names_zip}

-- the checks of the item with one number
all_of_number : {A : Type 0} (P : A → Type 0) (checks_at : ℕ → List A) (count number : ℕ) → number < count → All P (flat_map checks_at (range_with_len 0 count)) → All P (checks_at number)
all_of_number P checks_at count number within all =
    let there : Contains (range_with_len 0 count) number = (number, omega (arith, length-range_with_len 0 count), get_or-range_with_len 0 count number number within ∙ zero-add number) in
    all_of_each P (checks_at number) (λ check among. All-contains P (flat_map checks_at (range_with_len 0 count)) check all
    (Contains-flat_map checks_at (range_with_len 0 count) number check there among))

-- where each of some things has something, they have a list of these
list_for : {A B : Type 0} (R : A → B → Type 0) (ds : List A) → ((k : ℕ) (d : A) → slice_get ds k ≡ Some d → (b : B) × R d b) → (bs : List B) × AllZip R ds bs
list_for R [] each = ([], tt)
list_for R (d ∷ ds) each =
    let (b, here) = each 0 d refl in
    let (bs, others) = list_for R ds (λ k e there. each (suc k) e there) in
    (b ∷ bs, (here, others))

-- where no item has the name of an earlier one, all names differ
new_names_differ : (ds : List Data) → ((k : ℕ) (d : Data) → slice_get ds k ≡ Some d → Contains (map name_of_item (take k ds)) (name_of_item d) → ⊥) → AreDifferent (map name_of_item ds)
new_names_differ ds new i j o below within same =
    let (d, there) = some_item ds j (omega (arith, length-map ds name_of_item)) in
    let here : get_or (map name_of_item ds) j o ≡ name_of_item d = get_or-map name_of_item ds j d o (slice_get_within ds j d there) ∙ ap name_of_item (get_or_from_slice_get ds j d d there) in
    let early = Contains-get_or (take j (map name_of_item ds)) i o (omega (arith, length-take-le j (map name_of_item ds))) in
    new j d there (rw (← take-map) (subst (Contains (take j (map name_of_item ds))) (get_or-take j (map name_of_item ds) i o below ∙ same ∙ here) early))

-- a name that stands in one of the items names its layer
names_one : (ds : List Data) (layers : List MappedLayer) (there : Option Data) → AllZip GivesLayer ds layers → Contains (map name_of_item ds) there → (number : ℕ) × NamesMetal layers there number
names_one ds layers there all among =
    let (name, lies, same) = Contains-map_from written_name (names_of layers) there (rw (names_zip ds layers all) at among) in
    let (layer, has, is) = Contains-map_from (λ (l : MappedLayer). l.name) layers name lies in
    let (number, numbered) = number_of layers layer has in
    (number, record { metal = layer; numbered = numbered; named = sym (ap written_name is ∙ same) })

module _ (document : Members) (all : All (Holds document) (checks_of document)) where
  abbrev behind_cuts : List MapCheck
  behind_cuts = checks_of_terminals document ++ last_checks

  rest_holds : All (Holds document) (checks_of_metals document ++ (checks_of_cuts document ++ behind_cuts))
  rest_holds = All-back (Holds document) first_checks (checks_of_metals document ++ (checks_of_cuts document ++ behind_cuts)) all

  behind_metals_hold : All (Holds document) (checks_of_cuts document ++ behind_cuts)
  behind_metals_hold = All-back (Holds document) (checks_of_metals document) (checks_of_cuts document ++ behind_cuts) rest_holds

  -- behind two checks of all items, those of each
  item_holds : {C : Type 0} (first second : MapCheck) (of_item : ℕ → C → MapCheck) (checks : List C) (items : List Data) → All (Holds document) (first ∷ second ∷ checks_of_each of_item checks items)
      → (number : ℕ) (item : Data) → slice_get items number ≡ Some item → All (Holds document) (map (of_item number) checks)
  item_holds first second of_item checks items hold number item there = all_of_number (Holds document) (λ n. map (of_item n) checks) (length items) number (slice_get_within items number item there)
      (All-back (Holds document) (first ∷ second ∷ []) (checks_of_each of_item checks items) hold)

  metal_hold : (number : ℕ) (item : Data) → slice_get (metals_in document) number ≡ Some item → All (Holds document) (map (of_metal number) layer_checks)
  metal_hold = item_holds has_metals metals_are_few of_metal layer_checks (metals_in document)
      (All-front (Holds document) (checks_of_metals document) (checks_of_cuts document ++ behind_cuts) rest_holds)

  a_metal : (number : ℕ) (item : Data) → slice_get (metals_in document) number ≡ Some item → (layer : MappedLayer) × GivesLayer item layer
  a_metal number item there =
      let checks = metal_hold number item there in
      let name = rw there at (checks 2 has_known_keys (omega arith)) in
      let pairs = rw there at (checks 4 has_known_keys (omega arith)) in
      (record { name = name.0; pairs = pairs.0 }, record { name = name.1; pairs = pairs.1 })

  metals : (layers : List MappedLayer) × AllZip GivesLayer (metals_in document) layers
  metals = list_for GivesLayer (metals_in document) a_metal

  names_differ : AreDifferent (names_of metals.0)
  names_differ = AreDifferent-unmap written_name (names_of metals.0) (subst AreDifferent (names_zip (metals_in document) metals.0 metals.1)
      (new_names_differ (metals_in document) (λ k d there. rw there at (metal_hold k d there 3 has_known_keys (omega arith)))))

  a_cut : (number : ℕ) (item : Data) → slice_get (cuts_in document) number ≡ Some item → (cut : MappedCut) × GivesCut metals.0 item cut
  a_cut number item there =
      let hold = All-front (Holds document) (checks_of_cuts document) behind_cuts behind_metals_hold in
      let checks = item_holds cuts_are_array cuts_are_few of_cut cut_checks (cuts_in document) hold number item there in
      let name = rw there at (checks 2 has_known_keys (omega arith)) in
      let pairs = rw there at (checks 4 has_known_keys (omega arith)) in
      let (lower, lower_names) = names_one (metals_in document) metals.0 _ metals.1 (rw there at (checks 7 has_known_keys (omega arith))) in
      let (upper, upper_names) = names_one (metals_in document) metals.0 _ metals.1 (rw there at (checks 9 has_known_keys (omega arith))) in (
        record { mapped = record { name = name.0; pairs = pairs.0 }; lower = lower; upper = upper },
        record { layer = record { name = name.1; pairs = pairs.1 }; lower = lower_names; upper = upper_names },
      )

  a_terminal : (number : ℕ) (item : Data) → slice_get (terminals_in document) number ≡ Some item → (terminal : ℕ × Cell) × GivesTerminal metals.0 item terminal
  a_terminal number item there =
      let behind = All-back (Holds document) (checks_of_cuts document) behind_cuts behind_metals_hold in
      let hold = All-front (Holds document) (checks_of_terminals document) last_checks behind in
      let checks = item_holds terminals_are_array terminals_are_few of_terminal terminal_checks (terminals_in document) hold number item there in
      let (metal, names) = names_one (metals_in document) metals.0 _ metals.1 (rw there at (checks 3 has_known_keys (omega arith))) in
      let x = rw there at (checks 4 has_known_keys (omega arith)) in
      let y = rw there at (checks 5 has_known_keys (omega arith)) in
      ((metal, record { i = x.0; j = y.0 }), record { metal = names; column = x.1; row = y.1 })

  pub a_map : (layer_map : LayerMap) × GivesMap document layer_map
  a_map =
      let sizes = all 4 has_known_keys (omega arith) in
      let weights = all 5 has_known_keys (omega arith) in
      let cuts = list_for (GivesCut metals.0) (cuts_in document) a_cut in
      let terminals = list_for (GivesTerminal metals.0) (terminals_in document) a_terminal in (
        record { metals = metals.0; cuts = cuts.0; measure = measure_of document; sizes = sizes_of sizes.0 weights.0; terminals = terminals.0; contacts = truth_in (contacts_in document) },
        record {
          numbers = sizes.0;
          weights = weights.0;
          has_sizes = sizes.1;
          has_weights = weights.1;
          measure = refl;
          sizes = refl;
          metals = metals.1;
          names_differ = names_differ;
          cuts = cuts.1;
          terminals = terminals.1;
          contacts = refl;
        },
      )
