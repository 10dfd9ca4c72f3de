-- what bytes say as a layer map: the map of their document, or the first refusal
use Rattle.std.specs.Prelude.{IsUtf8, ℕ, ◌≡◌, List, slice_get, Option, Some}
use Rattle.lists.specs.Words.{AllZip}
use Rattle.geo_core.specs.declared.plane.Cell.{Cell}
use Rattle.first_refusal.specs.Outcomes.{Outcome, value, refused, Reads, Then}
use Rattle.first_refusal.specs.Checks.{Checks}
use Rattle.toml.specs.Data.{Data, string, integer, Members}
use Rattle.toml.specs.Parse.{parse_document}
use Rattle.lists.specs.Differing.{AreDifferent}
use Rattle.map_model.specs.MapNames.{LayerMap, MappedLayer, MappedCut, names_of, sizes_of}
use Rattle.layer_map.specs.Values.{whole_numbers, pairs_value, truth_in, weights_in, contacts_in, metals_in, cuts_in, terminals_in}
use Rattle.layer_map.specs.Values.{name_of_item, pairs_of_item, lower_of_item, upper_of_item, metal_of_item, x_of_item, y_of_item}
use Rattle.layer_map.specs.DocumentSizes.{measure_of, sizes_in}
use Rattle.layer_map.specs.MapChecks.{Holds, checks_of, fault_of}
use Rattle.layer_map.specs.declared.fault.MapFault.{MapFault}
use Rattle.layer_map.specs.declared.fault.MapFault.TheVariants.{Syntax}

-- the bytes are text in UTF-8, and the text writes this TOML document
pub record IsDocument (bytes : List ℕ) (document : Members) : Type 0 where
  pub is_text : IsUtf8 bytes
  pub parsed : parse_document bytes ≡ Some document

-- the item gives this name and these pairs
pub record GivesLayer (item : Data) (layer : MappedLayer) : Type 0 where
  pub name : name_of_item item ≡ Some (string layer.name)
  pub pairs : pairs_of_item item ≡ Some (pairs_value layer.pairs)

-- what stands there is the name of the metal with this number
pub record NamesMetal (metals : List MappedLayer) (there : Option Data) (number : ℕ) : Type 0 where
  pub metal : MappedLayer
  pub numbered : slice_get metals number ≡ Some metal
  pub named : there ≡ Some (string metal.name)

-- the item gives this cut between two of the metals
pub record GivesCut (metals : List MappedLayer) (item : Data) (cut : MappedCut) : Type 0 where
  pub layer : GivesLayer item cut.mapped
  pub lower : NamesMetal metals (lower_of_item item) cut.lower
  pub upper : NamesMetal metals (upper_of_item item) cut.upper

-- the item gives this terminal: the number of its metal, and its cell
pub record GivesTerminal (metals : List MappedLayer) (item : Data) (terminal : ℕ × Cell) : Type 0 where
  pub metal : NamesMetal metals (metal_of_item item) terminal.0
  pub column : x_of_item item ≡ Some (integer terminal.1.i)
  pub row : y_of_item item ≡ Some (integer terminal.1.j)

-- The document gives this layer map: its sizes with their weights, and what measures them, item by item its metals, cuts and
-- terminals, and whether via clusters are terminals, which they are not where it does not say so.
-- The names of metals differ (where the checks hold they do), so a name tells one number.
pub record GivesMap (document : Members) (layer_map : LayerMap) : Type 0 where
  pub numbers : List ℕ
  pub weights : List ℕ
  pub has_sizes : sizes_in document ≡ Some (whole_numbers numbers)
  pub has_weights : weights_in document ≡ Some (whole_numbers weights)
  pub measure : layer_map.measure ≡ measure_of document
  pub sizes : layer_map.sizes ≡ sizes_of numbers weights
  pub metals : AllZip GivesLayer (metals_in document) layer_map.metals
  pub names_differ : AreDifferent (names_of layer_map.metals)
  pub cuts : AllZip (GivesCut layer_map.metals) (cuts_in document) layer_map.cuts
  pub terminals : AllZip (GivesTerminal layer_map.metals) (terminals_in document) layer_map.terminals
  pub contacts : layer_map.contacts ≡ truth_in (contacts_in document)

-- the document: the layer map that it gives where all checks hold, or the fault of the first that fails
abbrev pub DocumentComesTo : Members → Outcome LayerMap MapFault → Type 0
DocumentComesTo document = Checks (Holds document) (checks_of document) fault_of (GivesMap document)

-- the bytes: what their document comes to, or the refusal `Syntax` where they are none
abbrev pub MapComesTo : List ℕ → Outcome LayerMap MapFault → Type 0
MapComesTo bytes = Then (Reads (IsDocument bytes) Syntax) DocumentComesTo

-- the outcome with its value told in other words, as a map that lies in memory by its layer map
abbrev pub value_as : {V W R : Type 0} → (V → W) → Outcome V R → Outcome W R
value_as told (value v) = value (told v)
value_as told (refused refusal) = refused refusal
