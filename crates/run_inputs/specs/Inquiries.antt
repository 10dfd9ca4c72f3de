-- what a task asks of its layout: rows of a report, pairs of nets, what is near a cell, or the critical cells of a row
use Rattle.std.specs.Prelude.{ℕ, List, Some, length, map, slice_get, slice_index_or, ◌+◌, ◌<◌, ◌≡◌}
use Rattle.first_refusal.specs.Outcomes.{Outcome, value, Reads, Then}
use Rattle.command_line.specs.declared.task.Task.{Task}
use Rattle.command_line.specs.declared.task.Task.TheVariants.{OneMetal, Mapped, Generated, Pairs, Probe, Regions}
use Rattle.map_model.specs.MapNames.{LayerMap, MappedLayer, layers_of}
use Rattle.map_model.specs.declared.map.Map.{Map}
use Rattle.area_parts.specs.FaultKinds.{IsNumberFor}
use Rattle.questions.specs.declared.kind.Kind.{Kind}
use Rattle.run_inputs.specs.Layout.{Subject}
use Rattle.run_inputs.specs.Refusals.{no_such_layer, no_such_size}
use Rattle.run_inputs.specs.declared.query.ListedSize.{ListedSize}
use Rattle.run_inputs.specs.declared.query.Query.{Query}
use Rattle.run_inputs.specs.declared.query.Query.TheVariants.{Report as for_report, Pairs as for_pairs, Probe as for_probe, Region as for_region}
use Rattle.run_inputs.specs.declared.refusal.Refusal.{Refusal}

-- a layout, and what is asked of it
pub record Inquiry : Type 0 where
  pub subject : Subject
  pub query : Query

-- the map lists the size under this number, where the first one has the number 1
pub record IsSizeNumbered (layer_map : LayerMap) (number : ℕ) (size : ListedSize) : Type 0 where
  pub counted : number ≡ size.place + 1
  pub listed : slice_get (map (λ listed. listed.size) layer_map.sizes) size.place ≡ Some size.size

-- pairs are asked for, for the size with this number
pub record ArePairsAsked (layer_map : LayerMap) (number : ℕ) (query : Query) : Type 0 where
  pub size : ListedSize
  pub numbered : IsSizeNumbered layer_map number size
  pub is_asked : query ≡ for_pairs size

-- the layer of the map that has this number is a metal, or for via blocks a cut, and has this name
pub record IsLayerOfName (layer_map : LayerMap) (kind : Kind) (name : List ℕ) (number : ℕ) : Type 0 where
  pub of_kind : IsNumberFor kind (length layer_map.metals) (length layer_map.cuts) number
  pub mapped : MappedLayer
  pub listed : slice_get (layers_of layer_map) number ≡ Some mapped
  pub named : mapped.name ≡ name

-- it is the first such layer
pub record IsLayerNamed (layer_map : LayerMap) (kind : Kind) (name : List ℕ) (number : ℕ) : Type 0 where
  pub has_name : IsLayerOfName layer_map kind name number
  pub first : (other : ℕ) → other < number → IsLayerOfName layer_map kind name other → ⊥

-- the cells of this kind and size are asked for, of the layer with this name
pub record IsRegionAsked (layer_map : LayerMap) (kind : Kind) (name : List ℕ) (size : ListedSize) (query : Query) : Type 0 where
  pub number : ℕ
  pub is_named : IsLayerNamed layer_map kind name number
  pub is_asked : query ≡ for_region kind number size

-- the same for the size with this number: first whether the map lists it, and then whether it has the layer
abbrev pub RegionComesTo : LayerMap → Kind → List ℕ → ℕ → Outcome Query Refusal → Type 0
RegionComesTo layer_map kind name number =
    Then (Reads (IsSizeNumbered layer_map number) (no_such_size (length layer_map.sizes)))
    (λ size. Reads (IsRegionAsked layer_map kind name size) no_such_layer)

-- what the task asks of a layout with this map, or its refusal, where the map has not what the task names
abbrev pub QueryComesTo : Task → LayerMap → Outcome Query Refusal → Type 0
QueryComesTo (OneMetal layout layer datatype radius top) layer_map outcome = outcome ≡ value for_report
QueryComesTo (Mapped layout map top) layer_map outcome = outcome ≡ value for_report
QueryComesTo (Generated columns) layer_map outcome = outcome ≡ value for_report
QueryComesTo (Pairs layout map top number) layer_map outcome = Reads (ArePairsAsked layer_map number) (no_such_size (length layer_map.sizes)) outcome
QueryComesTo (Probe layout map top cell) layer_map outcome = outcome ≡ value (for_probe cell)
QueryComesTo (Regions layout map top kind layer number) layer_map outcome = RegionComesTo layer_map kind layer number outcome

-- ---- what is asked of a map as a value

-- the size stands at its place among these
pub record IsListedIn (sizes : List ℕ) (listed : ListedSize) : Type 0 where
  pub below : listed.place < length sizes
  pub is : listed.size ≡ slice_index_or sizes listed.place 0

-- the map has this size, and a layer of the kind with this number
pub record HasSizeAndLayer (map : Map) (kind : Kind) (number : ℕ) (size : ListedSize) : Type 0 where
  pub numbered : IsNumberFor kind (length map.metals) (length map.cuts) number
  pub listed : IsListedIn map.sizes size

-- the map has the size and the layer that the query names, where it names any
abbrev pub IsQueryOf : Map → Query → Type 0
IsQueryOf map for_report = Unit {0}
IsQueryOf map (for_pairs size) = IsListedIn map.sizes size
IsQueryOf map (for_probe cell) = Unit {0}
IsQueryOf map (for_region kind number size) = HasSizeAndLayer map kind number size
