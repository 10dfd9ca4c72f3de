-- What is followed of structures: their shapes on mapped layers, and their references with the numbers of their targets.
-- Structures go by their numbers.
use Rattle.std.specs.Prelude.{ℕ, zero, suc, List, [], ◌∷◌, ◌≡◌, ◌<◌, Contains, slice_get, false, IsSome, Some, Vec}
use Rattle.lists.specs.Words.{Bor, option_map_or, enumerate_from, AllZip, Global}
use Rattle.library_model.specs.Names.{place_of}
use Rattle.library_model.specs.declared.element.Element.{Element}
use Rattle.library_model.specs.declared.element.Element.TheVariants.{Shape as shape_element, Reference as reference_element}
use Rattle.library_model.specs.declared.element.Shape.{Shape}
use Rattle.library_model.specs.declared.element.Reference.{Reference}
use Rattle.library_model.specs.declared.library.Structure.{Structure}
use Rattle.map_model.specs.MapNames.{LayerMap, IsMappedTo}
use Rattle.first_refusal.specs.Outcomes.{Outcome}
use Rattle.first_refusal.specs.Checks.{Checks}
use Rattle.flatten.specs.Structures.{is_mapped}
use Rattle.flatten.specs.declared.fault.PlaceFault.{PlaceFault}
use Rattle.flatten.specs.declared.fault.PlaceFault.TheVariants.{UnknownStructure}
use Rattle.flatten.specs.declared.part.Part.{Part}
use Rattle.flatten.specs.declared.part.Part.TheVariants.{End, Copies}

-- the reference names a structure of the library
abbrev pub IsKnown : List (List ℕ) → Reference → Type 0
IsKnown names reference = IsSome (place_of names reference.target)

-- what it comes to where parts are made of these references, each of which is to name a structure
abbrev pub MakesParts : {T : Type 0} → List (List ℕ) → List Reference → (T → Type 0) → Outcome T PlaceFault → Type 0
MakesParts names references = Checks (IsKnown names) references (λ reference. UnknownStructure reference.at)

-- the parts are those of the elements, in their order: a shape whose layer is not mapped is none
pub data AreParts (names : List (List ℕ)) (layer_map : LayerMap) : List (ℕ × Element) → List Part → Type 0 where
  no_more : AreParts names layer_map [] []
  passed_over : {number : ℕ} {shape : Shape} {elements : List (ℕ × Element)} {parts : List Part} → is_mapped layer_map shape ≡ false
      → AreParts names layer_map elements parts → AreParts names layer_map ((number, shape_element shape) ∷ elements) parts
  ends_there : {number layer : ℕ} {shape : Bor Shape} {elements : List (ℕ × Element)} {parts : List Part}
      → IsMappedTo layer_map (shape.now.layer, shape.now.datatype) layer
      → AreParts names layer_map elements parts → AreParts names layer_map ((number, shape_element shape.now) ∷ elements)
      (End number layer shape ∷ parts)
  goes_on : {number target : ℕ} {reference : Bor Reference} {elements : List (ℕ × Element)} {parts : List Part}
      → place_of names reference.now.target ≡ Some target
      → AreParts names layer_map elements parts → AreParts names layer_map ((number, reference_element reference.now) ∷ elements)
      (Copies reference target ∷ parts)

-- the parts of each structure
abbrev pub Nodes : Type 0
Nodes = List (Vec Part Global)

-- these are the parts of each of the structures
abbrev pub AreNodes : List (List ℕ) → LayerMap → List Structure → List (Vec Part Global) → Type 0
AreNodes names layer_map = AllZip (λ structure parts. AreParts names layer_map (enumerate_from 0 structure.elements) parts.items)

-- one of the parts is a reference to the structure with this number
abbrev pub LeadsTo : List Part → ℕ → Type 0
LeadsTo parts target = (reference : Bor Reference) × Contains parts (Copies reference target)

-- the parts of the structure with this number
abbrev pub parts_at : List (Vec Part Global) → ℕ → List Part
parts_at nodes one = option_map_or (λ parts. parts.items) (slice_get nodes one) []

-- a chain of this many references starts at the structure
abbrev pub Leads : List (Vec Part Global) → ℕ → ℕ → Type 0
Leads nodes zero one = Unit {0}
Leads nodes (suc n) one = (other : ℕ) × LeadsTo (parts_at nodes one) other × Leads nodes n other

-- the structures to which the parts refer are below this number
abbrev pub AreBelow : ℕ → List Part → Type 0
AreBelow count parts = (reference : Bor Reference) (target : ℕ) → Contains parts (Copies reference target) → target < count

-- the structures to which all parts refer are below this number
abbrev pub AreNodesBelow : ℕ → List (Vec Part Global) → Type 0
AreNodesBelow count nodes = (one : ℕ) → AreBelow count (parts_at nodes one)
