-- Structures by their numbers: the place of each in the library, from 0. What a reference names becomes a number here, once.
use Rattle.std.specs.Prelude.{ℕ, Bool, ◌==◌, ◌&&◌, List, [], ◌∷◌, flat_map, length, slice_get, Option, option_to_list}
use Rattle.lists.specs.Words.{list_any, range_with_len, option_map_or}
use Rattle.library_model.specs.Names.{names_of, place_of}
use Rattle.library_model.specs.declared.element.Element.{Element}
use Rattle.library_model.specs.declared.element.Element.TheVariants.{Shape as shape_element, Reference as reference_element}
use Rattle.library_model.specs.declared.element.Shape.{Shape}
use Rattle.library_model.specs.declared.element.Reference.{Reference}
use Rattle.library_model.specs.declared.library.Structure.{Structure}
use Rattle.map_model.specs.MapNames.{LayerMap, layers_of}

-- the numbers of the structures
abbrev pub numbers_of : List Structure → List ℕ
numbers_of structures = range_with_len 0 (length structures)

-- the elements of the structure with this number
abbrev pub elements_of : List Structure → ℕ → List Element
elements_of structures one = option_map_or (λ structure. structure.elements) (slice_get structures one) []

-- the offset at which it begins
abbrev pub offset_of : List Structure → ℕ → ℕ
offset_of structures one = option_map_or (λ structure. structure.at) (slice_get structures one) 0

-- the reference that an element is, if it is one
abbrev pub references_in : Element → List Reference
references_in (shape_element shape) = []
references_in (reference_element reference) = reference ∷ []

-- the references among elements, in file order
abbrev pub references_among : List Element → List Reference
references_among elements = flat_map references_in elements

-- the references of a library, structure by structure, which is the order of the stream in a library that was read
abbrev pub all_references : List Structure → List Reference
all_references structures = flat_map (λ structure. references_among structure.elements) structures

-- the structure to which a reference leads: the first of the name that it gives; none where no structure has this name
abbrev pub target_of : List Structure → Reference → Option ℕ
target_of structures reference = place_of (names_of structures) reference.target

-- the structures to which the references of the structure with this number lead
abbrev pub targets_of : List Structure → ℕ → List ℕ
targets_of structures one = flat_map (λ reference. option_to_list (target_of structures reference))
    (references_among (elements_of structures one))

-- the structures to which references of the library lead
abbrev pub all_targets : List Structure → List ℕ
all_targets structures = flat_map (targets_of structures) (numbers_of structures)

-- whether shapes of this layer and datatype belong to a layer of the map
abbrev pub is_mapped : LayerMap → Shape → Bool
is_mapped layer_map shape = list_any (λ layer. list_any (λ pair. (pair.0 == shape.layer) && (pair.1 == shape.datatype)) layer.pairs)
    (layers_of layer_map)
