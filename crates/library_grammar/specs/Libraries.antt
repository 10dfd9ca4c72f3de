-- What the parts of a library say, as their records stand one after the other. Each part begins at an offset, and the next part
-- begins where it ends.
use Rattle.std.specs.Prelude.{ℕ, List, [], ◌∷◌, ◌++◌, length, option_to_list, Option, ◌≡◌, ◌+◌}
use Rattle.gds_records.specs.Fields.{IsText}
use Rattle.gds_records.specs.RecordSpelling.{Entry, spellings}
use Rattle.library_grammar.specs.Elements.{IsKept}
use Rattle.library_grammar.specs.Grammar.{ElementParts, StructureParts, LibraryParts, element_records, structure_head, structure_records}
use Rattle.library_grammar.specs.Grammar.{library_head, IsInShape}
use Rattle.library_model.specs.declared.element.Element.{Element}
use Rattle.library_model.specs.declared.library.Structure.{Structure}
use Rattle.library_model.specs.declared.library.Library.{Library}

-- the offset behind records that begin at this offset
abbrev pub behind : ℕ → List Entry → ℕ
behind at entries = at + length (spellings entries)

-- the elements, the first of which begins at this offset, and those of them that are kept
pub data SayElements : ℕ → List ElementParts → List Element → Type 0 where
  no_more : {at : ℕ} → SayElements at [] []
  one_more : {at : ℕ} {element : ElementParts} {others : List ElementParts} {kept : Option Element} {elements : List Element}
      → IsKept at element.own element.opening.kind kept → SayElements (behind at (element_records element)) others elements
      → SayElements at (element ∷ others) (option_to_list kept ++ elements)

-- a structure that begins at this offset
pub record SaysStructure (at : ℕ) (parts : StructureParts) (structure : Structure) : Type 0 where
  pub place : structure.at ≡ at
  pub name : IsText parts.name.body structure.name
  pub elements : SayElements (behind at (structure_head parts)) parts.elements structure.elements

-- the structures, the first of which begins at this offset
pub data SayStructures : ℕ → List StructureParts → List Structure → Type 0 where
  no_more : {at : ℕ} → SayStructures at [] []
  one_more : {at : ℕ} {parts : StructureParts} {others : List StructureParts} {structure : Structure} {structures : List Structure}
      → SaysStructure at parts structure → SayStructures (behind at (structure_records parts)) others structures
      → SayStructures at (parts ∷ others) (structure ∷ structures)

-- a library, which begins at the start of the stream
pub record SaysLibrary (parts : LibraryParts) (library : Library) : Type 0 where
  pub name : IsText parts.name.body library.name
  pub units : library.units ≡ parts.units.body
  pub structures : SayStructures (behind 0 (library_head parts)) parts.structures library.structures

-- the library that the records say
pub record IsLibrary (entries : List Entry) (library : Library) : Type 0 where
  pub in_shape : IsInShape entries
  pub says : SaysLibrary in_shape.library library
