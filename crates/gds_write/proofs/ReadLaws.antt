-- The parts that a library is written as: they are in the grammar, and say the same library, at their offsets.
use Rattle.std.proofs.Common.{◌≡◌, ℕ, List, [], ◌∷◌, ◌++◌, map, All, Contains, Some, None, refl, sym, ap, ◌∙◌, arith, append_assoc}
use Rattle.lists.proofs.Words.{flat_map, AllZip, All-nil, All-cons, All-head, All-tail, All-map}
use Rattle.lists.proofs.Mapping.{flat_map-map, flat_map-same}
use Rattle.gds_records.specs.declared.forms.TheConstants as form
use Rattle.gds_records.specs.declared.kinds.TheConstants as kind
use Rattle.library_grammar.specs.GrammarNames.{Entry, own_kinds, kinds_of, head_kinds, IsProperty, ElementParts, element_records, IsElement, StructureParts, structure_head, structure_records}
use Rattle.library_grammar.specs.GrammarNames.{IsStructure, LibraryParts, library_records, IsInShape, behind, SayElements, SayStructures, IsLibrary}
use Rattle.library_grammar.specs.Libraries.{no_more as no_elements, one_more as one_element, no_more as no_structures, one_more as one_structure}
use Rattle.library_model.specs.declared.element.Element.{Element}
use Rattle.library_model.specs.declared.element.Element.TheVariants.{Shape as shape_element, Reference as reference_element}
use Rattle.library_model.specs.declared.library.Library.{Library}
use Rattle.library_model.specs.declared.library.Structure.{Structure}
use Rattle.gds_write.specs.Bodies.{entry, bare, date_entry, text_entry, unsigned_entry}
use Rattle.gds_write.specs.SameLibrary.{IsSameElement, shapes, references, IsSameStructure, IsSameButOffsets}
use Rattle.gds_write.specs.WellFormed.{IsWritableElement, IsWritableStructure, IsWellFormed}
use Rattle.gds_write.specs.Written.{opening_of, own_of, written_element, written_structure, written_head, written}
use Rattle.gds_write.proofs.ElementLaws.{form_of_element, element_reads, element_at}
use Rattle.gds_write.proofs.ProfileLaws.{padded_fills}

-- what holds of each kind holds of each record of that kind
own_entries : (P : ℕ → Type 0) (own : List Entry) → All P (kinds_of own) → All (λ e. P e.kind) own
own_entries P [] h = λ i d l. absurd (omega arith)
own_entries P (e ∷ own) h = All-cons (λ o. P o.kind) e own (All-head P e.kind (kinds_of own) h) (own_entries P own (All-tail P e.kind (kinds_of own) h))

-- ---- the parts that are written

abbrev pub element_parts : Element → ElementParts
element_parts element =
    record { form = form_of_element element; opening = bare (opening_of element); own = own_of element; properties = []; last = bare kind.ENDEL }

abbrev pub structure_parts : Structure → StructureParts
structure_parts structure = record {
  opening = date_entry kind.BGNSTR;
  name = text_entry kind.STRNAME structure.name;
  class = None;
  elements = map element_parts structure.elements;
  last = bare kind.ENDSTR;
}

abbrev pub library_parts : Library → LibraryParts
library_parts library = record {
  version = unsigned_entry kind.HEADER 600;
  opening = date_entry kind.BGNLIB;
  before_name = [];
  name = text_entry kind.LIBNAME library.name;
  before_units = [];
  units = entry kind.UNITS form.EIGHT_BYTE_REALS library.units;
  structures = map structure_parts library.structures;
  last = bare kind.ENDLIB;
}

-- their records are those that are written
structure_is_written : (structure : Structure) → structure_records (structure_parts structure) ≡ written_structure structure
structure_is_written structure =
    ap (λ (es : List Entry). structure_head (structure_parts structure) ++ (es ++ bare kind.ENDSTR ∷ [])) (flat_map-map element_records element_parts structure.elements)

library_is_written : (library : Library) → library_records (library_parts library) ≡ written library
library_is_written library =
    ap (λ (es : List Entry). written_head library ++ (es ++ bare kind.ENDLIB ∷ []))
    (flat_map-map structure_records structure_parts library.structures
    ∙ flat_map-same (λ structure. structure_records (structure_parts structure)) written_structure library.structures (λ structure listed. structure_is_written structure))
    ∙ sym (append_assoc (written_head library) (flat_map written_structure library.structures) (bare kind.ENDLIB ∷ []))

-- they are in the grammar
pub element_in_grammar : (element : Element) → IsWritableElement element → IsElement (element_parts element)
element_in_grammar element writable =
    let reads = element_reads element writable in
    record {
      opens = reads.opens;
      are_own = own_entries (Contains (own_kinds (form_of_element element))) (own_of element) reads.are_own;
      once = reads.once;
      properties = All-nil IsProperty;
      ends = refl;
    }

structure_in_grammar : (structure : Structure) → IsWritableStructure structure → IsStructure (structure_parts structure)
structure_in_grammar structure writable =
    record {
      opens = refl;
      names = refl;
      class = tt;
      elements = All-map IsElement element_parts structure.elements (λ i d l. element_in_grammar _ (writable.elements i d l));
      ends = refl;
    }

pub library_in_shape : (library : Library) → IsWellFormed library → IsInShape (written library)
library_in_shape library well_formed =
    record {
      library = library_parts library;
      in_grammar = record {
        version = refl;
        opens = refl;
        before_name = All-nil (λ e. Contains head_kinds e.kind);
        names = refl;
        before_units = All-nil (λ e. Contains head_kinds e.kind);
        units = refl;
        structures = All-map IsStructure structure_parts library.structures (λ i d l. structure_in_grammar _ (well_formed.structures i d l));
        ends = refl;
      };
      are_its = sym (library_is_written library);
    }

-- ---- what they say

-- elements, structures and a library, which begin at this offset
abbrev pub elements_at : ℕ → List Element → List Element
elements_at at [] = []
elements_at at (element ∷ elements) = element_at at element ∷ elements_at (behind at (written_element element)) elements

abbrev pub structure_at : ℕ → Structure → Structure
structure_at at structure = record structure { at = at; elements = elements_at (behind at (structure_head (structure_parts structure))) structure.elements }

abbrev pub structures_at : ℕ → List Structure → List Structure
structures_at at [] = []
structures_at at (structure ∷ structures) = structure_at at structure ∷ structures_at (behind at (structure_records (structure_parts structure))) structures

abbrev pub library_read : Library → Library
library_read library = record library { structures = structures_at (behind 0 (written_head library)) library.structures }

elements_say : (at : ℕ) (elements : List Element) → All IsWritableElement elements → SayElements at (map element_parts elements) (elements_at at elements)
elements_say at [] writable = no_elements
elements_say at (element ∷ elements) writable =
    let first = element_reads element (All-head IsWritableElement element elements writable) in
    one_element {kept = Some (element_at at element)} (first.kept at)
    (elements_say (behind at (written_element element)) elements (All-tail IsWritableElement element elements writable))

structures_say : (at : ℕ) (structures : List Structure) → All IsWritableStructure structures → SayStructures at (map structure_parts structures) (structures_at at structures)
structures_say at [] writable = no_structures
structures_say at (structure ∷ structures) writable =
    let first = All-head IsWritableStructure structure structures writable in
    one_structure
    (record {
      place = refl;
      name = (padded_fills structure.name first.name structure.name_fits).is_text;
      elements = elements_say (behind at (structure_head (structure_parts structure))) structure.elements first.elements;
    })
    (structures_say (behind at (structure_records (structure_parts structure))) structures (All-tail IsWritableStructure structure structures writable))

pub library_is_read : (library : Library) → IsWellFormed library → IsLibrary (written library) (library_read library)
unfolding library_in_shape
library_is_read library well_formed =
    record {
      in_shape = library_in_shape library well_formed;
      says = record {
        name = (padded_fills library.name well_formed.name library.name_fits).is_text;
        units = refl;
        structures = structures_say (behind 0 (written_head library)) library.structures well_formed.structures;
      };
    }

-- ---- they are the same

same_element : (at : ℕ) (element : Element) → IsSameElement element (element_at at element)
same_element at (shape_element shape) = shapes (record { kind = refl; layer = refl; datatype = refl; points = refl })
same_element at (reference_element reference) = references (record { target = refl; turn = refl; origin = refl; lattice = refl })

same_elements : (at : ℕ) (elements : List Element) → AllZip IsSameElement elements (elements_at at elements)
same_elements at [] = tt
same_elements at (element ∷ elements) = (same_element at element, same_elements (behind at (written_element element)) elements)

same_structures : (at : ℕ) (structures : List Structure) → AllZip IsSameStructure structures (structures_at at structures)
same_structures at [] = tt
same_structures at (structure ∷ structures) = (
  record { name = refl; elements = same_elements (behind at (structure_head (structure_parts structure))) structure.elements },
  same_structures (behind at (structure_records (structure_parts structure))) structures,
)

pub same_library : (library : Library) → IsSameButOffsets library (library_read library)
same_library library = record { name = refl; units = refl; structures = same_structures (behind 0 (written_head library)) library.structures }
