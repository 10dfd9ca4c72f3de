-- What is written reads back.
use Rattle.std.proofs.Common.{[], ◌++◌, refl, sym, arith}
use Rattle.lists.proofs.Words.{flat_map, append-nil}
use Rattle.library_grammar.specs.GrammarNames.{value, IsNoEndlib, spellings, whole, Splits, BytesComeTo, are_library}
use Rattle.gds_records.specs.declared.kinds.TheConstants as kind
use Rattle.library_model.specs.declared.element.Element.{Element}
use Rattle.library_model.specs.declared.library.Library.{Library}
use Rattle.library_model.specs.declared.library.Structure.{Structure}
use Rattle.gds_write.specs.Bodies.{bare}
use Rattle.gds_write.specs.SameLibrary.{IsSameButOffsets}
use Rattle.gds_write.specs.WellFormed.{IsWritableElement, IsWritableStructure, IsWellFormed}
use Rattle.gds_write.specs.Written.{own_of, written_element, written_structure, written_head, written}
use Rattle.library_grammar.proofs.laws.Forms.{own_ends_no_library, opening_ends_no_library}
use Rattle.gds_write.proofs.Every.{Every, more, both, every_of, one, each_part, all_of}
use Rattle.gds_write.proofs.ReadLaws.{element_in_grammar, library_is_read, library_read, same_library}
use Rattle.gds_write.proofs.ElementLaws.{form_of_element}
use Rattle.gds_write.proofs.ProfileLaws.{library_taken}
use Rattle.gds_write.proofs.QuietLaws.{none_shows}

-- no record of an element ends the library
element_goes_on : (element : Element) → IsWritableElement element → Every IsNoEndlib (written_element element)
element_goes_on element writable =
    let is = element_in_grammar element writable in
    more (opening_ends_no_library _ (form_of_element element) is.opens)
    (both (every_of IsNoEndlib (own_of element) (λ i d l. own_ends_no_library (form_of_element element) is.opens.listed _ (is.are_own i d l))) (one (λ same. absurd (omega arith))))

structure_goes_on : (structure : Structure) → IsWritableStructure structure → Every IsNoEndlib (written_structure structure)
structure_goes_on structure writable =
    more (λ same. absurd (omega arith)) (more (λ same. absurd (omega arith))
    (both (each_part IsWritableElement written_element element_goes_on structure.elements writable.elements) (one (λ same. absurd (omega arith)))))

before_end : (library : Library) → IsWellFormed library → Every IsNoEndlib (written_head library ++ flat_map written_structure library.structures)
before_end library well_formed =
    more (λ same. absurd (omega arith)) (more (λ same. absurd (omega arith)) (more (λ same. absurd (omega arith)) (more (λ same. absurd (omega arith))
    (each_part IsWritableStructure written_structure structure_goes_on library.structures well_formed.structures))))

splits : (library : Library) → IsWellFormed library → Splits 0 (spellings (written library)) (written library) whole
splits library well_formed =
    record {
      rest = [];
      joined = sym (append-nil (spellings (written library)));
      each = all_of (library_taken library well_formed);
      ends = record {
        before = written_head library ++ flat_map written_structure library.structures;
        last = bare kind.ENDLIB;
        parts = refl;
        none_before = all_of (before_end library well_formed);
        is_endlib = refl;
      };
    }

pub written_reads : (library : Library) → IsWellFormed library
    → (read : Library) × IsSameButOffsets library read × BytesComeTo (spellings (written library)) (value read)
written_reads library well_formed = (
  library_read library,
  same_library library,
  are_library (splits library well_formed) (none_shows library well_formed) (library_is_read library well_formed),
)
