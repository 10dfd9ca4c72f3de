-- What bytes come to, from what a reader found in them.
use Rattle.std.proofs.Common.{◌≡◌, ℕ, List, [], ◌∷◌, ◌++◌, refl, ap, subst, ◌∙◌}
use Rattle.lists.proofs.Words.{append-nil}
use Rattle.library_grammar.specs.GrammarNames.{value, refused, Reading, start_of, Entry, AreBytes, End, whole, Splits, BytesComeTo, are_library, have_fault, NoneShows, LibraryParts, library_head, behind, SayStructures, IsLibrary, before_header}
use Rattle.gds_records.proofs.laws.Splits.{all_bytes_split}
use Rattle.gds_syntax.specs.inside.LibraryReaders.{standing, IsAt, Stops, ReadsHead, ReadsStructures}
use Rattle.library_grammar.specs.declared.fault.SyntaxFault.{SyntaxFault}
use Rattle.library_model.specs.declared.library.Library.{Library}
use Rattle.library_model.specs.declared.library.Structure.{Structure}
use Rattle.library_grammar.proofs.laws.Standing.{starts as nothing_behind}

-- the reader begins where no records are behind it
pub starts : (bytes : List ℕ) → IsAt (start_of bytes) [] (standing before_header [])
starts bytes = record { place = refl; none_shows = nothing_behind.none_shows; offset = refl; names = nothing_behind.are_names }

-- the fault that a reader stops at is that of the bytes
pub bytes_have_fault : (bytes : List ℕ) (fault : SyntaxFault) → AreBytes bytes → Stops (start_of bytes) (standing before_header []) fault → BytesComeTo bytes (refused fault)
bytes_have_fault bytes fault are stops =
    let (entries, end, split) = all_bytes_split 0 bytes are in
    have_fault split (stops [] (starts bytes) entries end split)

-- the parts that a reader read
abbrev parts_read : {old mid new : Reading} {name units : List ℕ} {structures : List Structure} → ReadsHead old mid name units → ReadsStructures mid new structures → LibraryParts
parts_read head rest =
    record {
      version = head.is_head.version;
      opening = head.is_head.opening;
      before_name = head.is_head.before_name;
      name = head.is_head.name;
      before_units = head.is_head.before_units;
      units = head.is_head.units;
      structures = rest.are_structures.parts;
      last = rest.last;
    }

-- the library that they say
library_of_parts : (bytes : List ℕ) (mid new : Reading) (library : Library) (head : ReadsHead (start_of bytes) mid library.name library.units)
    (rest : ReadsStructures mid new library.structures) → IsLibrary (head.entries ++ (rest.entries ++ rest.last ∷ [])) library
library_of_parts bytes mid new library head rest =
    let parts : LibraryParts = parts_read head rest in
    let are = rest.are_structures in
    let place : mid.at ≡ behind 0 (library_head parts) = head.advances.takes.offset ∙ ap (λ (es : List Entry). behind 0 es) head.is_head.are_its in
    record {
      in_shape = record {
        library = parts;
        in_grammar = record {
          version = head.is_head.is_version;
          opens = head.is_head.opens;
          before_name = head.is_head.are_before_name;
          names = head.is_head.names;
          before_units = head.is_head.are_before_units;
          units = head.is_head.are_units;
          structures = are.in_grammar;
          ends = rest.is_last;
        };
        are_its = ap (λ (es : List Entry). es ++ (rest.entries ++ rest.last ∷ [])) head.is_head.are_its ∙ ap (λ (es : List Entry). library_head parts ++ (es ++ rest.last ∷ [])) are.are_theirs;
      };
      says = record {
        name = head.is_head.has_name;
        units = head.is_head.has_units;
        structures = subst (λ (n : ℕ). SayStructures n are.parts library.structures) place are.say;
      };
    }

-- the library that a reader read is that of the bytes
pub bytes_are_library : (bytes : List ℕ) (mid new : Reading) (library : Library) → AreBytes bytes → ReadsHead (start_of bytes) mid library.name library.units
    → ReadsStructures mid new library.structures → BytesComeTo bytes (value library)
bytes_are_library bytes mid new library are head rest =
    let (entries, end, split) = all_bytes_split 0 bytes are in
    let (others, parts, mid_left) = head.advances.takes.left entries end split in
    let (last, more_parts, new_left) = rest.advances.takes.left others end mid_left in
    let (none, is_whole) = rw rest.ended at new_left in
    let all : entries ≡ head.entries ++ (rest.entries ++ rest.last ∷ []) =
    parts ∙ ap (λ (x : List Entry). head.entries ++ x) (more_parts ∙ ap (λ (x : List Entry). (rest.entries ++ rest.last ∷ []) ++ x) none ∙ append-nil (rest.entries ++ rest.last ∷ [])) in
    let quiet : NoneShows (head.entries ++ (rest.entries ++ rest.last ∷ [])) = (rest.advances.stands head.entries (head.advances.stands [] (starts bytes))).none_shows in
    let whole_split : Splits 0 bytes (head.entries ++ (rest.entries ++ rest.last ∷ [])) whole =
    subst (λ (x : List Entry). Splits 0 bytes x whole) all (subst (λ (x : End). Splits 0 bytes entries x) is_whole split) in
    are_library whole_split quiet (library_of_parts bytes mid new library head rest)
