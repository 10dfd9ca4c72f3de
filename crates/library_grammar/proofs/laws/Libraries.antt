-- Bytes come to one library or one fault, and to one of them in any case. The names of a library's structures differ, since a record
-- that names one again would show a fault, and its shapes have their points, since an element without them would show one.
use Rattle.std.proofs.Common.{ℕ, suc, List, [], length, arith, sym, ap, subst, ◌∷◌}
use Rattle.library_grammar.specs.GrammarNames.{AreBytes, CannotLack, refused, at_record, BytesComeTo, have_fault, IsUnique, value, Entry, whole, IsFirstFault, are_library, IsLibrary, AreDifferent}
use Rattle.library_grammar.specs.GrammarNames.{library_head, behind, names_of, AreWellPointed}
use Rattle.gds_records.proofs.laws.Splits.{has_split, splits_agree}
use Rattle.library_grammar.specs.declared.fault.SyntaxFault.{SyntaxFault}
use Rattle.library_model.specs.declared.library.Library.{Library}
use Rattle.library_grammar.proofs.LibraryThere.{none_shows, nothing_shows, split_comes_to_something}
use Rattle.library_grammar.proofs.FaultsAgree.{first_faults_agree, no_fault_of_library}
use Rattle.library_grammar.proofs.SayingsAgree.{libraries_of_records_agree}
use Rattle.library_grammar.proofs.LibraryFacts.{all_differ, structures_pointed}

pub bytes_come_to_something : (bytes : List ℕ) → AreBytes bytes → CannotLack (BytesComeTo bytes)
bytes_come_to_something bytes are refuted =
    let found = has_split (suc (length bytes)) 0 bytes (omega arith) are in
    split_comes_to_something bytes found.0 found.1 found.2
    (none_shows [] found.0 nothing_shows
    (λ front back e fault parts none shown. refuted (refused fault) (have_fault found.2 (at_record front back e parts none shown))))
    refuted

pub libraries_agree : (bytes : List ℕ) → IsUnique (BytesComeTo bytes)
libraries_agree bytes _ _ (are_library {entries = es} {library = one} split none is) (are_library {entries = es'} {library = other} split' none' is') =
    let entries = (splits_agree es 0 bytes es' whole whole split split').0 in
    ap (λ (l : Library). value l) (libraries_of_records_agree es one other is (subst (λ (xs : List Entry). IsLibrary xs other) (sym entries) is'))
libraries_agree bytes _ _ (are_library {entries = es} split none is) (have_fault {entries = es'} {end = end} {fault = fault} split' first) =
    let same = splits_agree es 0 bytes es' whole end split split' in
    absurd (no_fault_of_library es end fault (sym same.1) none (subst (λ (xs : List Entry). IsFirstFault xs end fault) (sym same.0) first))
libraries_agree bytes _ _ (have_fault {entries = es'} {end = end} {fault = fault} split' first) (are_library {entries = es} split none is) =
    let same = splits_agree es 0 bytes es' whole end split split' in
    absurd (no_fault_of_library es end fault (sym same.1) none (subst (λ (xs : List Entry). IsFirstFault xs end fault) (sym same.0) first))
libraries_agree bytes _ _ (have_fault {entries = es} {end = end} {fault = fault} split first) (have_fault {entries = es'} {end = end'} {fault = other} split' first') =
    let same = splits_agree es 0 bytes es' end end' split split' in
    ap (λ (f : SyntaxFault). refused f)
    (first_faults_agree es end end' fault other same.1 first (subst (λ (xs : List Entry). IsFirstFault xs end' other) (sym same.0) first'))

pub library_names_differ : (bytes : List ℕ) (library : Library) → BytesComeTo bytes (value library) → AreDifferent (names_of library.structures)
library_names_differ bytes library (are_library {entries = entries} split none is) =
    let l = is.in_shape.library in
    all_differ entries (library_head l) (l.last ∷ []) (behind 0 (library_head l)) l.structures library.structures none is.in_shape.are_its is.in_shape.in_grammar.structures is.says.structures

pub library_is_pointed : (bytes : List ℕ) (library : Library) → BytesComeTo bytes (value library) → AreWellPointed library.structures
library_is_pointed bytes library (are_library {entries = entries} split none is) =
    let l = is.in_shape.library in
    structures_pointed entries is.in_shape none _ (library_head l) (l.last ∷ []) l.structures library.structures is.in_shape.are_its is.in_shape.in_grammar.structures is.says.structures
