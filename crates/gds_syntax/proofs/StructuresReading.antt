-- How a reader goes through the structures of a library.
use Rattle.std.proofs.Common.{◌≡◌, ◌≢◌, ℕ, ◌≤◌, List, [], ◌∷◌, ◌++◌, length, refl, sym, ap, subst, ◌∙◌, Some, None, arith, append_assoc}
use Rattle.lists.proofs.Words.{All-push, add-zero, ne_eqb, append-nil, length-map, map-append, All-nil, flat_map, flat_map-append}
use Rattle.gds_records.specs.declared.kinds.TheConstants as kind
use Rattle.library_grammar.specs.GrammarNames.{Reading, entry_of, Entry, StructureParts, structure_records, IsStructure, behind, SaysStructure, SayStructures, between_structures, before_strname, behind_endlib, next_place}
use Rattle.gds_records.specs.declared.record.Record.{Record}
use Rattle.library_grammar.specs.Libraries.{no_more, one_more}
use Rattle.gds_syntax.specs.inside.LibraryReaders.{IsStructureAt, AreStructures, TakesRecord, standing, Advances, Stops, IsReady, ReadsStructure, ReadsStructures, ReadsStructuresSoFar}
use Rattle.gds_syntax.specs.StreamLimits.{most_bytes}
use Rattle.library_grammar.specs.declared.fault.SyntaxFault.TheVariants.{Unexpected}
use Rattle.library_model.specs.declared.library.Structure.{Structure}
use Rattle.gds_syntax.proofs.ElementsReading.{few_more, forward}
use Rattle.library_grammar.proofs.laws.Forms.{plain}
use Rattle.gds_syntax.proofs.ReaderLaws.{Advances-none, Advances-append, advances_kind, stops_later, stops_unexpected}
use Rattle.library_grammar.proofs.laws.NextRecords.{behind-append}

-- no structure yet
pub structures_begin : {old new : Reading} {found : Record} → TakesRecord old new found → ReadsStructuresSoFar old new [] [] found
structures_begin {old = old} takes =
    record {
      between = old;
      entries = [];
      are_structures = record { parts = []; in_grammar = All-nil IsStructure; are_theirs = refl; say = no_more };
      few_structures = omega arith;
      few_elements = All-nil (λ structure. length structure.elements ≤ most_bytes);
      are_names = refl;
      advances = Advances-none old (standing between_structures []);
      takes = takes;
    }

-- a reader goes on by BGNSTR
pub structure_begins : {old mid : Reading} {structures : List Structure} {names : List (List ℕ)} {found : Record} → found.kind ≡ kind.BGNSTR
    → (so_far : ReadsStructuresSoFar old mid structures names found) → Advances old mid (standing between_structures []) (standing before_strname names) (so_far.entries ++ entry_of found ∷ [])
structure_begins {names = names} is so_far =
    Advances-append so_far.advances (advances_kind kind.BGNSTR between_structures before_strname names so_far.takes is refl (plain kind.BGNSTR refl))

-- and by the structure
pub structure_further : {old mid via : Reading} {structures : List Structure} {names more : List (List ℕ)} {found : Record} {structure : Structure} → found.kind ≡ kind.BGNSTR
    → (so_far : ReadsStructuresSoFar old mid structures names found) → (reads : ReadsStructure mid via names more found structure)
    → Advances old via (standing between_structures []) (standing between_structures more) (so_far.entries ++ entry_of found ∷ reads.entries)
structure_further {old = old} {via = via} {more = more} {found = found} is so_far reads =
    let all = Advances-append (structure_begins is so_far) reads.advances in
    subst (λ (x : List Entry). Advances old via (standing between_structures []) (standing between_structures more) x) (append_assoc so_far.entries (entry_of found ∷ []) reads.entries) all

-- a structure more at the end
SayStructures-snoc : (at : ℕ) (parts : List StructureParts) (structures : List Structure) (one : StructureParts) (structure : Structure) → SayStructures at parts structures
    → SaysStructure (behind at (flat_map structure_records parts)) one structure → SayStructures at (parts ++ one ∷ []) (structures ++ structure ∷ [])
SayStructures-snoc at _ _ one structure no_more says = one_more (subst (λ (n : ℕ). SaysStructure n one structure) (add-zero at) says) no_more
SayStructures-snoc at _ _ one structure (one_more {parts = first} {others = others} {structures = structures} of_first rest) says =
    one_more of_first (SayStructures-snoc (behind at (structure_records first)) others structures one structure rest
    (subst (λ (n : ℕ). SaysStructure n one structure) (behind-append at (structure_records first) (flat_map structure_records others)) says))

AreStructures-snoc : (at : ℕ) (entries more : List Entry) (structures : List Structure) (structure : Structure) → AreStructures at entries structures
    → IsStructureAt (behind at entries) more structure → AreStructures at (entries ++ more) (structures ++ structure ∷ [])
AreStructures-snoc at entries more structures structure are is =
    record {
      parts = are.parts ++ is.parts ∷ [];
      in_grammar = All-push IsStructure are.parts is.parts are.in_grammar is.in_grammar;
      are_theirs = cc (are.are_theirs, is.are_its, flat_map-append structure_records are.parts (is.parts ∷ []), append-nil (structure_records is.parts));
      say = SayStructures-snoc at are.parts structures is.parts structure are.say
          (subst (λ (es : List Entry). SaysStructure (behind at es) is.parts structure) are.are_theirs is.says);
    }

-- names of structures are fewer than bytes
pub few_names : {old new : Reading} {structures : List Structure} {names : List (List ℕ)} {found : Record} → ReadsStructuresSoFar old new structures names found → length names ≤ new.at
few_names {structures = structures} so_far = omega (arith, ap length so_far.are_names, length-map structures (λ (s : Structure). s.name), so_far.few_structures, so_far.takes.further)

-- one structure more
pub structures_go_on : {old mid via new : Reading} {structures : List Structure} {names more : List (List ℕ)} {found next : Record} {structure : Structure} → found.kind ≡ kind.BGNSTR
    → ReadsStructuresSoFar old mid structures names found → ReadsStructure mid via names more found structure → TakesRecord via new next
    → ReadsStructuresSoFar old new (structures ++ structure ∷ []) more next
structures_go_on {old = old} {mid = mid} {via = via} {structures = structures} {found = found} {structure = structure} is so_far reads takes =
    let begins : found.at ≡ behind old.at so_far.entries = so_far.takes.place ∙ so_far.advances.takes.offset in
    record {
      between = via;
      entries = so_far.entries ++ entry_of found ∷ reads.entries;
      are_structures = AreStructures-snoc old.at so_far.entries (entry_of found ∷ reads.entries) structures structure so_far.are_structures
          (subst (λ (o : ℕ). IsStructureAt o (entry_of found ∷ reads.entries) structure) begins reads.is_structure);
      few_structures = few_more structures (Some structure) so_far.between.at mid.at via.at so_far.few_structures so_far.takes.further (forward mid via reads.entries reads.advances.takes.offset);
      few_elements = All-push (λ s. length s.elements ≤ most_bytes) structures structure so_far.few_elements (omega (arith, reads.few, reads.ready.within, reads.ready.short));
      are_names = reads.named ∙ ap (λ (x : List (List ℕ)). x ++ structure.name ∷ []) so_far.are_names ∙ sym (map-append (λ (s : Structure). s.name) structures (structure ∷ []));
      advances = structure_further is so_far reads;
      takes = takes;
    }

-- a record that is neither BGNSTR nor ENDLIB
pub structures_stop : {old new : Reading} {structures : List Structure} {names : List (List ℕ)} {found : Record} → found.kind ≢ kind.BGNSTR → found.kind ≢ kind.ENDLIB
    → ReadsStructuresSoFar old new structures names found → Stops old (standing between_structures []) (Unexpected found.at found.kind)
structures_stop {names = names} {found = found} no_structure no_end so_far =
    let none : next_place between_structures found.kind ≡ None = rw (ne_eqb found.kind kind.BGNSTR no_structure, ne_eqb found.kind kind.ENDLIB no_end) refl in
    stops_later so_far.advances (stops_unexpected (standing between_structures names) so_far.takes none)

-- the end of the library
pub structures_end : {old new : Reading} {structures : List Structure} {names : List (List ℕ)} {found : Record} → found.kind ≡ kind.ENDLIB → IsReady old
    → ReadsStructuresSoFar old new structures names found → ReadsStructures old new structures
structures_end {new = new} {names = names} {found = found} is ready so_far =
    let short : length new.bytes ≤ most_bytes = subst (λ (bytes : List ℕ). length bytes ≤ most_bytes) (sym (so_far.takes.bytes ∙ so_far.advances.takes.bytes)) ready.short in
    let last_step = advances_kind kind.ENDLIB between_structures behind_endlib names so_far.takes is refl (plain kind.ENDLIB refl) in
    record {
      entries = so_far.entries;
      are_structures = so_far.are_structures;
      last = entry_of found;
      is_last = is;
      few_structures = omega (arith, so_far.few_structures, so_far.takes.further, so_far.takes.within, short);
      few_elements = so_far.few_elements;
      advances = rw (← so_far.are_names) (Advances-append so_far.advances last_step);
      ended = so_far.takes.ends.1 is;
    }
