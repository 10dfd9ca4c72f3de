-- How a reader goes through a structure and its name.
use Rattle.std.proofs.Common.{◌≡◌, ℕ, ◌≤◌, List, [], ◌∷◌, ◌++◌, length, sym, ap, subst, ◌∙◌, arith, Contains, option_to_list, append_assoc}
use Rattle.library_grammar.specs.GrammarNames.{IsText, Reading, entry_of, Entry, repeats, behind, SayElements, before_strname, behind_strname, next_place, IsOfKind}
use Rattle.gds_records.specs.declared.kinds.TheConstants as kind
use Rattle.gds_records.specs.declared.record.Record.{Record}
use Rattle.gds_syntax.specs.inside.LibraryReaders.{TakesRecord, standing, Advances, Stops, ReadsElements, ReadsStructure}
use Rattle.library_model.specs.declared.element.Element.{Element}
use Rattle.library_grammar.specs.declared.fault.SyntaxFault.TheVariants.{RepeatedStructure}
use Rattle.library_model.specs.declared.library.Structure.{Structure}
use Rattle.gds_syntax.proofs.ElementsReading.{forward}
use Rattle.library_grammar.proofs.laws.Places.{may_stand}
use Rattle.gds_syntax.proofs.ReaderLaws.{Advances-append, IsAt-snoc, stops_showing}
use Rattle.library_grammar.proofs.laws.NextRecords.{behind-append, AreNamesIn-named, new_name_is_quiet}

-- a reader goes on by the name of a structure
pub name_further : {old mid : Reading} {found : Record} (names : List (List ℕ)) (text : List ℕ) → TakesRecord old mid found → found.kind ≡ kind.STRNAME → IsText found.body.now text
    → (Contains names text → ⊥) → Advances old mid (standing before_strname names) (standing behind_strname (names ++ text ∷ [])) (entry_of found ∷ [])
name_further {found = found} names text takes is is_text fresh =
    record {
      takes = takes.takes;
      stands = λ before here. IsAt-snoc (standing before_strname names) (standing behind_strname (names ++ text ∷ [])) before takes (ap (next_place before_strname) is) here
          (λ fault. new_name_is_quiet before (entry_of found) names text fault here.place is is_text fresh here.names) (AreNamesIn-named before (entry_of found) names text is is_text here.names);
    }

-- a name that a structure has already
pub name_stops : {old mid : Reading} {found : Record} (names : List (List ℕ)) (text : List ℕ) → TakesRecord old mid found → found.kind ≡ kind.STRNAME → IsText found.body.now text → Contains names text
    → Stops old (standing before_strname names) (RepeatedStructure found.at)
name_stops {found = found} names text takes is is_text known before here =
    let may = may_stand before (entry_of found) before_strname behind_strname here.place (ap (next_place before_strname) is) in
    rw (takes.place ∙ here.offset) (stops_showing takes here (repeats may is is_text ((here.names text).0 known)))

-- a structure
pub structure_read : {old mid new : Reading} (opening : Record) {found : Record} (names : List (List ℕ)) (text : List ℕ) {elements : List Element} (structure : Structure)
    → IsOfKind kind.BGNSTR (entry_of opening) → old.at ≡ behind opening.at (entry_of opening ∷ []) → TakesRecord old mid found → found.kind ≡ kind.STRNAME
    → IsText found.body.now text → (Contains names text → ⊥)
    → ReadsElements mid new elements → structure.at ≡ opening.at → structure.name ≡ text → structure.elements ≡ elements → ReadsStructure old new names (names ++ text ∷ []) opening structure
structure_read {mid = mid} {new = new} opening {found = found} names text {elements = elements} structure opens begins takes is is_text fresh reads place has_name has_elements =
    let class : List Entry = option_to_list reads.class in
    let named = behind-append (behind opening.at (entry_of opening ∷ [])) (entry_of found ∷ []) class in
    let opened = behind-append opening.at (entry_of opening ∷ []) (entry_of found ∷ class) in
    let at_elements : behind mid.at class ≡ behind opening.at (entry_of opening ∷ entry_of found ∷ class) = omega (arith, takes.takes.offset) in
    record {
      entries = entry_of found ∷ (option_to_list reads.class ++ reads.entries ++ reads.last ∷ []);
      is_structure = record {
        parts = record { opening = entry_of opening; name = entry_of found; class = reads.class; elements = reads.are_elements.parts; last = reads.last };
        in_grammar = record { opens = opens; names = is; class = reads.is_class; elements = reads.are_elements.in_grammar; ends = reads.is_last };
        are_its = cc (append_assoc class reads.entries (reads.last ∷ []), reads.are_elements.are_theirs);
        says = record {
          place = place;
          name = subst (λ (n : List ℕ). IsText found.body.now n) (sym has_name) is_text;
          elements = subst (λ (es : List Element). SayElements (behind opening.at (entry_of opening ∷ entry_of found ∷ class)) reads.are_elements.parts es) (sym has_elements)
              (subst (λ (at : ℕ). SayElements at reads.are_elements.parts elements) at_elements reads.are_elements.say);
        };
      };
      few = subst (λ (es : List Element). length es ≤ new.at) (sym has_elements) reads.few;
      named = ap (λ (n : List ℕ). names ++ n ∷ []) (sym has_name);
      further = omega (arith, takes.further, forward mid new (option_to_list reads.class ++ reads.entries ++ reads.last ∷ []) ((reads.advances names).takes.offset));
      advances = Advances-append (name_further names text takes is is_text fresh) (reads.advances (names ++ text ∷ []));
      ready = reads.ready;
    }
