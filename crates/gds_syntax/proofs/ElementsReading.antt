-- How a reader goes through the elements of a structure.
use Rattle.std.proofs.Common.{IfSome, ◌≡◌, ◌≢◌, ℕ, ◌<◌, ◌≤◌, List, [], ◌∷◌, ◌++◌, length, refl, sym, ap, subst, ◌∙◌, Some, None, Option, arith, option_to_list, append_assoc, length-append}
use Rattle.lists.proofs.Words.{All-push, add-zero, ne_eqb, append-nil, All-nil, flat_map, flat_map-append}
use Rattle.gds_records.specs.declared.kinds.TheConstants as kind
use Rattle.library_grammar.specs.GrammarNames.{IsOfKind, Place, IsKept, Reading, entry_of, Entry, ElementForm, Opens, element_forms, ElementParts, element_records, IsElement, behind, SayElements, among_own, behind_strname, between_elements, between_structures, form_of, into_element, next_place, IsPlain}
use Rattle.gds_records.specs.declared.record.Record.{Record}
use Rattle.library_grammar.specs.Libraries.{no_more, one_more}
use Rattle.gds_syntax.specs.inside.LibraryReaders.{IsElementAt, AreElements, TakesRecord, standing, IsAt, IsFirstBehind, Advances, Stops, ReadsElement, ReadsElements, ReadsElementsSoFar}
use Rattle.library_model.specs.declared.element.Element.{Element}
use Rattle.library_grammar.specs.declared.fault.SyntaxFault.{SyntaxFault}
use Rattle.library_grammar.specs.declared.fault.SyntaxFault.TheVariants.{Unexpected}
use Rattle.library_grammar.proofs.laws.Forms.{found_form, plain, opening_is_plain}
use Rattle.gds_syntax.proofs.ReaderLaws.{Advances-none, Advances-append, advances_plain, advances_kind, stops_later, stops_there, stops_unexpected}
use Rattle.library_grammar.proofs.laws.NextRecords.{behind-append}

-- no element yet, behind the class of a structure or without one
begins_at : {old mid new : Reading} {found : Record} (class : Option Entry) (place : Place) → IfSome class (IsOfKind kind.STRCLASS) → next_place place found.kind ≡ into_element found.kind
    → ((names : List (List ℕ)) → Advances old mid (standing behind_strname names) (standing place names) (option_to_list class ++ [])) → TakesRecord mid new found → ReadsElementsSoFar old new [] found
begins_at {mid = mid} class place is_class is_between advances takes =
    record {
      between = mid;
      class = class;
      is_class = is_class;
      entries = [];
      are_elements = record { parts = []; in_grammar = All-nil IsElement; are_theirs = refl; say = no_more };
      few = omega arith;
      place = place;
      is_between = is_between;
      advances = advances;
      takes = takes;
    }

pub elements_begin : {old new : Reading} {found : Record} → TakesRecord old new found → found.kind ≢ kind.STRCLASS → ReadsElementsSoFar old new [] found
elements_begin {old = old} {found = found} takes other =
    begins_at None behind_strname tt (rw (ne_eqb found.kind kind.STRCLASS other) refl) (λ names. Advances-none old (standing behind_strname names)) takes

-- a structure with a class
pub class_further : {old mid : Reading} {class : Record} → TakesRecord old mid class → class.kind ≡ kind.STRCLASS → (names : List (List ℕ))
    → Advances old mid (standing behind_strname names) (standing between_elements names) (entry_of class ∷ [])
class_further takes is names = advances_kind kind.STRCLASS behind_strname between_elements names takes is refl (plain kind.STRCLASS refl)

pub elements_begin_behind_class : {old mid new : Reading} {class found : Record} → TakesRecord old mid class → class.kind ≡ kind.STRCLASS → TakesRecord mid new found
    → ReadsElementsSoFar old new [] found
elements_begin_behind_class {class = class} takes is more = begins_at (Some (entry_of class)) between_elements is refl (class_further takes is) more

-- a record that opens an element
pub opens : (k : ℕ) (form : ElementForm) → form_of k ≡ Some form → Opens k form
opens k form found =
    let (listed, opening) = found_form element_forms k form found in
    record { listed = listed; opening = opening }

-- where a reader found a record that opens an element
module _ {old mid : Reading} {elements : List Element} {found : Record} {form : ElementForm} (no_end : found.kind ≢ kind.ENDSTR) (is : form_of found.kind ≡ Some form)
    (so_far : ReadsElementsSoFar old mid elements found) where
  -- it goes on by it
  opening_step : (names : List (List ℕ)) → Advances so_far.between mid (standing so_far.place names) (standing (among_own form []) names) (entry_of found ∷ [])
  opening_step names =
      let next : next_place so_far.place found.kind ≡ Some (among_own form []) = so_far.is_between ∙ rw (ne_eqb found.kind kind.ENDSTR no_end, is) refl in
      let opened = opens found.kind form is in
      advances_plain (standing so_far.place names) (among_own form []) so_far.takes next (subst IsPlain (sym opened.opening) (opening_is_plain form opened.listed))

  -- and by the element
  pub element_further : {via : Reading} {kept : Option Element} (reads : ReadsElement mid via found form kept) (names : List (List ℕ)) → Advances old via (standing behind_strname names)
      (standing between_elements names) (option_to_list so_far.class ++ (so_far.entries ++ entry_of found ∷ reads.entries))
  element_further {via} reads names =
      let all = Advances-append (Advances-append (so_far.advances names) (opening_step names)) (reads.advances names) in
      subst (λ (x : List Entry). Advances old via (standing behind_strname names) (standing between_elements names) x) (simp append_assoc refl) all

  -- the fault of the element is the first of the stream
  pub element_fault_stops : (fault : SyntaxFault)
      → ((earlier : List Entry) (names : List (List ℕ)) → found.at ≡ behind 0 earlier → IsAt mid (earlier ++ entry_of found ∷ []) (standing (among_own form []) names)
      → IsFirstBehind (earlier ++ entry_of found ∷ []) mid fault)
      → (names : List (List ℕ)) → Stops old (standing behind_strname names) fault
  element_fault_stops fault stops names =
      stops_later (so_far.advances names) (λ before here. stops_there (opening_step names) here (stops before names (so_far.takes.place ∙ here.offset)))

-- an element more at the end
SayElements-snoc : (at : ℕ) (parts : List ElementParts) (elements : List Element) (one : ElementParts) (kept : Option Element) → SayElements at parts elements
    → IsKept (behind at (flat_map element_records parts)) one.own one.opening.kind kept → SayElements at (parts ++ one ∷ []) (elements ++ option_to_list kept)
SayElements-snoc at _ _ one kept no_more keeps =
    let here : IsKept at one.own one.opening.kind kept = subst (λ (n : ℕ). IsKept n one.own one.opening.kind kept) (add-zero at) keeps in
    subst (SayElements at (one ∷ [])) (append-nil (option_to_list kept)) (one_more here no_more)
SayElements-snoc at _ _ one kept (one_more {element = first} {others = others} {kept = of_first} {elements = elements} says rest) keeps =
    let there : IsKept (behind (behind at (element_records first)) (flat_map element_records others)) one.own one.opening.kind kept =
    subst (λ (n : ℕ). IsKept n one.own one.opening.kind kept) (behind-append at (element_records first) (flat_map element_records others)) keeps
    in
    subst (SayElements at (first ∷ (others ++ one ∷ []))) (sym (append_assoc (option_to_list of_first) elements (option_to_list kept)))
    (one_more says (SayElements-snoc (behind at (element_records first)) others elements one kept rest there))

AreElements-snoc : (at : ℕ) (entries more : List Entry) (elements : List Element) (kept : Option Element) → AreElements at entries elements → IsElementAt (behind at entries) more kept
    → AreElements at (entries ++ more) (elements ++ option_to_list kept)
AreElements-snoc at entries more elements kept are is =
    record {
      parts = are.parts ++ is.parts ∷ [];
      in_grammar = All-push IsElement are.parts is.parts are.in_grammar is.in_grammar;
      are_theirs = cc (are.are_theirs, is.are_its, flat_map-append element_records are.parts (is.parts ∷ []), append-nil (element_records is.parts));
      say = SayElements-snoc at are.parts elements is.parts kept are.say
          (subst (λ (es : List Entry). IsKept (behind at es) is.parts.own is.parts.opening.kind kept) are.are_theirs is.keeps);
    }

-- the element begins where those before it end
begins_there : {old mid : Reading} {elements : List Element} {found : Record} (so_far : ReadsElementsSoFar old mid elements found)
    → found.at ≡ behind (behind old.at (option_to_list so_far.class)) so_far.entries
begins_there {old = old} so_far =
    so_far.takes.place ∙ (so_far.advances []).takes.offset ∙ behind-append old.at (option_to_list so_far.class) so_far.entries

-- a reader does not go back
pub forward : (old new : Reading) (taken : List Entry) → new.at ≡ behind old.at taken → old.at ≤ new.at
forward old new taken offset = omega (arith, offset)

-- things that are read are fewer than bytes
pub few_more : {X : Type 0} (things : List X) (more : Option X) (a b c : ℕ) → length things ≤ a → a < b → b ≤ c → length (things ++ option_to_list more) ≤ c
few_more things None a b c few further on = omega (arith, length-append things [])
few_more things (Some thing) a b c few further on = omega (arith, length-append things (thing ∷ []))

-- one element more
pub elements_go_on : {old mid via new : Reading} {elements : List Element} {found next : Record} {form : ElementForm} {kept : Option Element} → found.kind ≢ kind.ENDSTR
    → form_of found.kind ≡ Some form
    → ReadsElementsSoFar old mid elements found → ReadsElement mid via found form kept → TakesRecord via new next → ReadsElementsSoFar old new (elements ++ option_to_list kept) next
elements_go_on {old = old} {mid = mid} {via = via} {elements = elements} {found = found} {kept = kept} no_end is so_far reads takes =
    record {
      between = via;
      class = so_far.class;
      is_class = so_far.is_class;
      entries = so_far.entries ++ entry_of found ∷ reads.entries;
      are_elements = AreElements-snoc (behind old.at (option_to_list so_far.class)) so_far.entries (entry_of found ∷ reads.entries) elements kept so_far.are_elements
          (subst (λ (o : ℕ). IsElementAt o (entry_of found ∷ reads.entries) kept) (begins_there so_far) reads.is_element);
      few = few_more elements kept so_far.between.at mid.at via.at so_far.few so_far.takes.further (forward mid via reads.entries ((reads.advances []).takes.offset));
      place = between_elements;
      is_between = refl;
      advances = element_further no_end is so_far reads;
      takes = takes;
    }

-- a record that opens no element
pub elements_stop : {old new : Reading} {elements : List Element} {found : Record} → found.kind ≢ kind.ENDSTR → form_of found.kind ≡ None
    → ReadsElementsSoFar old new elements found → (names : List (List ℕ))
    → Stops old (standing behind_strname names) (Unexpected found.at found.kind)
elements_stop {found = found} no_end opens_none so_far names =
    let none : next_place so_far.place found.kind ≡ None = so_far.is_between ∙ rw (ne_eqb found.kind kind.ENDSTR no_end, opens_none) refl in
    stops_later (so_far.advances names) (stops_unexpected (standing so_far.place names) so_far.takes none)

-- the end of the structure
pub elements_end : {old new : Reading} {elements : List Element} {found : Record} → found.kind ≡ kind.ENDSTR → ReadsElementsSoFar old new elements found → ReadsElements old new elements
elements_end {found = found} is so_far =
    let next : next_place so_far.place found.kind ≡ Some between_structures = so_far.is_between ∙ ap into_element is in
    record {
      class = so_far.class;
      is_class = so_far.is_class;
      entries = so_far.entries;
      are_elements = so_far.are_elements;
      last = entry_of found;
      is_last = is;
      few = omega (arith, so_far.few, so_far.takes.further);
      advances = λ names.
          Advances-append (so_far.advances names)
          (advances_plain (standing so_far.place names) between_structures so_far.takes next (subst IsPlain (sym is) (plain kind.ENDSTR refl)));
      ready = so_far.takes.ready (λ same. omega (arith, is, same));
    }
