-- How a reader goes through the own records of an element.
use Rattle.std.proofs.Common.{◌≡◌, ◌≢◌, ℕ, List, [], ◌∷◌, ◌++◌, refl, sym, subst, ◌∙◌, Bool, true, false, true≢false, Some, None, arith, Contains}
use Rattle.lists.proofs.Words.{All-push, ne_eqb, map-append, All-nil}
use Rattle.library_grammar.specs.GrammarNames.{AreDifferent, Reading, entry_of, Entry, ElementForm, element_forms, own_kinds, among_own, has_kind, next_place, out_of_element, kinds_of}
use Rattle.lists.proofs.Differing.{different_more}
use Rattle.gds_records.specs.declared.kinds.TheConstants as kind
use Rattle.gds_records.specs.declared.record.Record.{Record}
use Rattle.gds_syntax.specs.ElementKinds.{form_for}
use Rattle.gds_syntax.specs.inside.LibraryReaders.{TakesRecord, standing, Advances, Stops, ReadsOwnSoFar, IsReady}
use Rattle.gds_syntax.specs.declared.element_kind.ElementKind.{ElementKind}
use Rattle.gds_syntax.specs.declared.element_kind.ElementKind.TheVariants.{Boundary, Path, Sref, Aref, Text, Node, BoxElement}
use Rattle.library_grammar.specs.declared.fault.SyntaxFault.TheVariants.{Unexpected}
use Rattle.library_grammar.proofs.laws.Forms.{own_ends_no_library, contains_kind, has_contained, own_is_plain}
use Rattle.gds_syntax.proofs.ReaderLaws.{is_false, Advances-none, Advances-append, advances_plain, stops_later, stops_unexpected}

-- the kinds of one record more
kinds_and_one : (own : List Entry) (e : Entry) → kinds_of (own ++ e ∷ []) ≡ kinds_of own ++ e.kind ∷ []
kinds_and_one own e = map-append (λ (x : Entry). x.kind) own (e ∷ [])

-- the form of an element is one of the forms
form_listed : (element : ElementKind) → Contains element_forms (form_for element)
form_listed Boundary = (0, omega arith, refl)
form_listed Path = (1, omega arith, refl)
form_listed Sref = (2, omega arith, refl)
form_listed Aref = (3, omega arith, refl)
form_listed Text = (4, omega arith, refl)
form_listed Node = (5, omega arith, refl)
form_listed BoxElement = (6, omega arith, refl)

-- no own record yet
pub own_begins : {old new : Reading} (form : ElementForm) {found : Record} → TakesRecord old new found → ReadsOwnSoFar old new form [] found
own_begins {old = old} form takes =
    record {
      between = old;
      are_own = All-nil (λ e. Contains (own_kinds form) e.kind);
      once = λ i j d before within. absurd (omega arith);
      advances = λ names. Advances-none old (standing (among_own form []) names);
      takes = takes;
    }

-- behind an own record the stream goes on
pub own_is_ready : {old new : Reading} (element : ElementKind) {own : List Entry} {found : Record} → Contains (own_kinds (form_for element)) found.kind
    → ReadsOwnSoFar old new (form_for element) own found → IsReady new
own_is_ready element {found = found} owned so_far = so_far.takes.ready (own_ends_no_library (form_for element) (form_listed element) found.kind owned)

-- the reader goes on by an own record that the element has not yet
pub own_further : {old mid : Reading} (element : ElementKind) {own : List Entry} {found : Record} → Contains (own_kinds (form_for element)) found.kind
    → (Contains (kinds_of own) found.kind → ⊥) → ReadsOwnSoFar old mid (form_for element) own found → (names : List (List ℕ))
    → Advances old mid (standing (among_own (form_for element) []) names) (standing (among_own (form_for element) (kinds_of (own ++ entry_of found ∷ []))) names) (own ++ entry_of found ∷ [])
own_further element {own = own} {found = found} owned fresh so_far names =
    let form : ElementForm = form_for element in
    let next : next_place (among_own form (kinds_of own)) found.kind ≡ Some (among_own form (kinds_of own ++ found.kind ∷ [])) =
    rw (has_contained (own_kinds form) found.kind owned, is_false (has_kind (kinds_of own) found.kind) (λ has. fresh (contains_kind (kinds_of own) found.kind has))) refl in
    let one = advances_plain (standing (among_own form (kinds_of own)) names) (among_own form (kinds_of own ++ found.kind ∷ [])) so_far.takes next
    (own_is_plain form (form_listed element) found.kind owned) in
    rw (kinds_and_one own (entry_of found)) (Advances-append (so_far.advances names) one)

-- one own record more
pub own_goes_on : {old mid new : Reading} (element : ElementKind) {own : List Entry} {found next : Record} → Contains (own_kinds (form_for element)) found.kind
    → (Contains (kinds_of own) found.kind → ⊥) → ReadsOwnSoFar old mid (form_for element) own found → TakesRecord mid new next
    → ReadsOwnSoFar old new (form_for element) (own ++ entry_of found ∷ []) next
own_goes_on {mid = mid} element {own = own} {found = found} owned fresh so_far takes =
    record {
      between = mid;
      are_own = All-push (λ e. Contains (own_kinds (form_for element)) e.kind) own (entry_of found) so_far.are_own owned;
      once = subst AreDifferent (sym (kinds_and_one own (entry_of found))) (different_more (kinds_of own) found.kind so_far.once fresh);
      advances = own_further element owned fresh so_far;
      takes = takes;
    }

-- a record that is no own one, or one that the element has, leads out of the element if anywhere
own_leaves : (form : ElementForm) (own : List ℕ) (k : ℕ) → (Contains (own_kinds form) k → (Contains own k → ⊥) → ⊥) → next_place (among_own form own) k ≡ out_of_element k
own_leaves form own k leaves = by (has_kind (own_kinds form) k) (has_kind own k) refl refl
  where
    by : (owned had : Bool) → has_kind (own_kinds form) k ≡ owned → has_kind own k ≡ had → next_place (among_own form own) k ≡ out_of_element k
    by false had foreign _ = rw foreign refl
    by true true is_own known = rw (is_own, known) refl
    by true false is_own fresh = absurd (leaves (contains_kind (own_kinds form) k is_own) (λ has. true≢false (sym (has_contained own k has) ∙ fresh)))

-- and stops the reader unless it is PROPATTR or ENDEL
pub own_stops : {old new : Reading} {form : ElementForm} {own : List Entry} {found : Record} → (Contains (own_kinds form) found.kind → (Contains (kinds_of own) found.kind → ⊥) → ⊥)
    → found.kind ≢ kind.PROPATTR → found.kind ≢ kind.ENDEL → ReadsOwnSoFar old new form own found → (names : List (List ℕ))
    → Stops old (standing (among_own form []) names) (Unexpected found.at found.kind)
own_stops {form = form} {own = own} {found = found} leaves no_attribute no_end so_far names =
    let none : out_of_element found.kind ≡ None = rw (ne_eqb found.kind kind.PROPATTR no_attribute, ne_eqb found.kind kind.ENDEL no_end) refl in
    stops_later (so_far.advances names)
    (stops_unexpected (standing (among_own form (kinds_of own)) names) so_far.takes (own_leaves form (kinds_of own) found.kind leaves ∙ none))
