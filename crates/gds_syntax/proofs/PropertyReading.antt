-- How a reader goes through the properties of an element.
use Rattle.std.proofs.Common.{◌∙◌, ◌==◌, false, ◌≡◌, ◌≢◌, ℕ, List, [], ◌∷◌, ◌++◌, refl, sym, ap, subst, Some, None, arith, append_assoc}
use Rattle.lists.proofs.Words.{eqb-false, All-push, ne_eqb, flat_map, flat_map-append, All-nil}
use Rattle.gds_records.specs.declared.kinds.TheConstants as kind
use Rattle.library_grammar.specs.GrammarNames.{Reading, entry_of, Entry, ElementForm, Shows, may_not_stand, repeats, is_faulty, EndsOwnRecords, kinds_of, Property, property_records, IsProperty, Place, before_header, among_own, behind_attribute, behind_property, between_elements, next_place, place_behind}
use Rattle.gds_records.specs.declared.record.Record.{Record}
use Rattle.gds_syntax.specs.inside.LibraryReaders.{TakesRecord, standing, Advances, Stops, ReadsPropertiesSoFar, ReadsProperties}
use Rattle.library_grammar.specs.declared.fault.SyntaxFault.{SyntaxFault}
use Rattle.library_grammar.specs.declared.fault.SyntaxFault.TheVariants.{Unexpected}
use Rattle.library_grammar.proofs.laws.Places.{own_place, may_stand}
use Rattle.library_grammar.proofs.laws.Forms.{plain}
use Rattle.gds_syntax.proofs.ReaderLaws.{Advances-append, advances_by, advances_kind, stops_later, stops_unexpected}

-- no own records end behind a property
behind_property_ends_none : (before : List Entry) (e : Entry) (at : ℕ) (form : ElementForm) (own : List Entry) → place_behind before_header (kinds_of before) ≡ Some behind_property
    → EndsOwnRecords before e at form own → ⊥
behind_property_ends_none before e at form own here ends =
    let there : place_behind before_header (kinds_of (ends.earlier ++ ends.opening ∷ own)) ≡ Some behind_property =
    subst (λ (x : List Entry). place_behind before_header (kinds_of x) ≡ Some behind_property) ends.parts here in
    let same : behind_property ≡ among_own form (kinds_of own) = own_place ends.earlier own ends.opening form behind_property ends.opens ends.are_own there in
    cc

-- so a record that may stand there and names no structure shows no fault
pub behind_property_is_quiet : (before : List Entry) (e : Entry) (to : Place) (fault : SyntaxFault) → place_behind before_header (kinds_of before) ≡ Some behind_property
    → next_place behind_property e.kind ≡ Some to → e.kind ≢ kind.STRNAME → Shows before e fault → ⊥
behind_property_is_quiet before e to fault here next other (may_not_stand may_not) = may_not (may_stand before e behind_property to here next)
behind_property_is_quiet before e to fault here next other (repeats may names is_text in_before) = other names
behind_property_is_quiet before e to fault here next other (is_faulty {at} {form} {own} may ends fails) = behind_property_ends_none before e at form own here ends

-- the value of the first property
pub properties_begin : {old mid new : Reading} {text next : Record} → TakesRecord old mid text → text.kind ≡ kind.PROPVALUE → TakesRecord mid new next → ReadsPropertiesSoFar old new next
properties_begin {mid = mid} {text = text} takes is_text more =
    record {
      between = mid;
      text = entry_of text;
      is_text = is_text;
      properties = [];
      are_properties = All-nil IsProperty;
      advances = λ names. advances_kind kind.PROPVALUE behind_attribute behind_property names takes is_text refl (plain kind.PROPVALUE refl);
      takes = more;
    }

-- the reader goes on by a record that may stand behind a property and names no structure
behind_it : {old mid : Reading} {found : Record} (k : ℕ) (to : Place) → found.kind ≡ k → (k == kind.STRNAME) ≡ false → next_place behind_property k ≡ Some to
    → (so_far : ReadsPropertiesSoFar old mid found) → (names : List (List ℕ))
    → Advances old mid (standing behind_attribute names) (standing to names) (so_far.text ∷ (flat_map property_records so_far.properties ++ entry_of found ∷ []))
behind_it {found = found} k to is other leads so_far names =
    let next : next_place behind_property found.kind ≡ Some to = ap (next_place behind_property) is ∙ leads in
    let no_name : found.kind ≢ kind.STRNAME = λ same. eqb-false k kind.STRNAME other (sym is ∙ same) in
    Advances-append (so_far.advances names) (advances_by (standing behind_property names) to so_far.takes next no_name
    (λ before here fault. behind_property_is_quiet before (entry_of found) to fault here.place next no_name))

-- by the attribute of one property more
pub attribute_further : {old mid : Reading} {found : Record} → found.kind ≡ kind.PROPATTR → (so_far : ReadsPropertiesSoFar old mid found) → (names : List (List ℕ))
    → Advances old mid (standing behind_attribute names) (standing behind_attribute names) (so_far.text ∷ (flat_map property_records so_far.properties ++ entry_of found ∷ []))
attribute_further is = behind_it kind.PROPATTR behind_attribute is refl refl

-- and by its value
pub property_further : {old mid via : Reading} {found text : Record} → found.kind ≡ kind.PROPATTR → (so_far : ReadsPropertiesSoFar old mid found) → TakesRecord mid via text
    → text.kind ≡ kind.PROPVALUE → (names : List (List ℕ))
    → Advances old via (standing behind_attribute names) (standing behind_property names) (so_far.text ∷ (flat_map property_records so_far.properties ++ entry_of found ∷ entry_of text ∷ []))
property_further {old = old} {via = via} {found = found} {text = text} is so_far takes is_text names =
    let all = Advances-append (attribute_further is so_far names)
    (advances_kind kind.PROPVALUE behind_attribute behind_property names takes is_text refl (plain kind.PROPVALUE refl)) in
    subst (λ (x : List Entry). Advances old via (standing behind_attribute names) (standing behind_property names) x)
    (append_assoc (so_far.text ∷ flat_map property_records so_far.properties) (entry_of found ∷ []) (entry_of text ∷ [])) all

-- one property more
pub properties_go_on : {old mid via new : Reading} {found text next : Record} → found.kind ≡ kind.PROPATTR → ReadsPropertiesSoFar old mid found → TakesRecord mid via text
    → text.kind ≡ kind.PROPVALUE → TakesRecord via new next → ReadsPropertiesSoFar old new next
properties_go_on {old = old} {via = via} {found = found} {text = text} is so_far takes is_text more =
    let one : Property = record { attribute = entry_of found; text = entry_of text } in
    record {
      between = via;
      text = so_far.text;
      is_text = so_far.is_text;
      properties = so_far.properties ++ one ∷ [];
      are_properties = All-push IsProperty so_far.properties one so_far.are_properties (record { attribute = is; text = is_text });
      advances = λ names.
          rw (flat_map-append property_records so_far.properties (one ∷ [])) (property_further is so_far takes is_text names);
      takes = more;
    }

-- neither PROPATTR nor ENDEL
pub properties_stop : {old new : Reading} {found : Record} → found.kind ≢ kind.PROPATTR → found.kind ≢ kind.ENDEL → ReadsPropertiesSoFar old new found → (names : List (List ℕ))
    → Stops old (standing behind_attribute names) (Unexpected found.at found.kind)
properties_stop {found = found} no_attribute no_end so_far names =
    let none : next_place behind_property found.kind ≡ None = rw (ne_eqb found.kind kind.PROPATTR no_attribute, ne_eqb found.kind kind.ENDEL no_end) refl in
    stops_later (so_far.advances names) (stops_unexpected (standing behind_property names) so_far.takes none)

-- ENDEL
pub properties_end : {old new : Reading} {found : Record} → found.kind ≡ kind.ENDEL → ReadsPropertiesSoFar old new found → ReadsProperties old new
properties_end {found = found} is so_far =
    record {
      text = so_far.text;
      is_text = so_far.is_text;
      properties = so_far.properties;
      are_properties = so_far.are_properties;
      last = entry_of found;
      is_last = is;
      advances = behind_it kind.ENDEL between_elements is refl refl so_far;
      ready = so_far.takes.ready (λ same. omega (arith, is, same));
    }
