-- How a reader goes on by the record that ends the own records of an element, once the checks of the element are made.
use Rattle.std.proofs.Common.{◌≡◌, ◌≢◌, inl, inr, ℕ, List, [], ◌∷◌, ◌++◌, refl, sym, ap, subst, ◌∙◌, Some, Option, arith, All, append_assoc}
use Rattle.lists.proofs.Words.{flat_map, All-nil, All-cons}
use Rattle.gds_records.specs.declared.kinds.TheConstants as kind
use Rattle.library_grammar.specs.GrammarNames.{Reading, entry_of, Entry, ElementHolds, element_checks, IsElementFault, ElementForm, Opens, is_faulty, EndsOwnRecords, behind, IsKept, Place, among_own, behind_attribute, between_elements, next_place, kinds_of, IsOfKind, Property, property_records, IsProperty, ElementParts, IsElement, MayStand}
use Rattle.gds_records.specs.declared.record.Record.{Record}
use Rattle.gds_syntax.specs.inside.LibraryReaders.{standing, IsAt, Advances, IsFirstBehind, ReadsOwn, ReadsOwnSoFar, ReadsProperties, ReadsElement}
use Rattle.library_model.specs.declared.element.Element.{Element}
use Rattle.library_grammar.specs.declared.fault.SyntaxFault.{SyntaxFault}
use Rattle.library_grammar.proofs.laws.Standing.{closing_is_quiet}
use Rattle.library_grammar.proofs.laws.Places.{may_stand}
use Rattle.library_grammar.proofs.laws.Forms.{begins_property, ends_element}
use Rattle.gds_syntax.proofs.ReaderLaws.{Advances-append, IsAt-snoc, Takes-append, stops_showing, stops_there}
use Rattle.library_grammar.proofs.laws.NextRecords.{AreNamesIn-snoc}

-- a reader goes on by that record
pub closing_further : {old new : Reading} {form : ElementForm} {own : List Entry} {closing : Record} (to : Place) → ReadsOwnSoFar old new form own closing
    → next_place (among_own form (kinds_of own)) closing.kind ≡ Some to → closing.kind ≢ kind.STRNAME → All (ElementHolds own) (element_checks form) → (names : List (List ℕ))
    → Advances old new (standing (among_own form []) names) (standing to names) (own ++ entry_of closing ∷ [])
closing_further {new = new} {form = form} {own = own} {closing = closing} to so_far next other sound names =
    let front = so_far.advances names in
    record {
      takes = Takes-append front.takes so_far.takes.takes;
      stands = λ before here.
          let there = front.stands before here in
          let behind_it = IsAt-snoc (standing (among_own form (kinds_of own)) names) (standing to names) (before ++ own) so_far.takes next there
          (λ fault. closing_is_quiet before own form (entry_of closing) to fault there.place next other sound) (AreNamesIn-snoc (before ++ own) (entry_of closing) names other there.names) in
          subst (λ (x : List Entry). IsAt new x (standing to names)) (append_assoc before own (entry_of closing ∷ [])) behind_it;
    }

-- where the reader took the own records of an element and the record that ends them
module _ {old mid : Reading} {form : ElementForm} {own : List Entry} {closing : Record} (opening : Record) (opens : Opens opening.kind form) (reads : ReadsOwn old mid form own closing) where
  -- PROPATTR leads to the properties, and ENDEL out of the element
  to_properties : closing.kind ≡ kind.PROPATTR → next_place (among_own form (kinds_of own)) closing.kind ≡ Some behind_attribute
  to_properties is = ap (next_place (among_own form (kinds_of own))) is ∙ begins_property (kinds_of own) form opens.listed

  out_of_it : closing.kind ≡ kind.ENDEL → next_place (among_own form (kinds_of own)) closing.kind ≡ Some between_elements
  out_of_it is = ap (next_place (among_own form (kinds_of own))) is ∙ ends_element (kinds_of own) form opens.listed

  -- the fault of the element is the first of the stream
  pub element_stops : {fault : SyntaxFault} → IsElementFault opening.at form own fault → (earlier : List Entry) (names : List (List ℕ)) → opening.at ≡ behind 0 earlier
      → IsAt old (earlier ++ entry_of opening ∷ []) (standing (among_own form []) names) → IsFirstBehind (earlier ++ entry_of opening ∷ []) old fault
  element_stops fails earlier names place here =
      stops_there (reads.so_far.advances names) here (λ there.
      let before : List Entry = (earlier ++ entry_of opening ∷ []) ++ own in
      let may : MayStand before (entry_of closing) = elim reads.ends [
        | inl is ↦ may_stand before (entry_of closing) (among_own form (kinds_of own)) behind_attribute there.place (to_properties is)
        | inr is ↦ may_stand before (entry_of closing) (among_own form (kinds_of own)) between_elements there.place (out_of_it is)
      ] in
      let ends : EndsOwnRecords before (entry_of closing) opening.at form own = record {
        ends = reads.ends;
        earlier = earlier;
        opening = entry_of opening;
        parts = append_assoc earlier (entry_of opening ∷ []) own;
        opens = opens;
        are_own = reads.so_far.are_own;
        place = place;
      } in
      stops_showing reads.so_far.takes there (is_faulty may ends fails))

  -- the element with these properties and this end, and that it is one of the grammar
  abbrev element_of : List Property → Entry → ElementParts
  element_of properties last = record { form = form; opening = entry_of opening; own = own; properties = properties; last = last }

  element_in_grammar : (properties : List Property) (last : Entry) → All IsProperty properties → IsOfKind kind.ENDEL last → IsElement (element_of properties last)
  element_in_grammar properties last are is = record { opens = opens; are_own = reads.so_far.are_own; once = reads.so_far.once; properties = are; ends = is }

  -- PROPATTR leads to the properties where the checks hold
  pub opens_properties : closing.kind ≡ kind.PROPATTR → All (ElementHolds own) (element_checks form) → (names : List (List ℕ))
      → Advances old mid (standing (among_own form []) names) (standing behind_attribute names) (own ++ entry_of closing ∷ [])
  opens_properties is sound = closing_further behind_attribute reads.so_far (to_properties is) (λ same. omega (arith, is, same)) sound

  module _ (kept : Option Element) (sound : All (ElementHolds own) (element_checks form)) (keeps : IsKept opening.at own form.opening kept) where
    kept_by_opening : IsKept opening.at own opening.kind kept
    kept_by_opening = subst (λ (k : ℕ). IsKept opening.at own k kept) (sym opens.opening) keeps

    -- an element without properties
    pub plain_element : closing.kind ≢ kind.PROPATTR → ReadsElement old mid opening form kept
    plain_element no_attribute =
        let is : closing.kind ≡ kind.ENDEL = elim reads.ends [ inl attribute ↦ absurd (no_attribute attribute) | inr end ↦ end ] in
        record {
          entries = own ++ entry_of closing ∷ [];
          is_element = record {
            parts = element_of [] (entry_of closing);
            in_grammar = element_in_grammar [] (entry_of closing) (All-nil IsProperty) is;
            are_its = refl;
            keeps = kept_by_opening;
          };
          advances = closing_further between_elements reads.so_far (out_of_it is) (λ same. omega (arith, is, same)) sound;
          ready = reads.so_far.takes.ready (λ same. omega (arith, is, same));
        }

    -- an element with properties
    pub element_with_properties : {new : Reading} → closing.kind ≡ kind.PROPATTR → ReadsProperties mid new → ReadsElement old new opening form kept
    element_with_properties is rest =
        let first : Property = record { attribute = entry_of closing; text = rest.text } in
        let are : All IsProperty (first ∷ rest.properties) = All-cons IsProperty first rest.properties (record { attribute = is; text = rest.is_text }) rest.are_properties in
        record {
          entries = (own ++ entry_of closing ∷ []) ++ (rest.text ∷ (flat_map property_records rest.properties ++ rest.last ∷ []));
          is_element = record {
            parts = element_of (first ∷ rest.properties) rest.last;
            in_grammar = element_in_grammar (first ∷ rest.properties) rest.last are rest.is_last;
            are_its = simp append_assoc refl;
            keeps = kept_by_opening;
          };
          advances = λ names. Advances-append (opens_properties is sound names) (rest.advances names);
          ready = rest.ready;
        }
