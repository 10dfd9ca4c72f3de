-- Where one stands behind records of which none shows a fault, and how more of them lead on.
use Rattle.std.proofs.Common.{◌≡◌, ◌≢◌, ℕ, List, [], ◌∷◌, ◌++◌, All, Contains, Some, refl, sym, ap, subst, ◌∙◌, arith, append_assoc}
use Rattle.lists.proofs.Words.{append-nil, All-head, All-tail, All-map, All-cons}
use Rattle.first_refusal.proofs.CheckLaws.{none_fails}
use Rattle.gds_records.specs.declared.kinds.TheConstants as kind
use Rattle.library_grammar.specs.GrammarNames.{IsText, Entry, ElementHolds, element_checks, IsElementFault, ElementForm, own_kinds, AreNamesIn, NoneShows, Shows, may_not_stand, repeats, is_faulty}
use Rattle.library_grammar.specs.GrammarNames.{ElementParts, IsElement, kinds_of, IsPlain, Place, before_header, before_strname, behind_strname, between_elements, among_own, next_place, place_behind}
use Rattle.library_grammar.specs.declared.fault.SyntaxFault.{SyntaxFault}
use Rattle.library_grammar.proofs.laws.Places.{may_stand, own_agree}
use Rattle.library_grammar.proofs.TextThere.{no_item}
use Rattle.library_grammar.proofs.laws.NextRecords.{AreNamesIn-snoc, NoneShows-snoc, place_after, plain_shows_nothing, AreNamesIn-named, new_name_is_quiet}
use Rattle.library_grammar.proofs.PlaceRuns.{LeadTo, own_run, step}
use Rattle.library_grammar.proofs.OwnPlaces.{way_in_steps}
use Rattle.library_grammar.proofs.laws.Forms.{opening_is_plain, own_is_plain, ends_element}

-- where the checks of an element hold it has no fault
sound_has_no_fault : (at : ℕ) (form : ElementForm) (own : List Entry) (fault : SyntaxFault) → All (ElementHolds own) (element_checks form) → IsElementFault at form own fault → ⊥
sound_has_no_fault at form own fault all fails = none_fails (ElementHolds own) (element_checks form) all fails.check fails.is_first

-- the record that ends the own records of a sound element shows no fault
pub closing_is_quiet : (before own : List Entry) (form : ElementForm) (e : Entry) (to : Place) (fault : SyntaxFault)
    → place_behind before_header (kinds_of (before ++ own)) ≡ Some (among_own form (kinds_of own))
    → next_place (among_own form (kinds_of own)) e.kind ≡ Some to → e.kind ≢ kind.STRNAME → All (ElementHolds own) (element_checks form) → Shows (before ++ own) e fault → ⊥
closing_is_quiet before own form e to fault here next other sound (may_not_stand may_not) = may_not (may_stand (before ++ own) e (among_own form (kinds_of own)) to here next)
closing_is_quiet before own form e to fault here next other sound (repeats may names is_text in_before) = other names
closing_is_quiet before own form e to fault here next other sound (is_faulty {at = at} {form = other_form} {own = other_own} may ends fails) =
    let (forms, owns) = own_agree before own ends.earlier other_own ends.opening form other_form here ends.parts ends.opens ends.are_own in
    sound_has_no_fault at form own fault sound (subst (λ (f : ElementForm). IsElementFault at f own fault) (sym forms)
    (subst (λ (o : List Entry). IsElementFault at other_form o fault) (sym owns) fails))

-- one stands at this place: the records behind lead there, show no fault, and name these structures
pub record StandsAt (before : List Entry) (place : Place) (names : List (List ℕ)) : Type 0 where
  pub leads : place_behind before_header (kinds_of before) ≡ Some place
  pub none_shows : NoneShows before
  pub are_names : AreNamesIn before names

pub starts : StandsAt [] before_header []
starts = record {
  leads = refl;
  none_shows = λ before after e fault same shown. no_item before after e same;
  are_names = λ name. (λ has. absurd (omega (arith, has.1)), λ found. absurd (no_item found.earlier found.later found.record_of_name found.parts));
}

-- these records lead on, whatever stands in front of them
abbrev pub GoesOn : Place → List (List ℕ) → List Entry → Place → List (List ℕ) → Type 0
GoesOn from names entries to more = (before : List Entry) → StandsAt before from names → StandsAt (before ++ entries) to more

-- so do two lists, one after the other
pub goes_further : {from via to : Place} {names mid more : List (List ℕ)} (front entries : List Entry) → GoesOn from names front via mid → GoesOn via mid entries to more
    → GoesOn from names (front ++ entries) to more
goes_further {to = to} {more = more} front entries first second before here =
    subst (λ (es : List Entry). StandsAt es to more) (append_assoc before front entries) (second (before ++ front) (first before here))

-- a record that shows no fault and names no structure
goes_by : (e : Entry) (from to : Place) (names : List (List ℕ)) (before : List Entry) → StandsAt before from names → next_place from e.kind ≡ Some to → e.kind ≢ kind.STRNAME
    → ((fault : SyntaxFault) → Shows before e fault → ⊥) → StandsAt (before ++ e ∷ []) to names
goes_by e from to names before here next other quiet =
    record { leads = place_after before e from to here.leads next; none_shows = NoneShows-snoc before e here.none_shows quiet; are_names = AreNamesIn-snoc before e names other here.are_names }

-- plain records that lead from one place to another
pub goes_plainly : (entries : List Entry) (from to : Place) (names : List (List ℕ)) → All (λ e. IsPlain e.kind) entries → LeadTo from entries to → GoesOn from names entries to names
goes_plainly [] from to names plain leads before here =
    let same : from ≡ to = cc in
    subst (λ (p : Place). StandsAt (before ++ []) p names) same (subst (λ (es : List Entry). StandsAt es from names) (sym (append-nil before)) here)
goes_plainly (e ∷ entries) from to names plain leads before here =
    let way = way_in_steps from to e.kind (kinds_of entries) leads in
    let is_plain = All-head (λ o. IsPlain o.kind) e entries plain in
    goes_further (e ∷ []) entries
    (λ front there. goes_by e from way.0 names front there way.1 is_plain.names_nothing (λ fault. plain_shows_nothing front e from way.0 fault there.leads way.1 is_plain))
    (goes_plainly entries way.0 to names (All-tail (λ o. IsPlain o.kind) e entries plain) way.2) before here

-- the name of a structure that none behind it has
pub goes_named : (names : List (List ℕ)) (text : List ℕ) (e : Entry) → e.kind ≡ kind.STRNAME → IsText e.body text → (Contains names text → ⊥)
    → GoesOn before_strname names (e ∷ []) behind_strname (names ++ text ∷ [])
goes_named names text e is is_text fresh before here =
    record {
      leads = place_after before e before_strname behind_strname here.leads (ap (next_place before_strname) is);
      none_shows = NoneShows-snoc before e here.none_shows (λ fault. new_name_is_quiet before e names text fault here.leads is is_text fresh here.are_names);
      are_names = AreNamesIn-named before e names text is is_text here.are_names;
    }

-- an element whose checks hold, up to the record that ends its own
pub goes_closing : (x : ElementParts) (p to : Place) (names : List (List ℕ)) (e : Entry) → IsElement x → All (ElementHolds x.own) (element_checks x.form)
    → next_place p x.form.opening ≡ Some (among_own x.form []) → next_place (among_own x.form (kinds_of x.own)) e.kind ≡ Some to → e.kind ≢ kind.STRNAME
    → GoesOn p names (x.opening ∷ (x.own ++ e ∷ [])) to names
goes_closing x p to names e is holds opens ends other before here =
    let form : ElementForm = x.form in
    let own : List Entry = x.own in
    let plain : All (λ o. IsPlain o.kind) (x.opening ∷ own) =
    All-cons (λ o. IsPlain o.kind) x.opening own (subst IsPlain (sym is.opens.opening) (opening_is_plain form is.opens.listed))
    (λ i d l. own_is_plain form is.opens.listed _ (is.are_own i d l)) in
    let leads : LeadTo p (x.opening ∷ own) (among_own form (kinds_of own)) =
    step p (among_own form []) x.opening.kind (kinds_of own) (ap (next_place p) is.opens.opening ∙ opens)
    ∙ own_run form (kinds_of own) [] (All-map (Contains (own_kinds form)) (λ (o : Entry). o.kind) own is.are_own) (λ i d l. refl) is.once in
    let behind_own = goes_plainly (x.opening ∷ own) p (among_own form (kinds_of own)) names plain leads before here in
    let same : (before ++ x.opening ∷ []) ++ own ≡ before ++ x.opening ∷ own = append_assoc before (x.opening ∷ []) own in
    let there = subst (λ (es : List Entry). StandsAt es (among_own form (kinds_of own)) names) (sym same) behind_own in
    let behind_it = goes_by e (among_own form (kinds_of own)) to names ((before ++ x.opening ∷ []) ++ own) there ends other
    (λ fault. closing_is_quiet (before ++ x.opening ∷ []) own form e to fault there.leads ends other holds) in
    subst (λ (es : List Entry). StandsAt es to names) (ap (λ (es : List Entry). es ++ e ∷ []) same ∙ append_assoc before (x.opening ∷ own) (e ∷ [])) behind_it

-- and without properties, to its end
pub goes_element : (x : ElementParts) (p : Place) (names : List (List ℕ)) → IsElement x → All (ElementHolds x.own) (element_checks x.form)
    → next_place p x.form.opening ≡ Some (among_own x.form []) → GoesOn p names (x.opening ∷ (x.own ++ x.last ∷ [])) between_elements names
goes_element x p names is holds opens =
    goes_closing x p between_elements names x.last is holds opens
    (ap (next_place (among_own x.form (kinds_of x.own))) is.ends ∙ ends_element (kinds_of x.own) x.form is.opens.listed) (λ same. omega (arith, is.ends, same))
