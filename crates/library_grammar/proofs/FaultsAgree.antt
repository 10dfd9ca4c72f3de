-- A stream has one first fault at most, and none where it is a library: so bytes come to one thing at most.
use Rattle.std.proofs.Common.{◌≡◌, inl, inr, ℕ, List, [], ◌∷◌, ◌++◌, Some, refl, sym, ap, subst, ◌∙◌, arith, append_assoc}
use Rattle.lists.proofs.Words.{map-append}
use Rattle.library_grammar.specs.GrammarNames.{IsUnique, Entry, End, whole, ElementHolds, element_checks, element_fault, IsElementFault, ElementForm, EndsOwnRecords, Shows, may_not_stand, repeats}
use Rattle.library_grammar.specs.GrammarNames.{is_faulty, NoneShows, IsFirstFault, at_record, at_end, behind, Place, before_header, behind_endlib, among_own, place_behind, kinds_of, MayStand}
use Rattle.first_refusal.proofs.CheckLaws.{first_refusals_agree}
use Rattle.gds_records.specs.declared.kinds.TheConstants as kind
use Rattle.library_grammar.specs.declared.fault.SyntaxFault.{SyntaxFault}
use Rattle.library_grammar.specs.declared.fault.SyntaxFault.TheVariants.{Record}
use Rattle.library_grammar.proofs.PlaceRuns.{end_of_shape}
use Rattle.library_grammar.proofs.OwnPlaces.{way_in_parts, lists_agree, same_length}
use Rattle.library_grammar.proofs.laws.Places.{own_place}

-- ---- one record shows one fault at most

-- where a record may stand the records before it lead to a place
place_where_may_stand : (before : List Entry) (e : Entry) → MayStand before e → (p : Place) × (place_behind before_header (kinds_of before) ≡ Some p)
place_where_may_stand before e m =
    let whole = end_of_shape (before ++ e ∷ m.after) m.in_shape in
    let way =
    way_in_parts before_header behind_endlib (kinds_of before) (kinds_of (e ∷ m.after))
    (ap (place_behind before_header) (sym (map-append (λ (x : Entry). x.kind) before (e ∷ m.after))) ∙ whole)
    in
    (way.0, way.1)

-- a record ends the own records of one element at most
record OneElement (at at' : ℕ) (form form' : ElementForm) (own own' : List Entry) : Type 0 where
  places : at ≡ at'
  forms : form ≡ form'
  owns : own ≡ own'

own_records_agree : (before : List Entry) (e : Entry) (at at' : ℕ) (form form' : ElementForm) (own own' : List Entry) → MayStand before e
    → EndsOwnRecords before e at form own → EndsOwnRecords before e at' form' own' → OneElement at at' form form' own own'
own_records_agree before e at at' form form' own own' may a b =
    let here = place_where_may_stand before e may in
    let one = own_place a.earlier own a.opening form here.0 a.opens a.are_own (ap (λ (es : List Entry). place_behind before_header (kinds_of es)) (sym a.parts) ∙ here.1) in
    let other = own_place b.earlier own' b.opening form' here.0 b.opens b.are_own (ap (λ (es : List Entry). place_behind before_header (kinds_of es)) (sym b.parts) ∙ here.1) in
    let same : among_own form (kinds_of own) ≡ among_own form' (kinds_of own') = sym one ∙ other in
    let kinds : kinds_of own ≡ kinds_of own' = cc in
    let apart : (a.earlier ++ a.opening ∷ []) ++ own ≡ (b.earlier ++ b.opening ∷ []) ++ own' =
    append_assoc a.earlier (a.opening ∷ []) own ∙ sym a.parts ∙ b.parts ∙ sym (append_assoc b.earlier (b.opening ∷ []) own')
    in
    let parts = lists_agree (a.earlier ++ a.opening ∷ []) (b.earlier ++ b.opening ∷ []) own own' (same_length own own' kinds) apart in
    let fronts = lists_agree a.earlier b.earlier (a.opening ∷ []) (b.opening ∷ []) refl parts.0 in
    record { places = a.place ∙ ap (behind 0) fronts.0 ∙ sym b.place; forms = cc; owns = parts.1 }

-- the fault of one element is one
element_faults_agree : (at at' : ℕ) (form form' : ElementForm) (own own' : List Entry) (fault other : SyntaxFault) → OneElement at at' form form' own own'
    → IsElementFault at form own fault → IsElementFault at' form' own' other → fault ≡ other
element_faults_agree at at' form form' own own' fault other same a b =
    first_refusals_agree (ElementHolds own) (element_checks form) (element_fault at) fault other a
    (subst (λ (n : ℕ). IsElementFault n form own other) (sym same.places)
    (subst (λ (f : ElementForm). IsElementFault at' f own other) (sym same.forms)
    (subst (λ (o : List Entry). IsElementFault at' form' o other) (sym same.owns) b)))

-- the name of a structure ends no own records
names_end_nothing : {at : ℕ} {form : ElementForm} {own : List Entry} (before : List Entry) (e : Entry) → e.kind ≡ kind.STRNAME → EndsOwnRecords before e at form own → ⊥
names_end_nothing before e is_name ends = elim ends.ends [ inl attribute ↦ omega arith | inr end ↦ omega arith ]

faults_agree : (before : List Entry) (e : Entry) → IsUnique (Shows before e)
faults_agree before e _ _ (may_not_stand none) (may_not_stand none') = refl
faults_agree before e _ _ (may_not_stand none) (repeats may is_name is_text in_before) = absurd (none may)
faults_agree before e _ _ (may_not_stand none) (is_faulty may ends fails) = absurd (none may)
faults_agree before e _ _ (repeats may is_name is_text in_before) (may_not_stand none) = absurd (none may)
faults_agree before e _ _ (repeats may is_name is_text in_before) (repeats may' is_name' is_text' in_before') = refl
faults_agree before e _ _ (repeats may is_name is_text in_before) (is_faulty may' ends fails) = absurd (names_end_nothing before e is_name ends)
faults_agree before e _ _ (is_faulty may ends fails) (may_not_stand none) = absurd (none may)
faults_agree before e _ _ (is_faulty may ends fails) (repeats may' is_name is_text in_before) = absurd (names_end_nothing before e is_name ends)
faults_agree before e _ _ (is_faulty {at = at} {form = form} {own = own} {fault = fault} may ends fails) (is_faulty {at = at'} {form = form'} {own = own'} {fault = other} may' ends' fails') =
    element_faults_agree at at' form form' own own' fault other (own_records_agree before e at at' form form' own own' may ends ends') fails fails'

-- ---- one record is the first

-- of two items of a list the one stands before the other, or they are one
data Order (before before' : List Entry) (e e' : Entry) : Type 0 where
  same : before ≡ before' → e ≡ e' → Order before before' e e'
  earlier : (more : List Entry) → before' ≡ before ++ e ∷ more → Order before before' e e'
  later : (more : List Entry) → before ≡ before' ++ e' ∷ more → Order before before' e e'

one_further : (x y : Entry) (before before' : List Entry) (e e' : Entry) → x ≡ y → Order before before' e e' → Order (x ∷ before) (y ∷ before') e e'
one_further x y before before' e e' heads (same fronts is) = same (cc (heads, fronts)) is
one_further x y before before' e e' heads (earlier more parts) = earlier more (cc (heads, parts))
one_further x y before before' e e' heads (later more parts) = later more (cc (heads, parts))

in_order : (before before' : List Entry) (e e' : Entry) (after after' : List Entry) → before ++ e ∷ after ≡ before' ++ e' ∷ after' → Order before before' e e'
in_order [] [] e e' after after' h = same refl (cc)
in_order [] (y ∷ before') e e' after after' h = let heads : y ≡ e = cc in earlier before' (ap (λ (x : Entry). x ∷ before') heads)
in_order (x ∷ before) [] e e' after after' h = let heads : x ≡ e' = cc in later before (ap (λ (x : Entry). x ∷ before) heads)
in_order (x ∷ before) (y ∷ before') e e' after after' h =
    let heads : x ≡ y = cc in
    let others : before ++ e ∷ after ≡ before' ++ e' ∷ after' = cc in
    one_further x y before before' e e' heads (in_order before before' e e' after after' others)

first_records_agree : (before before' : List Entry) (e e' : Entry) (fault other : SyntaxFault) → Order before before' e e' → NoneShows before → NoneShows before'
    → Shows before e fault → Shows before' e' other → fault ≡ other
first_records_agree before before' e e' fault other (same fronts is) none none' shown shown' =
    faults_agree before e fault other shown
    (subst (λ (x : Entry). Shows before x other) (sym is) (subst (λ (b : List Entry). Shows b e' other) (sym fronts) shown'))
first_records_agree before before' e e' fault other (earlier more parts) none none' shown shown' = absurd (none' before more e fault parts shown)
first_records_agree before before' e e' fault other (later more parts) none none' shown shown' = absurd (none before' more e' other parts shown')

pub first_faults_agree : (entries : List Entry) (end end' : End) (fault other : SyntaxFault) → end ≡ end' → IsFirstFault entries end fault → IsFirstFault entries end' other → fault ≡ other
first_faults_agree entries _ _ _ _ ends (at_record before after e {fault = fault} parts none shown) (at_record before' after' e' {fault = other} parts' none' shown') =
    first_records_agree before before' e e' fault other (in_order before before' e e' after after' (sym parts ∙ parts')) none none' shown shown'
first_faults_agree entries _ _ _ _ ends (at_record before after e {fault = fault} parts none shown) (at_end none') = absurd (none' before after e fault parts shown)
first_faults_agree entries _ _ _ _ ends (at_end none) (at_record before' after' e' {fault = other} parts' none' shown') = absurd (none before' after' e' other parts' shown')
first_faults_agree entries _ _ _ _ ends (at_end {why = why} none) (at_end {why = why'} none') = let faults : why ≡ why' = cc in ap (λ f. Record f) faults

pub no_fault_of_library : (entries : List Entry) (end : End) (fault : SyntaxFault) → end ≡ whole → NoneShows entries → IsFirstFault entries end fault → ⊥
no_fault_of_library entries _ _ ends none (at_record before after e {fault = fault} parts first shown) = none before after e fault parts shown
no_fault_of_library entries _ _ ends none (at_end first) = absurd (cc)
