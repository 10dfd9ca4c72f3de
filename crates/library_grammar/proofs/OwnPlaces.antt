-- Among the own records of an element: the place there says which element it is, and which of its own records stand behind the one
-- that opens it.
use Rattle.std.proofs.Common.{ne_eqb, ◌≡◌, ℕ, Bool, true, false, not, ◌&&◌, ◌==◌, if◌then◌else◌, List, [], ◌∷◌, ◌++◌, length, All, Contains, Option, Some, None, option_map, option_and_then, refl, sym}
use Rattle.std.proofs.Common.{ap, subst, ◌∙◌, arith, append_assoc, length-append}
use Rattle.lists.proofs.Words.{append-nil, list_all, length-map, All-head, All-tail}
use Rattle.std.specs.Prelude.{is_none}
use Rattle.std.proofs.lemmas.Bool.{true≢false}
use Rattle.gds_records.specs.declared.kinds.TheConstants as kind
use Rattle.library_grammar.specs.GrammarNames.{Entry, ElementForm, element_forms, own_kinds, Place, before_name, before_units, between_structures, before_strname, behind_strname, between_elements}
use Rattle.library_grammar.specs.GrammarNames.{among_own, behind_attribute, behind_property, behind_endlib, has_kind, form_of, into_element, out_of_element, next_place, place_behind, kinds_of}
use Rattle.library_grammar.specs.GrammarNames.{head_kinds}
use Rattle.library_grammar.proofs.PlaceRuns.{place_behind-append, own_step}
use Rattle.library_grammar.proofs.laws.Forms.{found_form, form_test, not_true, begins_element, begins_first, each_form, own_is_plain, has_contained}

-- ---- ways in two parts

-- what comes to something comes to something first
reached : (o : Option Place) (further : Place → Option Place) (r : Place) → option_and_then further o ≡ Some r
    → (q : Place) × (o ≡ Some q) × (further q ≡ Some r)
reached None further r h = absurd (cc)
reached (Some q) further r h = (q, refl, h)

-- a way along two lists leads along the first to a place from which the second leads on
pub way_in_parts : (p r : Place) (front more : List ℕ) → place_behind p (front ++ more) ≡ Some r
    → (q : Place) × (place_behind p front ≡ Some q) × (place_behind q more ≡ Some r)
way_in_parts p r front more h = reached (place_behind p front) (λ q. place_behind q more) r (sym (place_behind-append p front more) ∙ h)

-- so does one along a kind and then a list
pub way_in_steps : (p r : Place) (k : ℕ) (more : List ℕ) → place_behind p (k ∷ more) ≡ Some r
    → (q : Place) × (next_place p k ≡ Some q) × (place_behind q more ≡ Some r)
way_in_steps p r k more h = reached (next_place p k) (λ q. place_behind q more) r h

-- ---- places that are reached

-- the form of a place among own records is one of the forms
abbrev pub IsOfForm : Place → Type 0
IsOfForm (among_own form own) = Contains element_forms form
IsOfForm place = Unit {0}

same_place : (p q : Place) → Some p ≡ Some q → IsOfForm p → IsOfForm q
same_place p q h good = let same : p ≡ q = cc in subst IsOfForm same good

-- a choice of two places
chosen : (b : Bool) (p q : Place) (other : Option Place) → IsOfForm p → (other ≡ Some q → IsOfForm q) → (if b then Some p else other) ≡ Some q → IsOfForm q
chosen true p q other good else_good h = same_place p q h good
chosen false p q other good else_good h = else_good h

nowhere : (q : Place) → None ≡ Some q → IsOfForm q
nowhere q h = absurd (cc)

out_of_form : (k : ℕ) (q : Place) → out_of_element k ≡ Some q → IsOfForm q
out_of_form k q h =
    chosen (k == kind.PROPATTR) behind_attribute q (if k == kind.ENDEL then Some between_elements else None) tt
    (chosen (k == kind.ENDEL) between_elements q None tt (nowhere q)) h

into_form : (k : ℕ) (q : Place) → into_element k ≡ Some q → IsOfForm q
into_form k q h = chosen (k == kind.ENDSTR) between_structures q (option_map (λ form. among_own form []) (form_of k)) tt (go (form_of k) refl) h
  where
    go : (o : Option ElementForm) → form_of k ≡ o → option_map (λ form. among_own form []) o ≡ Some q → IsOfForm q
    go None none h = absurd (cc)
    go (Some form) found h = same_place (among_own form []) q h (found_form element_forms k form found).0

next_of_form : (p q : Place) (k : ℕ) → IsOfForm p → next_place p k ≡ Some q → IsOfForm q
next_of_form before_name q k good h = chosen (k == kind.LIBNAME) before_units q _ tt (chosen (has_kind head_kinds k) before_name q None tt (nowhere q)) h
next_of_form before_units q k good h = chosen (k == kind.UNITS) between_structures q _ tt (chosen (has_kind head_kinds k) before_units q None tt (nowhere q)) h
next_of_form between_structures q k good h = chosen (k == kind.BGNSTR) before_strname q _ tt (chosen (k == kind.ENDLIB) behind_endlib q None tt (nowhere q)) h
next_of_form behind_strname q k good h = chosen (k == kind.STRCLASS) between_elements q (into_element k) tt (into_form k q) h
next_of_form between_elements q k good h = into_form k q h
next_of_form (among_own form own) q k good h =
    chosen (has_kind (own_kinds form) k && not (has_kind own k)) (among_own form (own ++ k ∷ [])) q (out_of_element k) good (out_of_form k q) h
next_of_form behind_property q k good h = out_of_form k q h
next_of_form behind_endlib q k good h = nowhere q h
next_of_form _ q k good h = chosen _ _ q None tt (nowhere q) h

pub behind_of_form : (kinds : List ℕ) (p q : Place) → IsOfForm p → place_behind p kinds ≡ Some q → IsOfForm q
behind_of_form [] p q good h = same_place p q h good
behind_of_form (k ∷ kinds) p q good h =
    let way = way_in_steps p q k kinds h in
    behind_of_form kinds way.0 q (next_of_form p way.0 k good way.1) way.2

-- ---- the record that opens an element

nothing_more : (o : Option Place) (r : Place) (X : Type 0) → o ≡ None → o ≡ Some r → X
nothing_more o r X none some = absurd (cc)

-- no element has the opening record of one as an own record
opening_is_foreign : (form other : ElementForm) → Contains element_forms form → Contains element_forms other → has_kind (own_kinds form) other.opening ≡ false
opening_is_foreign form other listed of_other =
    not_true (has_kind (own_kinds form) other.opening) (form_test (λ o. not (has_kind (own_kinds form) o.opening))
    (form_test (λ f. list_all (λ o. not (has_kind (own_kinds f) o.opening)) element_forms) refl form listed) other of_other)

-- an opening record may not stand at a place that has no next one for any
no_opening : (p q : Place) (form : ElementForm) → list_all (λ f. is_none (next_place p f.opening)) element_forms ≡ true → Contains element_forms form
    → next_place p form.opening ≡ Some q → q ≡ among_own form []
no_opening p q form none listed h =
    absurd (true≢false (sym (form_test (λ f. is_none (next_place p f.opening)) none form listed) ∙ ap is_none h))

begins_own : (p q : Place) (form : ElementForm) → next_place p form.opening ≡ Some (among_own form []) → next_place p form.opening ≡ Some q → q ≡ among_own form []
begins_own p q form leads h = let same : Some (among_own form []) ≡ Some q = sym leads ∙ h in cc

-- an opening record leads to the own records of its element alone
pub opening_leads : (p q : Place) (form : ElementForm) → Contains element_forms form → IsOfForm p → next_place p form.opening ≡ Some q → q ≡ among_own form []
opening_leads behind_strname q form listed good h = begins_own behind_strname q form (begins_first form listed) h
opening_leads between_elements q form listed good h = begins_own between_elements q form (begins_element form listed) h
opening_leads (among_own other own) q form listed good h =
    let out : out_of_element form.opening ≡ None = each_form (λ f. out_of_element f.opening ≡ None) refl refl refl refl refl refl refl form listed in
    nothing_more (next_place (among_own other own) form.opening) q (q ≡ among_own form []) (rw (opening_is_foreign other form good listed) out) h
opening_leads p q form listed good h = no_opening p q form refl listed h

-- ---- own records

own_does_not_end : (form : ElementForm) (k : ℕ) → Contains element_forms form → Contains (own_kinds form) k → out_of_element k ≡ None
own_does_not_end form k listed is_own =
    let plain = own_is_plain form listed k is_own in
    rw (ne_eqb k kind.PROPATTR plain.is_no_attribute, ne_eqb k kind.ENDEL plain.is_no_end) refl

-- an own record leads to the next of them
own_leads_on : (form : ElementForm) (own : List ℕ) (k : ℕ) (q : Place) → Contains element_forms form → Contains (own_kinds form) k
    → next_place (among_own form own) k ≡ Some q → q ≡ among_own form (own ++ k ∷ [])
own_leads_on form own k q listed is_own h = go (has_kind own k) refl
  where
    go : (b : Bool) → has_kind own k ≡ b → q ≡ among_own form (own ++ k ∷ [])
    go true old =
        let none : next_place (among_own form own) k ≡ None = rw (has_contained (own_kinds form) k is_own, old) (own_does_not_end form k listed is_own) in
        nothing_more (next_place (among_own form own) k) q (q ≡ among_own form (own ++ k ∷ [])) none h
    go false new = let some : Some (among_own form (own ++ k ∷ [])) ≡ Some q = sym (own_step form own k is_own new) ∙ h in cc

pub own_run_leads : (form : ElementForm) (more own : List ℕ) (p : Place) → Contains element_forms form → All (Contains (own_kinds form)) more
    → place_behind (among_own form own) more ≡ Some p → p ≡ among_own form (own ++ more)
own_run_leads form [] own p listed are_own h = let same : among_own form own ≡ p = cc in rw (append-nil own) (sym same)
own_run_leads form (k ∷ more) own p listed are_own h =
    let way = way_in_steps (among_own form own) p k more h in
    let first = own_leads_on form own k way.0 listed (All-head (Contains (own_kinds form)) k more are_own) way.1 in
    own_run_leads form more (own ++ k ∷ []) p listed (All-tail (Contains (own_kinds form)) k more are_own) (ap (λ (q : Place). place_behind q more) (sym first) ∙ way.2)
    ∙ ap (λ (o : List ℕ). among_own form o) (append_assoc own (k ∷ []) more)

-- ---- one element

-- two ways to part a list of which the second parts are as long are one
pub lists_agree : {A : Type 0} (front other rest also : List A) → length rest ≡ length also → front ++ rest ≡ other ++ also → (front ≡ other) × (rest ≡ also)
lists_agree [] [] rest also long same = (refl, same)
lists_agree [] (y ∷ other) rest also long same = absurd (omega (arith, ap length same, length-append other also))
lists_agree (x ∷ front) [] rest also long same = absurd (omega (arith, ap length same, length-append front rest))
lists_agree {A} (x ∷ front) (y ∷ other) rest also long same =
    let first : x ≡ y = cc in
    let others : front ++ rest ≡ other ++ also = cc in
    let parts = lists_agree front other rest also long others in
    (ap (λ (z : A). z ∷ front) first ∙ ap (λ (zs : List A). y ∷ zs) parts.0, parts.1)

pub same_length : (own other : List Entry) → kinds_of own ≡ kinds_of other → length own ≡ length other
same_length own other same = sym (length-map own (λ (e : Entry). e.kind)) ∙ ap length same ∙ length-map other (λ (e : Entry). e.kind)
