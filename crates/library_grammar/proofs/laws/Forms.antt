-- What holds of each form of elements and of its kinds of records: where an element begins and ends, and that the records of the
-- head, those that open an element and its own name no structure and end neither own records nor a library.
use Rattle.std.proofs.Common.{◌≡◌, ℕ, suc, ◌⊎◌, inl, inr, Bool, true, false, ◌==◌, if◌then◌else◌, List, [], ◌∷◌, get_or, Contains, Some, find, refl, sym, ap, subst, ◌∙◌, arith, eq-eqb, not, ◌≢◌, ◌&&◌}
use Rattle.lists.proofs.Words.{eqb-true, Any-from_list_any, list_all, AllPass-from_list_all, All-contains, All-from_recursion, eqb-false}
use Rattle.library_grammar.specs.GrammarNames.{ElementForm, has_kind, boundary_form, path_form, sref_form, aref_form, text_form, node_form, box_form, element_forms, behind_strname, between_elements}
use Rattle.library_grammar.specs.GrammarNames.{among_own, behind_attribute, next_place, own_kinds, IsPlain, head_kinds, Opens}
use Rattle.std.proofs.lemmas.List.Folds.{list_any_at}
use Rattle.gds_records.specs.declared.kinds.TheConstants as kind
use Rattle.std.proofs.lemmas.Bool.{true≢false}

-- a choice is one of the two
pub decided : {A : Type 0} (b : Bool) (x y z : A) → (if b then x else y) ≡ z → ((b ≡ true) × (x ≡ z)) ⊎ ((b ≡ false) × (y ≡ z))
decided true x y z h = inl (refl, h)
decided false x y z h = inr (refl, h)

-- ---- kinds and forms

-- a list that has a kind contains it
pub contains_kind : (kinds : List ℕ) (k : ℕ) → has_kind kinds k ≡ true → Contains kinds k
contains_kind kinds k h =
    let found = Any-from_list_any (λ other. other == k) kinds h in
    let same : found.1 ≡ k = eqb-true found.1 k found.4 in
    (found.0, found.2, subst (λ (x : ℕ). get_or kinds found.0 x ≡ x) same found.3)

-- a list has a kind that it contains
pub has_contained : (kinds : List ℕ) (k : ℕ) → Contains kinds k → has_kind kinds k ≡ true
has_contained kinds k listed = list_any_at (λ other. other == k) kinds listed.0 k listed.1 (eq-eqb (get_or kinds listed.0 k) k listed.2)

-- the form that is found is listed, and opens with the kind
pub found_form : (forms : List ElementForm) (k : ℕ) (form : ElementForm) → find (λ f. f.opening == k) forms ≡ Some form → Contains forms form × (k ≡ form.opening)
found_form [] k form h = absurd (cc)
found_form (f ∷ forms) k form h =
    elim (decided (f.opening == k) (Some f) (find (λ g. g.opening == k) forms) (Some form) h) [
      | inl (test, some) ↦
          let same : f ≡ form = cc in
          let opens : f.opening ≡ k = eqb-true f.opening k test in
          ((0, omega arith, same), sym opens ∙ ap (λ (g : ElementForm). g.opening) same)
      | inr (test, later) ↦
          let found = found_form forms k form later in
          ((suc found.0.0, omega arith, found.0.2), found.1)
    ]

-- ---- where elements and properties begin and end

-- what holds of each form
pub each_form : (P : ElementForm → Type 0) → P boundary_form → P path_form → P sref_form → P aref_form → P text_form → P node_form → P box_form
    → (form : ElementForm) → Contains element_forms form → P form
each_form P boundary path sref aref text node box form listed =
    All-contains P element_forms form (All-from_recursion P element_forms (boundary, (path, (sref, (aref, (text, (node, (box, tt)))))))) listed

-- and what is tested of each
pub form_test : (test : ElementForm → Bool) → list_all test element_forms ≡ true → (form : ElementForm) → Contains element_forms form → test form ≡ true
form_test test all form listed = All-contains (λ f. test f ≡ true) element_forms form (AllPass-from_list_all test element_forms all) listed

pub not_true : (b : Bool) → not b ≡ true → b ≡ false
not_true true h = absurd (cc)
not_true false h = refl

pub begins_element : (form : ElementForm) → Contains element_forms form → next_place between_elements form.opening ≡ Some (among_own form [])
begins_element = each_form (λ form. next_place between_elements form.opening ≡ Some (among_own form [])) refl refl refl refl refl refl refl

pub begins_first : (form : ElementForm) → Contains element_forms form → next_place behind_strname form.opening ≡ Some (among_own form [])
begins_first = each_form (λ form. next_place behind_strname form.opening ≡ Some (among_own form [])) refl refl refl refl refl refl refl

pub begins_property : (own : List ℕ) (form : ElementForm) → Contains element_forms form → next_place (among_own form own) kind.PROPATTR ≡ Some behind_attribute
begins_property own = each_form (λ form. next_place (among_own form own) kind.PROPATTR ≡ Some behind_attribute) refl refl refl refl refl refl refl

pub ends_element : (own : List ℕ) (form : ElementForm) → Contains element_forms form → next_place (among_own form own) kind.ENDEL ≡ Some between_elements
ends_element own = each_form (λ form. next_place (among_own form own) kind.ENDEL ≡ Some between_elements) refl refl refl refl refl refl refl

-- ---- plain kinds

-- the test of a plain kind
abbrev plain_test : ℕ → Bool
plain_test k = not (k == kind.STRNAME) && not (k == kind.PROPATTR) && not (k == kind.ENDEL)

-- what passes the test is no kind that does not
differs : (k other : ℕ) → plain_test k ≡ true → plain_test other ≡ false → k ≢ other
differs k other passes fails same = true≢false (sym passes ∙ ap plain_test same ∙ fails)

pub plain : (k : ℕ) → plain_test k ≡ true → IsPlain k
plain k passes = record {
  names_nothing = differs k kind.STRNAME passes refl;
  is_no_attribute = differs k kind.PROPATTR passes refl;
  is_no_end = differs k kind.ENDEL passes refl;
}

-- so it is with the kinds of a list that passes
plain_in : (kinds : List ℕ) (k : ℕ) → list_all plain_test kinds ≡ true → Contains kinds k → IsPlain k
plain_in kinds k all has = plain k (All-contains (λ x. plain_test x ≡ true) kinds k (AllPass-from_list_all plain_test kinds all) has)

-- a record of the head is plain
pub head_is_plain : (k : ℕ) → Contains head_kinds k → IsPlain k
head_is_plain k has = plain_in head_kinds k refl has

-- an own record of an element is plain
pub own_is_plain : (form : ElementForm) → Contains element_forms form → (k : ℕ) → Contains (own_kinds form) k → IsPlain k
own_is_plain form listed k has = plain_in (own_kinds form) k (form_test (λ f. list_all plain_test (own_kinds f)) refl form listed) has

-- so is one that opens an element
pub opening_is_plain : (form : ElementForm) → Contains element_forms form → IsPlain form.opening
opening_is_plain form listed = plain form.opening (form_test (λ f. plain_test f.opening) refl form listed)

-- a kind that a list lacks is none that it contains
pub lacked : (kinds : List ℕ) (k x : ℕ) → has_kind kinds k ≡ false → Contains kinds x → x ≢ k
lacked kinds k x lacks has same = true≢false (sym (has_contained kinds x has) ∙ ap (has_kind kinds) same ∙ lacks)

-- no own record ends a library, and none that opens an element does
pub own_ends_no_library : (form : ElementForm) → Contains element_forms form → (k : ℕ) → Contains (own_kinds form) k → k ≢ kind.ENDLIB
own_ends_no_library form listed k own = lacked (own_kinds form) kind.ENDLIB k (not_true _ (form_test (λ f. not (has_kind (own_kinds f) kind.ENDLIB)) refl form listed)) own

pub opening_ends_no_library : (k : ℕ) (form : ElementForm) → Opens k form → k ≢ kind.ENDLIB
opening_ends_no_library k form opens same =
    eqb-false form.opening kind.ENDLIB (not_true _ (form_test (λ f. not (f.opening == kind.ENDLIB)) refl form opens.listed)) (sym opens.opening ∙ same)
