-- What may follow at each place up to the end of a library, and so that records which lead to the end are in shape.
use Rattle.std.proofs.Common.{◌≡◌, ◌≢◌, ℕ, inl, inr, Bool, true, false, not, ◌&&◌, ◌||◌, ◌==◌, if◌then◌else◌, List, [], ◌∷◌, ◌++◌, All, AllPairs, Contains, Option, Some, None, option_map}
use Rattle.std.proofs.Common.{option_and_then, IfSome, refl, sym, ap, subst, ◌∙◌, arith, append_assoc, option_to_list}
use Rattle.lists.proofs.Words.{flat_map, eqb-true, eqb-false, All-nil, All-cons, All-weaker, list_any-append, AllPairs-cons}
use Rattle.gds_records.specs.declared.kinds.TheConstants as kind
use Rattle.library_grammar.specs.GrammarNames.{Entry, ElementForm, element_forms, own_kinds, kinds_of, head_kinds, IsOfKind, property_records, IsProperty, ElementParts, element_records, IsElement}
use Rattle.library_grammar.specs.GrammarNames.{StructureParts, structure_records, IsStructure, IsInShape, Place, before_header, before_bgnlib, before_name, before_units, between_structures}
use Rattle.library_grammar.specs.GrammarNames.{before_strname, behind_strname, between_elements, among_own, behind_attribute, behind_property, behind_endlib, has_kind, form_of, into_element}
use Rattle.library_grammar.specs.GrammarNames.{out_of_element, next_place, place_behind}
use Rattle.library_grammar.proofs.laws.Forms.{decided, contains_kind, found_form}

-- ---- what leads to the end

-- a record of this kind, and what leads to the end behind it
record Begins (k : ℕ) (Ends : List Entry → Type 0) (entries : List Entry) : Type 0 where
  first : Entry
  is_first : IsOfKind k first
  after : List Entry
  ends : Ends after
  parts : entries ≡ first ∷ after

-- parts one after the other, and what leads to the end behind them
record Many {A : Type 0} (Is : A → Type 0) (records : A → List Entry) (Ends : List Entry → Type 0) (entries : List Entry) : Type 0 where
  items : List A
  are : All Is items
  after : List Entry
  ends : Ends after
  parts : entries ≡ flat_map records items ++ after

-- records of the head, a record of this kind, and what leads to the end behind it
abbrev EndsHead : ℕ → (List Entry → Type 0) → List Entry → Type 0
EndsHead k Ends = Many (λ e. Contains head_kinds e.kind) (λ e. e ∷ []) (Begins k Ends)

-- structures, and ENDLIB
abbrev EndsLibrary : List Entry → Type 0
EndsLibrary = Many IsStructure structure_records (Begins kind.ENDLIB (λ after. after ≡ []))

-- elements, ENDSTR, and so on
abbrev EndsStructure : List Entry → Type 0
EndsStructure = Many IsElement element_records (Begins kind.ENDSTR EndsLibrary)

-- a class or none, elements, ENDSTR, and so on
record EndsNamed (entries : List Entry) : Type 0 where
  class : Option Entry
  is_class : IfSome class (IsOfKind kind.STRCLASS)
  after : List Entry
  ends : EndsStructure after
  parts : entries ≡ option_to_list class ++ after

-- properties, ENDEL, and so on
abbrev EndsProperties : List Entry → Type 0
EndsProperties = Many IsProperty property_records (Begins kind.ENDEL EndsStructure)

-- more records of an element's own, each once and of no kind that the element has, properties, ENDEL, and so on
record EndsElement (form : ElementForm) (own : List ℕ) (entries : List Entry) : Type 0 where
  more : List Entry
  are_own : All (λ e. Contains (own_kinds form) e.kind) more
  are_new : All (λ k. has_kind own k ≡ false) (kinds_of more)
  once : AllPairs (λ one other. one ≢ other) (kinds_of more)
  after : List Entry
  ends : EndsProperties after
  parts : entries ≡ more ++ after

-- what leads from a place to the end
abbrev Ends : Place → List Entry → Type 0
Ends before_header entries = Begins kind.HEADER (Begins kind.BGNLIB (EndsHead kind.LIBNAME (EndsHead kind.UNITS EndsLibrary))) entries
Ends before_bgnlib entries = Begins kind.BGNLIB (EndsHead kind.LIBNAME (EndsHead kind.UNITS EndsLibrary)) entries
Ends before_name entries = EndsHead kind.LIBNAME (EndsHead kind.UNITS EndsLibrary) entries
Ends before_units entries = EndsHead kind.UNITS EndsLibrary entries
Ends between_structures entries = EndsLibrary entries
Ends before_strname entries = Begins kind.STRNAME EndsNamed entries
Ends behind_strname entries = EndsNamed entries
Ends between_elements entries = EndsStructure entries
Ends (among_own form own) entries = EndsElement form own entries
Ends behind_attribute entries = Begins kind.PROPVALUE EndsProperties entries
Ends behind_property entries = EndsProperties entries
Ends behind_endlib entries = entries ≡ []

-- ---- tests

both_true : (a b : Bool) → (a && not b) ≡ true → (a ≡ true) × (b ≡ false)
both_true true false h = (refl, refl)
both_true true true h = absurd (cc)
both_true false b h = absurd (cc)

both_false : (a b : Bool) → (a || b) ≡ false → (a ≡ false) × (b ≡ false)
both_false false b h = (refl, h)
both_false true b h = absurd (cc)

-- a list without a kind, of which the last is another
kind_before : (own : List ℕ) (k x : ℕ) → has_kind (own ++ k ∷ []) x ≡ false → (has_kind own x ≡ false) × (k ≢ x)
kind_before own k x h =
    let apart = both_false (has_kind own x) (has_kind (k ∷ []) x) (sym (list_any-append (λ other. other == x) own (k ∷ [])) ∙ h) in
    (apart.0, eqb-false k x (both_false (k == x) false apart.1).0)

-- ---- one record more in front

arrives : (p q : Place) (after : List Entry) → Some p ≡ Some q → Ends q after → Ends p after
arrives p q after h ends = let same : p ≡ q = cc in subst (λ (r : Place). Ends r after) (sym same) ends

-- where only one kind may follow
only : (n : ℕ) (e : Entry) (p q : Place) (after : List Entry) → (if e.kind == n then Some p else None) ≡ Some q → Ends q after → IsOfKind n e × Ends p after
only n e p q after h ends =
    elim (decided (e.kind == n) (Some p) None (Some q) h) [
      | inl (test, some) ↦ (eqb-true e.kind n test, arrives p q after some ends)
      | inr (test, none) ↦ absurd (cc)
    ]

begins : {Rest : List Entry → Type 0} (n : ℕ) (e : Entry) (after : List Entry) → IsOfKind n e × Rest after → Begins n Rest (e ∷ after)
begins n e after h = record { first = e; is_first = h.0; after = after; ends = h.1; parts = refl }

-- no part more, or one more
module _ {A : Type 0} (Is : A → Type 0) (records : A → List Entry) (Rest : List Entry → Type 0) where
  no_more : (entries : List Entry) → Rest entries → Many Is records Rest entries
  no_more entries ends = record { items = []; are = All-nil Is; after = entries; ends = ends; parts = refl }

  one_more : (a : A) (entries after : List Entry) → Is a → entries ≡ records a ++ after → Many Is records Rest after → Many Is records Rest entries
  one_more a entries after is same rest =
      record {
        items = a ∷ rest.items;
        are = All-cons Is a rest.items is rest.are;
        after = rest.after;
        ends = rest.ends;
        parts = same ∙ ap (λ (es : List Entry). records a ++ es) rest.parts ∙ sym (append_assoc (records a) (flat_map records rest.items) rest.after);
      }

-- in the head
head_back : (Rest : List Entry → Type 0) (n : ℕ) (e : Entry) (here there q : Place) (after : List Entry) → (Ends here after → EndsHead n Rest after) → (Ends there after → Rest after)
    → (if e.kind == n then Some there else if has_kind head_kinds e.kind then Some here else None) ≡ Some q → Ends q after → EndsHead n Rest (e ∷ after)
head_back Rest n e here there q after stays leaves h ends =
    elim (decided (e.kind == n) (Some there) (if has_kind head_kinds e.kind then Some here else None) (Some q) h) [
      | inl (test, some) ↦ no_more _ _ _ (e ∷ after) (begins n e after (eqb-true e.kind n test, leaves (arrives there q after some ends)))
      | inr (test, other) ↦
          elim (decided (has_kind head_kinds e.kind) (Some here) None (Some q) other) [
            | inl (is_head, some) ↦ one_more _ _ _ e (e ∷ after) after (contains_kind head_kinds e.kind is_head) refl (stays (arrives here q after some ends))
            | inr (no_head, none) ↦ absurd (cc)
          ]
    ]

-- behind an element's own records
out_back : (e : Entry) (q : Place) (after : List Entry) → out_of_element e.kind ≡ Some q → Ends q after → EndsProperties (e ∷ after)
out_back e q after h ends =
    elim (decided (e.kind == kind.PROPATTR) (Some behind_attribute) (if e.kind == kind.ENDEL then Some between_elements else None) (Some q) h) [
      | inl (test, some) ↦
          let text : Begins kind.PROPVALUE EndsProperties after = arrives behind_attribute q after some ends in
          one_more _ _ _ (record { attribute = e; text = text.first }) (e ∷ after) text.after (record { attribute = eqb-true e.kind kind.PROPATTR test; text = text.is_first })
          (ap (λ (es : List Entry). e ∷ es) text.parts) text.ends
      | inr (test, other) ↦ no_more _ _ _ (e ∷ after) (begins kind.ENDEL e after (only kind.ENDEL e between_elements q after other ends))
    ]

-- among an element's own records
own_longer : (form : ElementForm) (own : List ℕ) (e : Entry) (after : List Entry) → has_kind (own_kinds form) e.kind ≡ true → has_kind own e.kind ≡ false
    → EndsElement form (own ++ e.kind ∷ []) after → EndsElement form own (e ∷ after)
own_longer form own e after is_own is_new x =
    let k : ℕ = e.kind in
    let more : List ℕ = kinds_of x.more in
    record {
      more = e ∷ x.more;
      are_own = All-cons (λ o. Contains (own_kinds form) o.kind) e x.more (contains_kind (own_kinds form) k is_own) x.are_own;
      are_new = All-cons (λ n. has_kind own n ≡ false) k more is_new (All-weaker (λ n. has_kind (own ++ k ∷ []) n ≡ false) (λ n. has_kind own n ≡ false) (λ n h. (kind_before own k n h).0)
          more x.are_new);
      once = AllPairs-cons (λ one other. one ≢ other) k more (All-weaker (λ n. has_kind (own ++ k ∷ []) n ≡ false) (λ n. k ≢ n) (λ n h. (kind_before own k n h).1) more x.are_new) x.once;
      after = x.after;
      ends = x.ends;
      parts = ap (λ (es : List Entry). e ∷ es) x.parts;
    }

own_back : (form : ElementForm) (own : List ℕ) (e : Entry) (q : Place) (after : List Entry) → next_place (among_own form own) e.kind ≡ Some q → Ends q after → EndsElement form own (e ∷ after)
own_back form own e q after h ends =
    elim (decided (has_kind (own_kinds form) e.kind && not (has_kind own e.kind)) (Some (among_own form (own ++ e.kind ∷ []))) (out_of_element e.kind) (Some q) h) [
      | inl (test, some) ↦
          let tests = both_true (has_kind (own_kinds form) e.kind) (has_kind own e.kind) test in
          own_longer form own e after tests.0 tests.1 (arrives (among_own form (own ++ e.kind ∷ [])) q after some ends)
      | inr (test, out) ↦
          record {
            more = [];
            are_own = All-nil (λ o. Contains (own_kinds form) o.kind);
            are_new = All-nil (λ n. has_kind own n ≡ false);
            once = λ i j d l h. absurd (omega arith);
            after = e ∷ after;
            ends = out_back e q after out ends;
            parts = refl;
          }
    ]

-- between elements: an element that begins, or the end of the structure
element_back : (e : Entry) (form : ElementForm) (after : List Entry) → Contains element_forms form × (e.kind ≡ form.opening) → EndsElement form [] after → EndsStructure (e ∷ after)
element_back e form after opens x =
    let closing : EndsProperties x.after = x.ends in
    let last : Begins kind.ENDEL EndsStructure closing.after = closing.ends in
    let element : ElementParts = record { form = form; opening = e; own = x.more; properties = closing.items; last = last.first } in
    let is : IsElement element =
    record { opens = record { listed = opens.0; opening = opens.1 }; are_own = x.are_own; once = x.once; properties = closing.are; ends = last.is_first }
    in
    let same : e ∷ after ≡ e ∷ (x.more ++ (flat_map property_records closing.items ++ last.first ∷ last.after)) = cc (x.parts, closing.parts, last.parts) in
    one_more _ _ _ element (e ∷ after) last.after is (simp append_assoc same) last.ends

into_back : (e : Entry) (q : Place) (after : List Entry) → into_element e.kind ≡ Some q → Ends q after → EndsStructure (e ∷ after)
into_back e q after h ends =
    elim (decided (e.kind == kind.ENDSTR) (Some between_structures) (option_map (λ form. among_own form []) (form_of e.kind)) (Some q) h) [
      | inl (test, some) ↦ no_more _ _ _ (e ∷ after) (begins kind.ENDSTR e after (eqb-true e.kind kind.ENDSTR test, arrives between_structures q after some ends))
      | inr (test, other) ↦ go (form_of e.kind) refl other
    ]
  where
    go : (o : Option ElementForm) → form_of e.kind ≡ o → option_map (λ form. among_own form []) o ≡ Some q → EndsStructure (e ∷ after)
    go None is_none none = absurd (cc)
    go (Some form) is_form some = element_back e form after (found_form element_forms e.kind form is_form) (arrives (among_own form []) q after some ends)

-- between structures: a structure that begins, or the end of the library
structure_back : (e : Entry) (after : List Entry) → IsOfKind kind.BGNSTR e → Begins kind.STRNAME EndsNamed after → EndsLibrary (e ∷ after)
structure_back e after opens x =
    let named : EndsNamed x.after = x.ends in
    let rest : EndsStructure named.after = named.ends in
    let last : Begins kind.ENDSTR EndsLibrary rest.after = rest.ends in
    let structure : StructureParts = record { opening = e; name = x.first; class = named.class; elements = rest.items; last = last.first } in
    let is : IsStructure structure = record { opens = opens; names = x.is_first; class = named.is_class; elements = rest.are; ends = last.is_first } in
    let same : e ∷ after ≡ e ∷ x.first ∷ (option_to_list named.class ++ (flat_map element_records rest.items ++ last.first ∷ last.after)) =
    cc (x.parts, named.parts, rest.parts, last.parts)
    in
    one_more _ _ _ structure (e ∷ after) last.after is (simp append_assoc same) last.ends

library_back : (e : Entry) (q : Place) (after : List Entry) → next_place between_structures e.kind ≡ Some q → Ends q after → EndsLibrary (e ∷ after)
library_back e q after h ends =
    elim (decided (e.kind == kind.BGNSTR) (Some before_strname) (if e.kind == kind.ENDLIB then Some behind_endlib else None) (Some q) h) [
      | inl (test, some) ↦ structure_back e after (eqb-true e.kind kind.BGNSTR test) (arrives before_strname q after some ends)
      | inr (test, other) ↦ no_more _ _ _ (e ∷ after) (begins kind.ENDLIB e after (only kind.ENDLIB e behind_endlib q after other ends))
    ]

named_back : (e : Entry) (q : Place) (after : List Entry) → next_place behind_strname e.kind ≡ Some q → Ends q after → EndsNamed (e ∷ after)
named_back e q after h ends =
    elim (decided (e.kind == kind.STRCLASS) (Some between_elements) (into_element e.kind) (Some q) h) [
      | inl (test, some) ↦ record { class = Some e; is_class = eqb-true e.kind kind.STRCLASS test; after = after; ends = arrives between_elements q after some ends; parts = refl }
      | inr (test, into) ↦ record { class = None; is_class = tt; after = e ∷ after; ends = into_back e q after into ends; parts = refl }
    ]

back : (p q : Place) (e : Entry) (after : List Entry) → next_place p e.kind ≡ Some q → Ends q after → Ends p (e ∷ after)
back before_header q e after h ends = begins kind.HEADER e after (only kind.HEADER e before_bgnlib q after h ends)
back before_bgnlib q e after h ends = begins kind.BGNLIB e after (only kind.BGNLIB e before_name q after h ends)
back before_name q e after h ends = head_back (EndsHead kind.UNITS EndsLibrary) kind.LIBNAME e before_name before_units q after (λ x. x) (λ x. x) h ends
back before_units q e after h ends = head_back EndsLibrary kind.UNITS e before_units between_structures q after (λ x. x) (λ x. x) h ends
back between_structures q e after h ends = library_back e q after h ends
back before_strname q e after h ends = begins kind.STRNAME e after (only kind.STRNAME e behind_strname q after h ends)
back behind_strname q e after h ends = named_back e q after h ends
back between_elements q e after h ends = into_back e q after h ends
back (among_own form own) q e after h ends = own_back form own e q after h ends
back behind_attribute q e after h ends = begins kind.PROPVALUE e after (only kind.PROPVALUE e behind_property q after h ends)
back behind_property q e after h ends = out_back e q after h ends
back behind_endlib q e after h ends = absurd (cc)

-- ---- the whole way

-- records that lead from a place behind ENDLIB
ends_of : (entries : List Entry) (p : Place) → place_behind p (kinds_of entries) ≡ Some behind_endlib → Ends p entries
ends_of [] p h = arrives p behind_endlib [] h refl
ends_of (e ∷ entries) p h = go (next_place p e.kind) refl h (ends_of entries)
  where
    go : (o : Option Place) → next_place p e.kind ≡ o → option_and_then (λ next. place_behind next (kinds_of entries)) o ≡ Some behind_endlib
        → ((next : Place) → place_behind next (kinds_of entries) ≡ Some behind_endlib → Ends next entries) → Ends p (e ∷ entries)
    go None is_none h further = absurd (cc)
    go (Some next) is_next h further = back p next e entries is_next (further next h)

-- a list item by item
pub one_each : (entries : List Entry) → flat_map (λ e. e ∷ []) entries ≡ entries
one_each [] = refl
one_each (e ∷ entries) = ap (λ (es : List Entry). e ∷ es) (one_each entries)

-- the parts of a library, one after the other, are in shape
parts_in_shape : (version opening name units last : Entry) (front more : List Entry) (structures : List StructureParts) → IsOfKind kind.HEADER version
    → IsOfKind kind.BGNLIB opening → All (λ e. Contains head_kinds e.kind) front → IsOfKind kind.LIBNAME name → All (λ e. Contains head_kinds e.kind) more
    → IsOfKind kind.UNITS units → All IsStructure structures → IsOfKind kind.ENDLIB last
    → IsInShape (version ∷ opening ∷ (front ++ name ∷ (more ++ units ∷ (flat_map structure_records structures ++ last ∷ []))))
parts_in_shape version opening name units last front more structures v o b n u t s l =
    record {
      library = record { version = version; opening = opening; before_name = front; name = name; before_units = more; units = units; structures = structures; last = last };
      in_grammar = record { version = v; opens = o; before_name = b; names = n; before_units = u; units = t; structures = s; ends = l };
      are_its = simp append_assoc refl;
    }

-- records that lead to the end are in shape
pub in_shape_of_end : (entries : List Entry) → place_behind before_header (kinds_of entries) ≡ Some behind_endlib → IsInShape entries
in_shape_of_end entries h =
    let version = ends_of entries before_header h in
    let opening = version.ends in
    let to_name = opening.ends in
    let name : Begins kind.LIBNAME (EndsHead kind.UNITS EndsLibrary) to_name.after = to_name.ends in
    let to_units = name.ends in
    let units : Begins kind.UNITS EndsLibrary to_units.after = to_units.ends in
    let rest : EndsLibrary units.after = units.ends in
    let last : Begins kind.ENDLIB (λ after. after ≡ []) rest.after = rest.ends in
    let same : entries ≡ version.first ∷ opening.first ∷ (to_name.items ++ name.first ∷ (to_units.items ++ units.first ∷ (flat_map structure_records rest.items ++ last.first ∷ []))) =
    cc (version.parts, opening.parts, to_name.parts, name.parts, to_units.parts, units.parts, rest.parts, last.parts, last.ends, one_each to_name.items, one_each to_units.items)
    in
    subst IsInShape (sym same)
    (parts_in_shape version.first opening.first name.first units.first last.first to_name.items to_units.items rest.items
    version.is_first opening.is_first to_name.are name.is_first to_units.are units.is_first rest.are last.is_first)
