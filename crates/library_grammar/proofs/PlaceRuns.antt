-- Records in the grammar lead on: each part of a library leads from one place to the next.
use Rattle.std.proofs.Common.{ne_eqb, ◌≡◌, ◌≢◌, ℕ, suc, false, List, [], ◌∷◌, ◌++◌, get_or, All, AllPairs, Contains, Option, Some, None, option_and_then, IfSome, refl, ap, ◌∙◌, arith, append_assoc}
use Rattle.std.proofs.Common.{◌==◌, option_to_list}
use Rattle.lists.proofs.Words.{append-nil, flat_map, map-append, All-head, All-tail, All-contains, All-from_recursion, All-map, list_any-append}
use Rattle.gds_records.specs.declared.kinds.TheConstants as kind
use Rattle.library_grammar.specs.GrammarNames.{Entry, ElementForm, element_forms, own_kinds, kinds_of, head_kinds, IsOfKind, Property, property_records, IsProperty, ElementParts, element_records}
use Rattle.library_grammar.specs.GrammarNames.{IsElement, StructureParts, structure_records, IsStructure, IsInShape, Place, before_header, before_bgnlib, before_name, before_units, between_structures}
use Rattle.library_grammar.specs.GrammarNames.{before_strname, behind_strname, between_elements, among_own, behind_attribute, behind_property, behind_endlib, has_kind, next_place, place_behind}
use Rattle.library_grammar.proofs.laws.Forms.{has_contained, begins_property, ends_element, begins_element, begins_first}

-- ---- ways

-- records lead from one place to another
abbrev pub LeadTo : Place → List Entry → Place → Type 0
LeadTo p entries q = place_behind p (kinds_of entries) ≡ Some q

-- the place behind two lists, one after the other
pub place_behind-append : (p : Place) (front more : List ℕ) → place_behind p (front ++ more) ≡ option_and_then (λ q. place_behind q more) (place_behind p front)
place_behind-append p [] more = refl
place_behind-append p (k ∷ front) more = go (next_place p k) (λ next. place_behind-append next front more)
  where
    go : (o : Option Place) → ((next : Place) → place_behind next (front ++ more) ≡ option_and_then (λ q. place_behind q more) (place_behind next front))
        → option_and_then (λ next. place_behind next (front ++ more)) o ≡ option_and_then (λ q. place_behind q more) (option_and_then (λ next. place_behind next front) o)
    go None further = refl
    go (Some next) further = further next

-- a record, and the records behind it
pub step : (p q : Place) (k : ℕ) (kinds : List ℕ) → next_place p k ≡ Some q → place_behind p (k ∷ kinds) ≡ place_behind q kinds
step p q k kinds e = ap (λ (o : Option Place). option_and_then (λ next. place_behind next kinds) o) e

-- a record of a kind, and what leads on behind it
first_leads : (k : ℕ) (p q r : Place) (e : Entry) (rest : List Entry) → IsOfKind k e → next_place p k ≡ Some q → LeadTo q rest r → LeadTo p (e ∷ rest) r
first_leads k p q r e rest is next more = step p q e.kind (kinds_of rest) (ap (next_place p) is ∙ next) ∙ more

-- two lists, one after the other
pub leads-append : (p q r : Place) (front more : List Entry) → LeadTo p front q → LeadTo q more r → LeadTo p (front ++ more) r
leads-append p q r front more first second =
    ap (place_behind p) (map-append (λ (e : Entry). e.kind) front more) ∙ place_behind-append p (kinds_of front) (kinds_of more)
    ∙ ap (λ (o : Option Place). option_and_then (λ next. place_behind next (kinds_of more)) o) first ∙ second

-- parts of which each leads back to where it began
parts_lead : {A : Type 0} (Is : A → Type 0) (records : A → List Entry) (p : Place) → ((a : A) → Is a → LeadTo p (records a) p)
    → (parts : List A) → All Is parts → LeadTo p (flat_map records parts) p
parts_lead Is records p each [] h = refl
parts_lead Is records p each (a ∷ parts) h =
    leads-append p p p (records a) (flat_map records parts) (each a (All-head Is a parts h)) (parts_lead Is records p each parts (All-tail Is a parts h))

-- ---- the head

name_stays : All (λ k. next_place before_name k ≡ Some before_name) head_kinds
name_stays = All-from_recursion (λ k. next_place before_name k ≡ Some before_name) head_kinds (refl, (refl, (refl, (refl, (refl, (refl, (refl, (refl, (refl, (refl, tt))))))))))

units_stay : All (λ k. next_place before_units k ≡ Some before_units) head_kinds
units_stay = All-from_recursion (λ k. next_place before_units k ≡ Some before_units) head_kinds (refl, (refl, (refl, (refl, (refl, (refl, (refl, (refl, (refl, (refl, tt))))))))))

head_leads : (p : Place) → All (λ k. next_place p k ≡ Some p) head_kinds → (head : List Entry) → All (λ e. Contains head_kinds e.kind) head → LeadTo p head p
head_leads p stays [] h = refl
head_leads p stays (e ∷ head) h =
    step p p e.kind (kinds_of head) (All-contains (λ k. next_place p k ≡ Some p) head_kinds e.kind stays (All-head (λ o. Contains head_kinds o.kind) e head h))
    ∙ head_leads p stays head (All-tail (λ o. Contains head_kinds o.kind) e head h)

-- ---- elements

has_neither : (own : List ℕ) (k x : ℕ) → has_kind own x ≡ false → k ≢ x → has_kind (own ++ k ∷ []) x ≡ false
has_neither own k x old new = list_any-append (λ other. other == x) own (k ∷ []) ∙ simp (old, ne_eqb k x new)

pub own_step : (form : ElementForm) (own : List ℕ) (k : ℕ) → Contains (own_kinds form) k → has_kind own k ≡ false → next_place (among_own form own) k ≡ Some (among_own form (own ++ k ∷ []))
own_step form own k listed new = rw (has_contained (own_kinds form) k listed, new)

pub own_run : (form : ElementForm) (more own : List ℕ) → All (Contains (own_kinds form)) more → All (λ k. has_kind own k ≡ false) more → AllPairs (λ one other. one ≢ other) more
    → place_behind (among_own form own) more ≡ Some (among_own form (own ++ more))
own_run form [] own are_own new once = simp append-nil
own_run form (k ∷ more) own are_own new once =
    let first = own_step form own k (All-head (Contains (own_kinds form)) k more are_own) (All-head (λ x. has_kind own x ≡ false) k more new) in
    let still : All (λ x. has_kind (own ++ k ∷ []) x ≡ false) more = λ i d l. has_neither own k (get_or more i d) (new (suc i) d (omega arith)) (once 0 (suc i) d (omega arith) (omega arith)) in
    let later : AllPairs (λ one other. one ≢ other) more = λ i j d l h. once (suc i) (suc j) d (omega arith) (omega arith) in
    step (among_own form own) (among_own form (own ++ k ∷ [])) k more first
    ∙ own_run form more (own ++ k ∷ []) (All-tail (Contains (own_kinds form)) k more are_own) still later
    ∙ ap (λ (o : List ℕ). Some (among_own form o)) (append_assoc own (k ∷ []) more)

-- properties and ENDEL, where a property may begin or the element end
closing_leads : (p : Place) → next_place p kind.PROPATTR ≡ Some behind_attribute → next_place p kind.ENDEL ≡ Some between_elements
    → (properties : List Property) (last : Entry) → All IsProperty properties → IsOfKind kind.ENDEL last
    → LeadTo p (flat_map property_records properties ++ last ∷ []) between_elements
closing_leads p begins ends [] last are is = first_leads kind.ENDEL p between_elements between_elements last [] is ends refl
closing_leads p begins ends (x ∷ properties) last are is =
    let one = All-head IsProperty x properties are in
    first_leads kind.PROPATTR p behind_attribute between_elements x.attribute (x.text ∷ (flat_map property_records properties ++ last ∷ [])) one.attribute begins
    (first_leads kind.PROPVALUE behind_attribute behind_property between_elements x.text (flat_map property_records properties ++ last ∷ []) one.text refl
    (closing_leads behind_property refl refl properties last (All-tail IsProperty x properties are) is))

-- an element, from a place where its opening record may follow
element_leads : (p : Place) → ((form : ElementForm) → Contains element_forms form → next_place p form.opening ≡ Some (among_own form []))
    → (element : ElementParts) → IsElement element → LeadTo p (element_records element) between_elements
element_leads p opens element is =
    let form : ElementForm = element.form in
    let own : List ℕ = kinds_of element.own in
    let closing : List Entry = flat_map property_records element.properties ++ element.last ∷ [] in
    first_leads form.opening p (among_own form []) between_elements element.opening (element.own ++ closing) is.opens.opening (opens form is.opens.listed)
    (leads-append (among_own form []) (among_own form own) between_elements element.own closing
    (own_run form own [] (All-map (Contains (own_kinds form)) (λ (e : Entry). e.kind) element.own is.are_own) (λ i d l. refl) is.once)
    (closing_leads (among_own form own) (begins_property own form is.opens.listed) (ends_element own form is.opens.listed) element.properties element.last is.properties is.ends))

-- elements, and ENDSTR
elements_lead : (elements : List ElementParts) (last : Entry) → All IsElement elements → IsOfKind kind.ENDSTR last
    → LeadTo between_elements (flat_map element_records elements ++ last ∷ []) between_structures
elements_lead elements last are is =
    leads-append between_elements between_elements between_structures (flat_map element_records elements) (last ∷ [])
    (parts_lead IsElement element_records between_elements (element_leads between_elements begins_element) elements are)
    (first_leads kind.ENDSTR between_elements between_structures between_structures last [] is refl refl)

-- ---- structures

named_leads : (class : Option Entry) (elements : List ElementParts) (last : Entry) → IfSome class (IsOfKind kind.STRCLASS) → All IsElement elements → IsOfKind kind.ENDSTR last
    → LeadTo behind_strname (option_to_list class ++ (flat_map element_records elements ++ last ∷ [])) between_structures
named_leads (Some c) elements last of_class are is =
    first_leads kind.STRCLASS behind_strname between_elements between_structures c (flat_map element_records elements ++ last ∷ []) of_class refl (elements_lead elements last are is)
named_leads None [] last none are is = first_leads kind.ENDSTR behind_strname between_structures between_structures last [] is refl refl
named_leads None (x ∷ elements) last none are is =
    let rest = elements_lead elements last (All-tail IsElement x elements are) is in
    let all = leads-append behind_strname between_elements between_structures (element_records x) (flat_map element_records elements ++ last ∷ [])
    (element_leads behind_strname begins_first x (All-head IsElement x elements are)) rest in
    ap (λ (es : List Entry). place_behind behind_strname (kinds_of es)) (append_assoc (element_records x) (flat_map element_records elements) (last ∷ [])) ∙ all

structure_leads : (s : StructureParts) → IsStructure s → LeadTo between_structures (structure_records s) between_structures
structure_leads s is =
    let named : List Entry = option_to_list s.class ++ (flat_map element_records s.elements ++ s.last ∷ []) in
    first_leads kind.BGNSTR between_structures before_strname between_structures s.opening (s.name ∷ named) is.opens refl
    (first_leads kind.STRNAME before_strname behind_strname between_structures s.name named is.names refl
    (named_leads s.class s.elements s.last is.class is.elements is.ends))

-- ---- the whole list

-- records in shape lead to the end
pub end_of_shape : (entries : List Entry) → IsInShape entries → LeadTo before_header entries behind_endlib
end_of_shape entries shape =
    let l = shape.library in
    let is = shape.in_grammar in
    let to_structures : List Entry = l.before_units ++ l.units ∷ [] in
    let to_units : List Entry = l.before_name ++ l.name ∷ to_structures in
    ap (λ (es : List Entry). place_behind before_header (kinds_of es)) shape.are_its
    ∙ leads-append before_header between_structures behind_endlib (l.version ∷ l.opening ∷ to_units) (flat_map structure_records l.structures ++ l.last ∷ [])
    (first_leads kind.HEADER before_header before_bgnlib between_structures l.version (l.opening ∷ to_units) is.version refl
    (first_leads kind.BGNLIB before_bgnlib before_name between_structures l.opening to_units is.opens refl
    (leads-append before_name before_name between_structures l.before_name (l.name ∷ to_structures) (head_leads before_name name_stays l.before_name is.before_name)
    (first_leads kind.LIBNAME before_name before_units between_structures l.name to_structures is.names refl
    (leads-append before_units before_units between_structures l.before_units (l.units ∷ []) (head_leads before_units units_stay l.before_units is.before_units)
    (first_leads kind.UNITS before_units between_structures between_structures l.units [] is.units refl refl))))))
    (leads-append between_structures between_structures behind_endlib (flat_map structure_records l.structures) (l.last ∷ [])
    (parts_lead IsStructure structure_records between_structures structure_leads l.structures is.structures)
    (first_leads kind.ENDLIB between_structures behind_endlib behind_endlib l.last [] is.ends refl refl))
