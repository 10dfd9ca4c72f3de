-- Where each part of a library ends is told by its records, so that records have one way to be the parts of a library.
use Rattle.std.proofs.Common.{◌≡◌, ◌≢◌, ◌⊎◌, inl, inr, ℕ, true, false, not, ◌==◌, List, [], ◌∷◌, ◌++◌, All, Contains, Option, Some, None, IfSome, refl, sym, ap, subst, ◌∙◌, arith, append_assoc}
use Rattle.std.proofs.Common.{option_to_list}
use Rattle.lists.proofs.Words.{flat_map, list_all, eqb-false, All-head, All-tail}
use Rattle.gds_records.specs.declared.kinds.TheConstants as kind
use Rattle.library_grammar.specs.GrammarNames.{Entry, ElementForm, Opens, element_forms, own_kinds, head_kinds, IsOfKind, Property, property_records, IsProperty, ElementParts, element_records}
use Rattle.library_grammar.specs.GrammarNames.{IsElement, StructureParts, structure_records, IsStructure, LibraryParts, library_records, IsInGrammar, has_kind, form_of}
use Rattle.library_grammar.proofs.PlaceEndings.{one_each}
use Rattle.library_grammar.proofs.laws.Forms.{each_form, form_test, lacked, not_true}

-- ---- parts one after the other, up to a record that begins none

module _ {A : Type 0} (Is : A → Type 0) (records : A → List Entry) (Last : Entry → Type 0)
    (one_way : (a b : A) (rest also : List Entry) → Is a → Is b → records a ++ rest ≡ records b ++ also → (a ≡ b) × (rest ≡ also))
    (begins_none : (a : A) (rest also : List Entry) (last : Entry) → Is a → Last last → records a ++ rest ≡ last ∷ also → ⊥) where
  pub parts_agree : (parts others : List A) (last end : Entry) (rest also : List Entry) → All Is parts → All Is others → Last last → Last end
      → flat_map records parts ++ last ∷ rest ≡ flat_map records others ++ end ∷ also → (parts ≡ others) × (last ≡ end) × (rest ≡ also)
  parts_agree [] [] last end rest also are are' is is' same = (refl, cc, cc)
  parts_agree [] (b ∷ others) last end rest also are are' is is' same =
      absurd (begins_none b (flat_map records others ++ end ∷ also) rest last (All-head Is b others are') is
      (sym (append_assoc (records b) (flat_map records others) (end ∷ also)) ∙ sym same))
  parts_agree (a ∷ parts) [] last end rest also are are' is is' same =
      absurd (begins_none a (flat_map records parts ++ last ∷ rest) also end (All-head Is a parts are) is'
      (sym (append_assoc (records a) (flat_map records parts) (last ∷ rest)) ∙ same))
  parts_agree (a ∷ parts) (b ∷ others) last end rest also are are' is is' same =
      let first = one_way a b (flat_map records parts ++ last ∷ rest) (flat_map records others ++ end ∷ also) (All-head Is a parts are) (All-head Is b others are')
      (sym (append_assoc (records a) (flat_map records parts) (last ∷ rest)) ∙ same ∙ append_assoc (records b) (flat_map records others) (end ∷ also)) in
      let others_agree = parts_agree parts others last end rest also (All-tail Is a parts are) (All-tail Is b others are') is is' first.1 in
      (cc (first.0, others_agree.0), others_agree.1, others_agree.2)

-- ---- single records

-- a record of one kind is none of another
other_kind : (k n : ℕ) (e o : Entry) → k ≢ n → IsOfKind k e → IsOfKind n o → e ≡ o → ⊥
other_kind k n e o differs is is' same = differs (sym is ∙ ap (λ (x : Entry). x.kind) same ∙ is')

-- records of some kinds up to one of another
module _ (Kind : ℕ → Type 0) (Last : Entry → Type 0) (apart : (e last : Entry) → Kind e.kind → Last last → e ≡ last → ⊥) where
  pub records_agree : (front other : List Entry) (last end : Entry) (rest also : List Entry) → All (λ e. Kind e.kind) front → All (λ e. Kind e.kind) other
      → Last last → Last end → front ++ last ∷ rest ≡ other ++ end ∷ also → (front ≡ other) × (last ≡ end) × (rest ≡ also)
  records_agree front other last end rest also are are' is is' same =
      parts_agree (λ e. Kind e.kind) (λ e. e ∷ []) Last (λ a b rest also _ _ same. (cc same, cc same)) (λ a rest also last is is_last same. apart a last is is_last (cc same))
      front other last end rest also are are' is is' (rw (one_each front, one_each other) same)

-- ---- properties

property_agrees : (a b : Property) (rest also : List Entry) → IsProperty a → IsProperty b → property_records a ++ rest ≡ property_records b ++ also → (a ≡ b) × (rest ≡ also)
property_agrees a b rest also is is' same =
    let attributes : a.attribute ≡ b.attribute = cc (same) in
    let texts : a.text ≡ b.text = cc (same) in
    (λ i. record { attribute = attributes i; text = texts i }, cc (same))

property_is_no_end : (a : Property) (rest also : List Entry) (last : Entry) → IsProperty a → IsOfKind kind.ENDEL last → property_records a ++ rest ≡ last ∷ also → ⊥
property_is_no_end a rest also last is is_last same = other_kind kind.PROPATTR kind.ENDEL a.attribute last (omega arith) is.attribute is_last (cc (same))

-- a record that ends own records: PROPATTR, or ENDEL
abbrev pub EndsOwn : Entry → Type 0
EndsOwn e = (e.kind ≡ kind.PROPATTR) ⊎ (e.kind ≡ kind.ENDEL)

-- what begins with one
pub record BeginsWithEnd (entries : List Entry) : Type 0 where
  pub first : Entry
  pub rest : List Entry
  pub parts : entries ≡ first ∷ rest
  pub ends : EndsOwn first

-- so do properties and ENDEL
pub closing_begins : (properties : List Property) (last : Entry) (rest : List Entry) → All IsProperty properties → IsOfKind kind.ENDEL last
    → BeginsWithEnd (flat_map property_records properties ++ last ∷ rest)
closing_begins [] last rest are is = record { first = last; rest = rest; parts = refl; ends = inr is }
closing_begins (x ∷ properties) last rest are is =
    record {
      first = x.attribute;
      rest = x.text ∷ (flat_map property_records properties ++ last ∷ rest);
      parts = refl;
      ends = inl (All-head IsProperty x properties are).attribute;
    }

-- ---- elements

-- a form is found by its opening record
pub form_is_found : (form : ElementForm) → Contains element_forms form → form_of form.opening ≡ Some form
form_is_found = each_form (λ form. form_of form.opening ≡ Some form) refl refl refl refl refl refl refl

pub forms_agree : (k : ℕ) (form other : ElementForm) → Opens k form → Opens k other → form ≡ other
forms_agree k form other a b =
    let found : Some form ≡ Some other =
    sym (form_is_found form a.listed) ∙ ap form_of (sym a.opening ∙ b.opening) ∙ form_is_found other b.listed
    in
    cc (found)

-- no own record ends the own records
own_is_no_end : (form : ElementForm) → Contains element_forms form → (e last : Entry) → Contains (own_kinds form) e.kind → EndsOwn last → e ≡ last → ⊥
own_is_no_end form listed e last own (inl attribute) same =
    let lacks = not_true _ (form_test (λ f. not (has_kind (own_kinds f) kind.PROPATTR)) refl form listed) in
    lacked (own_kinds form) kind.PROPATTR e.kind lacks own (ap (λ (x : Entry). x.kind) same ∙ attribute)
own_is_no_end form listed e last own (inr end) same =
    let lacks = not_true _ (form_test (λ f. not (has_kind (own_kinds f) kind.ENDEL)) refl form listed) in
    lacked (own_kinds form) kind.ENDEL e.kind lacks own (ap (λ (x : Entry). x.kind) same ∙ end)

-- an element with records behind it
pub element_behind : (a : ElementParts) (rest : List Entry)
    → element_records a ++ rest ≡ a.opening ∷ (a.own ++ (flat_map property_records a.properties ++ a.last ∷ rest))
element_behind a rest =
    let closing : List Entry = flat_map property_records a.properties in
    ap (λ (es : List Entry). a.opening ∷ es)
    (append_assoc a.own (closing ++ a.last ∷ []) rest ∙ ap (λ (es : List Entry). a.own ++ es) (append_assoc closing (a.last ∷ []) rest))

element_agrees : (a b : ElementParts) (rest also : List Entry) → IsElement a → IsElement b → element_records a ++ rest ≡ element_records b ++ also → (a ≡ b) × (rest ≡ also)
element_agrees a b rest also is is' same =
    let closing : List Entry = flat_map property_records a.properties ++ a.last ∷ rest in
    let closing' : List Entry = flat_map property_records b.properties ++ b.last ∷ also in
    let all : a.opening ∷ (a.own ++ closing) ≡ b.opening ∷ (b.own ++ closing') = sym (element_behind a rest) ∙ same ∙ element_behind b also in
    let openings : a.opening ≡ b.opening = cc (all) in
    let behind_them : a.own ++ closing ≡ b.own ++ closing' = cc (all) in
    let forms : a.form ≡ b.form = forms_agree a.opening.kind a.form b.form is.opens (subst (λ (e : Entry). Opens e.kind b.form) (sym openings) is'.opens) in
    let end = closing_begins a.properties a.last rest is.properties is.ends in
    let end' = closing_begins b.properties b.last also is'.properties is'.ends in
    let owns =
    records_agree (Contains (own_kinds a.form)) EndsOwn (own_is_no_end a.form is.opens.listed) a.own b.own end.first end'.first end.rest end'.rest is.are_own
    (subst (λ (f : ElementForm). All (λ e. Contains (own_kinds f) e.kind) b.own) (sym forms) is'.are_own) end.ends end'.ends
    (ap (λ (es : List Entry). a.own ++ es) (sym end.parts) ∙ behind_them ∙ ap (λ (es : List Entry). b.own ++ es) end'.parts)
    in
    let closings : closing ≡ closing' = cc (end.parts, end'.parts, owns.1, owns.2) in
    let rests =
    parts_agree IsProperty property_records (IsOfKind kind.ENDEL) property_agrees property_is_no_end a.properties b.properties a.last b.last rest also
    is.properties is'.properties is.ends is'.ends closings
    in
    (λ i. record { form = forms i; opening = openings i; own = owns.0 i; properties = rests.0 i; last = rests.1 i }, rests.2)

-- no element begins with such a record
element_begins_not : (k : ℕ) → list_all (λ f. not (f.opening == k)) element_forms ≡ true → (a : ElementParts) (rest also : List Entry) (last : Entry) → IsElement a → IsOfKind k last
    → element_records a ++ rest ≡ last ∷ also → ⊥
element_begins_not k none a rest also last is is_last same =
    other_kind a.form.opening k a.opening last (eqb-false a.form.opening k (not_true _ (form_test (λ f. not (f.opening == k)) none a.form is.opens.listed))) is.opens.opening is_last (cc (same))

-- ---- structures

-- elements, up to the end of their structure
elements_agree : (elements others : List ElementParts) (last end : Entry) (rest also : List Entry) → All IsElement elements → All IsElement others → IsOfKind kind.ENDSTR last
    → IsOfKind kind.ENDSTR end → flat_map element_records elements ++ last ∷ rest ≡ flat_map element_records others ++ end ∷ also → (elements ≡ others) × (last ≡ end) × (rest ≡ also)
elements_agree = parts_agree IsElement element_records (IsOfKind kind.ENDSTR) element_agrees (element_begins_not kind.ENDSTR refl)

-- elements and their end do not begin with a class
class_apart : (c : Entry) (rest : List Entry) (elements : List ElementParts) (last : Entry) (also : List Entry) → IsOfKind kind.STRCLASS c → All IsElement elements → IsOfKind kind.ENDSTR last
    → flat_map element_records elements ++ last ∷ also ≡ c ∷ rest → ⊥
class_apart c rest [] last also is are is_last same = other_kind kind.ENDSTR kind.STRCLASS last c (omega arith) is_last is (cc (same))
class_apart c rest (x ∷ elements) last also is are is_last same =
    element_begins_not kind.STRCLASS refl x (flat_map element_records elements ++ last ∷ also) rest c (All-head IsElement x elements are) is
    (sym (append_assoc (element_records x) (flat_map element_records elements) (last ∷ also)) ∙ same)

-- a class or none, and then elements
classes_agree : (class class' : Option Entry) (elements others : List ElementParts) (last end : Entry) (rest also : List Entry) → IfSome class (IsOfKind kind.STRCLASS)
    → IfSome class' (IsOfKind kind.STRCLASS) → All IsElement elements → All IsElement others → IsOfKind kind.ENDSTR last → IsOfKind kind.ENDSTR end
    → option_to_list class ++ (flat_map element_records elements ++ last ∷ rest) ≡ option_to_list class' ++ (flat_map element_records others ++ end ∷ also)
    → (class ≡ class') × (flat_map element_records elements ++ last ∷ rest ≡ flat_map element_records others ++ end ∷ also)
classes_agree None None elements others last end rest also c c' are are' is is' same = (refl, same)
classes_agree None (Some d) elements others last end rest also c c' are are' is is' same = absurd (class_apart d _ elements last rest c' are is same)
classes_agree (Some d) None elements others last end rest also c c' are are' is is' same = absurd (class_apart d _ others end also c are' is' (sym same))
classes_agree (Some d) (Some d') elements others last end rest also c c' are are' is is' same = let first : d ≡ d' = cc (same) in (ap (λ (e : Entry). Some e) first, cc (same))

-- a structure with records behind it
structure_behind : (s : StructureParts) (rest : List Entry)
    → structure_records s ++ rest ≡ s.opening ∷ s.name ∷ (option_to_list s.class ++ (flat_map element_records s.elements ++ s.last ∷ rest))
structure_behind s rest =
    let elements : List Entry = flat_map element_records s.elements in
    ap (λ (es : List Entry). s.opening ∷ s.name ∷ es)
    (append_assoc (option_to_list s.class) (elements ++ s.last ∷ []) rest ∙ ap (λ (es : List Entry). option_to_list s.class ++ es) (append_assoc elements (s.last ∷ []) rest))

structure_agrees : (s t : StructureParts) (rest also : List Entry) → IsStructure s → IsStructure t → structure_records s ++ rest ≡ structure_records t ++ also → (s ≡ t) × (rest ≡ also)
structure_agrees s t rest also is is' same =
    let elements : List Entry = option_to_list s.class ++ (flat_map element_records s.elements ++ s.last ∷ rest) in
    let elements' : List Entry = option_to_list t.class ++ (flat_map element_records t.elements ++ t.last ∷ also) in
    let all : s.opening ∷ s.name ∷ elements ≡ t.opening ∷ t.name ∷ elements' = sym (structure_behind s rest) ∙ same ∙ structure_behind t also in
    let openings : s.opening ≡ t.opening = cc (all) in
    let names : s.name ≡ t.name = cc (all) in
    let behind_them : elements ≡ elements' = cc (all) in
    let classes = classes_agree s.class t.class s.elements t.elements s.last t.last rest also is.class is'.class is.elements is'.elements is.ends is'.ends behind_them in
    let rests = elements_agree s.elements t.elements s.last t.last rest also is.elements is'.elements is.ends is'.ends classes.1 in
    (λ i. record { opening = openings i; name = names i; class = classes.0 i; elements = rests.0 i; last = rests.1 i }, rests.2)

structure_is_no_end : (s : StructureParts) (rest also : List Entry) (last : Entry) → IsStructure s → IsOfKind kind.ENDLIB last → structure_records s ++ rest ≡ last ∷ also → ⊥
structure_is_no_end s rest also last is is_last same = other_kind kind.BGNSTR kind.ENDLIB s.opening last (omega arith) is.opens is_last (cc (same))

-- ---- the library

-- a library as one list that is nested to the right
library_whole : (l : LibraryParts) → library_records l
    ≡ l.version ∷ l.opening ∷ (l.before_name ++ l.name ∷ (l.before_units ++ l.units ∷ (flat_map structure_records l.structures ++ l.last ∷ [])))
library_whole l = simp append_assoc refl

-- records of the head, up to one of another kind
head_agrees : (k : ℕ) → has_kind head_kinds k ≡ false → (front other : List Entry) (last end : Entry) (rest also : List Entry)
    → All (λ e. Contains head_kinds e.kind) front → All (λ e. Contains head_kinds e.kind) other → IsOfKind k last → IsOfKind k end → front ++ last ∷ rest ≡ other ++ end ∷ also
    → (front ≡ other) × (last ≡ end) × (rest ≡ also)
head_agrees k lacks =
    records_agree (Contains head_kinds) (IsOfKind k) (λ e last has is same. lacked head_kinds k e.kind lacks has (ap (λ (x : Entry). x.kind) same ∙ is))

pub libraries_agree : (l m : LibraryParts) → IsInGrammar l → IsInGrammar m → library_records l ≡ library_records m → l ≡ m
libraries_agree l m is is' same =
    let rest : List Entry = flat_map structure_records l.structures ++ l.last ∷ [] in
    let rest' : List Entry = flat_map structure_records m.structures ++ m.last ∷ [] in
    let all : l.version ∷ l.opening ∷ (l.before_name ++ l.name ∷ (l.before_units ++ l.units ∷ rest)) ≡ m.version ∷ m.opening ∷ (m.before_name ++ m.name ∷ (m.before_units ++ m.units ∷ rest')) =
    sym (library_whole l) ∙ same ∙ library_whole m
    in
    let versions : l.version ≡ m.version = cc (all) in
    let openings : l.opening ≡ m.opening = cc (all) in
    let names =
    head_agrees kind.LIBNAME refl l.before_name m.before_name l.name m.name (l.before_units ++ l.units ∷ rest) (m.before_units ++ m.units ∷ rest') is.before_name is'.before_name is.names is'.names
    (cc (all))
    in
    let units = head_agrees kind.UNITS refl l.before_units m.before_units l.units m.units rest rest' is.before_units is'.before_units is.units is'.units names.2 in
    let structures =
    parts_agree IsStructure structure_records (IsOfKind kind.ENDLIB) structure_agrees structure_is_no_end l.structures m.structures l.last m.last [] []
    is.structures is'.structures is.ends is'.ends units.2
    in
    λ i. record {
      version = versions i;
      opening = openings i;
      before_name = names.0 i;
      name = names.1 i;
      before_units = units.0 i;
      units = units.1 i;
      structures = structures.0 i;
      last = structures.1 i;
    }
