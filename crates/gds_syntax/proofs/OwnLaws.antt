-- what the own records of an element have, by their kinds
use Rattle.std.proofs.Common.{◌≡◌, inl, inr, refl, ap, sym, ◌∙◌, ℕ, Bool, false, List, ◌++◌, IsTrue, Contains, ◌↔◌, ◌==◌, Option, Some, None, option_map, is_some}
use Rattle.lists.proofs.Words.{Decides-eqb, Contains-append_right, Contains-append_cases}
use Rattle.std.specs.List.{IsAnyAnswer}
use Rattle.std.proofs.lemmas.List.Elements.{contains_decides, Decides-contains}
use Rattle.library_grammar.specs.GrammarNames.{Entry, field, has_kind, kinds_of}
use Rattle.library_grammar.proofs.laws.Fields.{has_kind-field}
use Rattle.library_grammar.proofs.laws.Forms.{contains_kind, has_contained}

-- what a slice answers where it is asked for a number
pub contains_as_asked : (kinds : List ℕ) (k : ℕ) (b : Bool) → IsAnyAnswer (λ y t. (y == k) ≡ t) kinds b → IsTrue b ↔ Contains kinds k
contains_as_asked kinds k b answer = Decides-contains kinds k b (contains_decides (λ y x. y == x) Decides-eqb kinds k b answer)

-- a kind that the first list has not is in both where the second has it
pub contains_in_second : (one other : List ℕ) (k : ℕ) (first second : Bool) → (IsTrue first ↔ Contains one k) → (IsTrue second ↔ Contains other k)
    → first ≡ false → IsTrue second ↔ Contains (one ++ other) k
contains_in_second one other k first second of_one of_other none =
    (λ t. Contains-append_right one other k (of_other.0 t), λ h. elim (Contains-append_cases one other k h) [ inl c ↦ cc (of_one.1 c) | inr c ↦ of_other.1 c ])

is_some_mapped : {A B : Type 0} (f : A → B) (o : Option A) → is_some (option_map f o) ≡ is_some o
is_some_mapped f None = refl
is_some_mapped f (Some a) = refl

-- there is a field of a kind exactly where the kinds have it
pub has_kind_where_found : (k : ℕ) {A : Type 0} (body : A → List ℕ) (found : Option A) (own : List Entry) → option_map body found ≡ field k own
    → IsTrue (is_some found) ↔ Contains (kinds_of own) k
has_kind_where_found k body found own e =
    let same : is_some found ≡ has_kind (kinds_of own) k = sym (is_some_mapped body found) ∙ ap is_some e ∙ sym (has_kind-field k own) in
    (λ t. contains_kind (kinds_of own) k (sym same ∙ t), λ h. same ∙ has_contained (kinds_of own) k h)
