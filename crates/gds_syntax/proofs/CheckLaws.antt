-- The checks of an element: that they hold, and the fault of the first that fails.
use Rattle.std.proofs.Common.{◌≡◌, refl, ap, sym, ◌∙◌, subst, ℕ, ◌+◌, ◌<◌, ◌≤◌, List, ◌∷◌, ◌++◌, map, length, get_or, take, drop, All, Contains, take_all}
use Rattle.lists.proofs.Words.{map-append, take-append-drop, drop_more, All-map}
use Rattle.library_grammar.specs.GrammarNames.{IsRefusalOfFirst, IsFaultOfFirst, Entry, ElementCheck, ElementForm, has, ElementHolds, element_fault, kinds_of}
use Rattle.first_refusal.specs.Checks.{IsFirstFailing}
use Rattle.library_grammar.specs.declared.fault.SyntaxFault.TheVariants.{Missing}

-- the fault of a check that is the first to fail
pub fault_of : (at : ℕ) (own : List Entry) (checks : List ElementCheck) (check : ElementCheck) → IsFirstFailing (ElementHolds own) checks check
    → IsFaultOfFirst at own checks (element_fault at check)
fault_of at own checks check first = record { check = check; is_first = first; is_its_refusal = refl }

-- ---- the records that are needed, looked for one after the other

module _ (own : List Entry) (needed : List ℕ) where
  -- the records that were looked for are those that the element needs
  module _ (form : ElementForm) (same : needed ≡ form.required) where
    pub needed_are_there : (i : ℕ) → length needed ≤ i → All (Contains (kinds_of own)) (take i needed) → All (ElementHolds own) (map has form.required)
    needed_are_there i whole all =
        All-map (ElementHolds own) has form.required (subst (All (Contains (kinds_of own))) (take_all i needed whole ∙ same) all)

    pub first_missing : (at i : ℕ) → i < length needed → All (Contains (kinds_of own)) (take i needed) → (Contains (kinds_of own) (get_or needed i 0) → ⊥)
        → IsRefusalOfFirst (ElementHolds own) (map has form.required) (element_fault at) (Missing at (get_or needed i 0))
    first_missing at i within all none = record {
      check = has (get_or needed i 0);
      is_first = record {
        before = map has (take i needed);
        after = map has (drop (i + 1) needed);
        parts = ap (map has) (sym same ∙ sym (take-append-drop i needed) ∙ ap (λ xs. take i needed ++ xs) (drop_more needed i 0 within))
            ∙ map-append has (take i needed) (get_or needed i 0 ∷ drop (i + 1) needed);
        all_before = All-map (ElementHolds own) has (take i needed) all;
        fails = none;
      };
      is_its_refusal = refl;
    }
