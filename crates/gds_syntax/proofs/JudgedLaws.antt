-- answers to checks, put together from answers to parts of them
use Rattle.std.proofs.Common.{◌≡◌, sym, subst, ℕ, List, [], ◌∷◌, ◌++◌, map, length, Option, Some, None, Result, Ok, Err, All, IsErrAnd}
use Rattle.lists.proofs.Words.{All-nil, All-cons}
use Rattle.library_grammar.specs.GrammarNames.{gives, refuses, refused, Checks, all_hold, one_fails, Entry, ElementForm, IsCount, ElementCheck, has, has_right_count, ElementHolds, element_checks, element_fault, checks_of_sort, IsFaultOfFirst, Judges, IsKept, points_of}
use Rattle.first_refusal.proofs.AnswerLaws.{handed_on}
use Rattle.first_refusal.proofs.JudgeLaws.{stops, goes_on, fails_first, unread}
use Rattle.gds_syntax.specs.ElementKinds.{form_for}
use Rattle.library_model.specs.declared.element.Element.{Element}
use Rattle.gds_syntax.specs.declared.element_kind.ElementKind.{ElementKind}
use Rattle.library_grammar.specs.declared.fault.SyntaxFault.{SyntaxFault}
use Rattle.library_grammar.specs.declared.fault.SyntaxFault.TheVariants.{Memory, PointCount}

module _ (at : ℕ) (own : List Entry) where
  -- a check in front fails
  pub fault_in_front : {T : Type 0} (Is : T → Type 0) (front rest : List ElementCheck) (fault : SyntaxFault) → IsFaultOfFirst at own front fault → Judges at own (front ++ rest) Is (Err fault)
  fault_in_front Is front rest fault f = stops (ElementHolds own) (element_fault at) Is Is front rest fault (refuses (one_fails f))

  module _ {T : Type 0} (form : ElementForm) (Is : T → Type 0) (required : All (ElementHolds own) (map has form.required)) where
    -- the records that are needed are there, and what stands behind them decides
    behind_required : (result : Result T SyntaxFault) → Judges at own (has_right_count form.points ∷ checks_of_sort form.sort) Is result → Judges at own (element_checks form) Is result
    behind_required result judged = goes_on (ElementHolds own) (element_fault at) Is (map has form.required) (has_right_count form.points ∷ checks_of_sort form.sort) result required judged

    pub wrong_count : (IsCount form.points (length (points_of own)) → ⊥) → Judges at own (element_checks form) Is (Err (PointCount at))
    wrong_count not = behind_required (Err (PointCount at)) (fails_first (ElementHolds own) (element_fault at) Is (has_right_count form.points) (checks_of_sort form.sort) not)

    pub judged_whole : (result : Result T SyntaxFault) → IsCount form.points (length (points_of own)) → Judges at own (checks_of_sort form.sort) Is result
        → Judges at own (element_checks form) Is result
    judged_whole result count judged =
        behind_required result (goes_on (ElementHolds own) (element_fault at) Is (has_right_count form.points ∷ []) (checks_of_sort form.sort) result
        (All-cons (ElementHolds own) (has_right_count form.points) [] count (All-nil (ElementHolds own))) judged)

  -- what was found faulty
  pub found_faulty : {T : Type 0} {checks : List ElementCheck} {Is : T → Type 0} {fault : SyntaxFault} → Checks (ElementHolds own) checks (element_fault at) Is (refused fault)
      → IsFaultOfFirst at own checks fault
  found_faulty (one_fails f) = f

-- ---- what is kept of an element by its kind

module _ (at : ℕ) (own : List Entry) where
  -- the answer for an element of this kind that has enough points
  abbrev pub IsAnswer : ElementKind → Result (Option Element) SyntaxFault → Type 0
  IsAnswer kind result = Judges at own (checks_of_sort (form_for kind).sort) (IsKept at own (form_for kind).opening) result

  pub keeps : {T : Type 0} {kind other : ElementKind} {Is : T → Type 0} {t : T} {element : Element} → kind ≡ other
      → Judges at own (checks_of_sort (form_for other).sort) Is (Ok t) → (Is t → IsKept at own (form_for other).opening (Some element))
      → IsAnswer kind (Ok (Some element))
  keeps {element = element} same (gives (all_hold all is)) kept = subst (λ k. IsAnswer k (Ok (Some element))) (sym same) (gives (all_hold all (kept is)))

  pub without_checks : {T : Type 0} {Is : T → Type 0} {t : T} → Is t → Judges at own [] Is (Ok t)
  without_checks is = gives (all_hold (All-nil (ElementHolds own)) is)

  pub keeps_none : {kind other : ElementKind} → kind ≡ other → checks_of_sort (form_for other).sort ≡ [] → IsKept at own (form_for other).opening None
      → IsAnswer kind (Ok None)
  keeps_none {other = other} same none kept =
      let none_fails : All (ElementHolds own) (checks_of_sort (form_for other).sort) = subst (All (ElementHolds own)) (sym none) (All-nil (ElementHolds own)) in
      subst (λ k. IsAnswer k (Ok None)) (sym same) (gives (all_hold none_fails kept))

  pub has_fault : {T : Type 0} {kind other : ElementKind} {Is : T → Type 0} {fault : SyntaxFault} (result : Result (Option Element) SyntaxFault) → kind ≡ other
      → Judges at own (checks_of_sort (form_for other).sort) Is (Err fault) → IsErrAnd result (λ f. f ≡ fault) → IsAnswer kind result
  has_fault {other = other} {Is = Is} {fault = fault} result same judged h =
      let checks : List ElementCheck = checks_of_sort (form_for other).sort in
      let Kept : Option Element → Type 0 = IsKept at own (form_for other).opening in
      subst (λ k. IsAnswer k result) (sym same) (handed_on Memory (Checks (ElementHolds own) checks (element_fault at) Kept) result fault h
      (unread (ElementHolds own) (element_fault at) Is Kept checks fault judged))
