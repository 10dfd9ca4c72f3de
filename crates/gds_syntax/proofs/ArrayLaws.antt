-- what the checks of an array come to
use Rattle.std.proofs.Common.{◌≡◌, subst, ℕ, ℤ, pos, ◌≤ℤ◌, List, [], ◌∷◌, All}
use Rattle.lists.proofs.Words.{All-nil, All-cons}
use Rattle.first_refusal.proofs.CheckLaws.{fails_at_once, fails_later}
use Rattle.geo_core.specs.declared.plane.Point.{Point}
use Rattle.gds_syntax.proofs.CheckLaws.{fault_of}
use Rattle.library_grammar.specs.GrammarNames.{Entry, ElementCheck, ElementHolds, IsFaultOfFirst, array_checks, has_columns_and_rows, has_whole_steps, columns_of, rows_of, Leads, HasSteps}
use Rattle.library_grammar.specs.declared.fault.SyntaxFault.TheVariants.{EmptyArray, UnevenArray}

-- steps between the same points
pub leads_alike : {count told_count : ℤ} {from told_from to told_to : Point} {step : ℤ × ℤ} → told_count ≡ count → told_from ≡ from → told_to ≡ to
    → Leads told_count told_from told_to step → Leads count from to step
leads_alike {told_count = told_count} {from = from} {told_from = told_from} {to = to} {step = step} is_count is_from is_to leads =
    subst (λ n. Leads n from to step) is_count (subst (λ p. Leads told_count p to step) is_from (subst (λ p. Leads told_count told_from p step) is_to leads))

module _ (own : List Entry) where
  pub array_checks_hold : (column_step row_step : ℤ × ℤ) → pos 1 ≤ℤ columns_of own → pos 1 ≤ℤ rows_of own → HasSteps own column_step row_step
      → All (ElementHolds own) array_checks
  array_checks_hold column_step row_step columns rows steps =
      let Holds : ElementCheck → Type 0 = ElementHolds own in
      All-cons Holds has_columns_and_rows (has_whole_steps ∷ []) (columns, rows) (All-cons Holds has_whole_steps [] (column_step, row_step, steps) (All-nil Holds))

  module _ (at : ℕ) where
    pub fault_where_empty : ((pos 1 ≤ℤ columns_of own) × (pos 1 ≤ℤ rows_of own) → ⊥) → IsFaultOfFirst at own array_checks (EmptyArray at)
    fault_where_empty none = fault_of at own array_checks has_columns_and_rows (fails_at_once (ElementHolds own) has_columns_and_rows _ none)

    pub fault_where_uneven : pos 1 ≤ℤ columns_of own → pos 1 ≤ℤ rows_of own → ((column_step row_step : ℤ × ℤ) → HasSteps own column_step row_step → ⊥)
        → IsFaultOfFirst at own array_checks (UnevenArray at)
    fault_where_uneven columns rows none =
        fault_of at own array_checks has_whole_steps (fails_later (ElementHolds own) has_columns_and_rows _ has_whole_steps (columns, rows)
        (fails_at_once (ElementHolds own) has_whole_steps [] (λ (column_step, row_step, steps). none column_step row_step steps)))
