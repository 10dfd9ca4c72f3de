use Rattle.std.proofs.Common.{List, Contains, subst, inl, inr, ◌∙◌}
use Rattle.lists.proofs.Words.{Contains-append_cases, Contains-permutation, IsPermutation-sym}
use Rattle.half_boxes.specs.declared.boxes.HalfBox.{HalfBox}
use Rattle.remnants.proofs.releasing.plain_boxes.Goals as goal

pub returns : goal.returns
returns c one among = elim (Contains-append_cases _ _ one among) [
  | inl by_columns ↦ c.in_ok-by_columns.ensures one (Contains-permutation _ _ one (IsPermutation-sym _ _ c.sort_unstable_by_key.ensures.permutation) by_columns)
  | inr by_rows ↦ c.in_ok-by_columns.ensures one
      (subst (λ (xs : List HalfBox). Contains xs one) (c.in_ok-by_rows.ensures.items ∙ c.deref.ensures.value) (Contains-permutation _ _ one (IsPermutation-sym _ _ c.sort_unstable_by_key-2.ensures.permutation) by_rows))
]
