use Rattle.std.proofs.Common.{ℕ}
use Rattle.lists.proofs.Words.{Contains-permutation, IsPermutation-sym}
use Rattle.std.proofs.lemmas.List.Sorted.{IsNonDecreasingBy-from_sort}
use Rattle.remnants.proofs.numbers.Numbers.of.Goals as goal

pub invariant_of-result : goal.invariant_of-result
invariant_of-result c = IsNonDecreasingBy-from_sort (λ (x : ℕ). x) _ c.sort_unstable.ensures.sorted

pub returns : goal.returns
returns c = λ number. (
  Contains-permutation _ _ number (IsPermutation-sym _ _ c.sort_unstable.ensures.permutation),
  Contains-permutation _ _ number c.sort_unstable.ensures.permutation,
)
