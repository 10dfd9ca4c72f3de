use Rattle.std.proofs.Common.{rules}
use Rattle.lists.proofs.Words.{dedup_is}
use Rattle.remnants.proofs.LeaderLaws.{mark_eq, same_marks}
use Rattle.remnants.proofs.OrderLaws.{ordered_by_sort}
use Rattle.remnants.proofs.marks.Marks.of.Goals as goal

pub invariant_of-result : goal.invariant_of-result
invariant_of-result c = ordered_by_sort _ _ c.sort_unstable_by_key.ensures.sorted (λ a r q k. search rules) (dedup_is mark_eq _ _ c.dedup.ensures.filtered)

pub returns : goal.returns
returns c = same_marks c.args.marks.items _ _ c.sort_unstable_by_key.ensures.permutation (dedup_is mark_eq _ _ c.dedup.ensures.filtered)
