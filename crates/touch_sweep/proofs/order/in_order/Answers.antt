use Rattle.lists.proofs.Words.{dedup_is}
use Rattle.touch_sweep.proofs.PairSteps.{pair_eq, rising_pairs, same_pairs}
use Rattle.touch_sweep.proofs.order.in_order.Goals as goal

pub returns-clause-same : goal.returns-clause-same
returns-clause-same c = same_pairs c.args.pairs.items _ _ c.sort_unstable.ensures.permutation (dedup_is pair_eq _ _ c.dedup.ensures.filtered)

pub returns-clause-rising : goal.returns-clause-rising
returns-clause-rising c = rising_pairs _ _ c.sort_unstable.ensures.sorted (dedup_is pair_eq _ _ c.dedup.ensures.filtered)
