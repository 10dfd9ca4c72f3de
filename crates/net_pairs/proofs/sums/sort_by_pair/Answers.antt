use Rattle.net_pairs.proofs.SumLaws.{sorted_pairs}
use Rattle.net_pairs.proofs.sums.sort_by_pair.Goals as goal

pub returns-clause-ordered : goal.returns-clause-ordered
returns-clause-ordered c = sorted_pairs _ c.sort_unstable.ensures.sorted
