use Rattle.std.proofs.Common.{rules}
use Rattle.lists.proofs.Sorting.{AllPairs-from_sort}
use Rattle.net_pairs.specs.declared.weighted.Weighted.{Weighted}
use Rattle.net_pairs.proofs.meetings.sort_by_row.Goals as goal

pub returns-clause-ordered : goal.returns-clause-ordered
returns-clause-ordered c = AllPairs-from_sort (λ (rect : Weighted). rect.rect.y0) _ c.sort_unstable_by_key.ensures.sorted (λ a r q k. search rules)
