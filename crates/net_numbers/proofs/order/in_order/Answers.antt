use Rattle.std.proofs.Common.{rules}
use Rattle.lists.proofs.Words.{dedup_is}
use Rattle.net_numbers.proofs.OrderLaws.{cell_eq, cells_rise, same_cells, sorted_by_place}
use Rattle.net_numbers.proofs.order.in_order.Goals as goal

pub returns-clause-rising : goal.returns-clause-rising
returns-clause-rising c =
    cells_rise _ _ (sorted_by_place _ c.sort_unstable_by_key.ensures.sorted (λ a r q k. search rules)) (dedup_is cell_eq _ _ c.dedup.ensures.filtered)

pub returns-clause-same : goal.returns-clause-same
returns-clause-same c =
    rw (← c.in_ok-cells.ensures) (same_cells _ _ _ c.sort_unstable_by_key.ensures.permutation (dedup_is cell_eq _ _ c.dedup.ensures.filtered))
