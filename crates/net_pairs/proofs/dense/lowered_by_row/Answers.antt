use Rattle.std.proofs.Common.{List, subst}
use Rattle.net_pairs.specs.declared.weighted.Weighted.{Weighted}
use Rattle.net_pairs.specs.inside.Dense.{AreLowered}
use Rattle.net_pairs.proofs.ChangeMoves.{lowered_in_order}
use Rattle.net_pairs.proofs.dense.lowered_by_row.Goals as goal

pub returns-clause-lowered : goal.returns-clause-lowered
returns-clause-lowered c =
    lowered_in_order c.args.window c.args.changes.items _ _ (subst (λ (xs : List Weighted). AreLowered c.args.window xs c.in_ok-lower.lower.items) c.as_slice.ensures.value c.in_ok-lower.ensures) c.sort_by_row.ensures.same
