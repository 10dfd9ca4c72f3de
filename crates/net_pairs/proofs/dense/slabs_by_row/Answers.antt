use Rattle.std.proofs.Common.{Vec}
use Rattle.lists.proofs.Words.{Global, IfOk-weaker}
use Rattle.net_pairs.specs.declared.weighted.Weighted.{Weighted}
use Rattle.net_pairs.specs.inside.RowChanges.{CoverAlike}
use Rattle.net_pairs.proofs.ChangeMoves.{slabs_in_order}
use Rattle.net_pairs.proofs.dense.slabs_by_row.Goals as goal

pub returns-clause-slabs : goal.returns-clause-slabs
returns-clause-slabs c =
    let slabs = c.as_slice.result.now in
    let alike : CoverAlike c.args.window c.args.runs.now slabs = rw c.as_slice.ensures.value c.in_ok-slabs.ensures in
    IfOk-weaker _ _ _ (λ (sorted : Vec Weighted Global) order. slabs_in_order c.args.window c.args.runs.now slabs sorted.items alike order) c.by_row.ensures.same
