use Rattle.lists.proofs.Words.{on_ok_weaker}
use Rattle.net_pairs.specs.inside.Dense.{AreLowered, common_weight}
use Rattle.net_pairs.specs.inside.Meetings.{GainsSum}
use Rattle.net_pairs.proofs.dense.add_changes.Goals as goal

pub returns : goal.returns
returns c =
    let window = c.args.window in
    let changes = c.args.changes.items in
    let slabs = c.args.slabs.now in
    let lower = c.as_slice-2.result.now in
    let are : AreLowered window changes lower = rw c.as_slice-2.ensures.value c.in_ok-lower.ensures.lowered in
    let first : GainsSum (common_weight window changes slabs) _ _ = rw c.as_slice.ensures.value at c.in_ok-add_common.ensures in
    on_ok_weaker c.add_common-2.result (λ gains. record { lowered = lower; mid = _; are = are; first = first; second = gains }) c.add_common-2.ensures
