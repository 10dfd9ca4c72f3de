use Rattle.std.proofs.Common.{take_all}
use Rattle.net_pairs.proofs.ChangeMoves.{lowered_next, none_lowered}
use Rattle.net_pairs.proofs.dense.lowered.Goals as goal

pub loop-change-init : goal.loop-change-init
loop-change-init c = rw c.new-lowered.ensures.items (none_lowered c.args.window)

pub loop-change-preserved : goal.loop-change-preserved
loop-change-preserved c =
    lowered_next c.args.window c.args.changes.now _ _ c.loop-change.change-index c.change-item.result c.requires c.loop-change-test.true c.change-item.is c.loop-change.invariant c.in_ok-push_lower.ensures

pub returns : goal.returns
returns c = rw (take_all c.loop-change.change-index c.args.changes.now c.loop-change-test.false) at c.loop-change.invariant
