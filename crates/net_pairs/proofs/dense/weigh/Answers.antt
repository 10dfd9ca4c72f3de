use Rattle.std.proofs.Common.{length, ap, arith}
use Rattle.net_pairs.proofs.ChangeMoves.{weighed_next, weighed_whole}
use Rattle.net_pairs.proofs.dense.weigh.Goals as goal

pub loop-change-preserved : goal.loop-change-preserved
loop-change-preserved c =
    let e = ap length c.deref_mut-change-items.ensures.value in
    let t = c.loop-change-test.true in
    weighed_next c.args.window c.args.changes.now.items c.loop-change.change-items c.loop-change.change-index c.change-item.result _ (omega (arith, e, t)) c.loop-change.invariant c.change-item.is c.weighed.ensures

pub returns : goal.returns
returns c =
    let e = ap length c.deref_mut-change-items.ensures.value in
    let t = c.loop-change-test.false in
    weighed_whole c.args.window c.args.changes.now.items c.loop-change.change-items c.loop-change.change-index c.args.changes.now.len c.requires (omega (arith, e)) (omega (arith, e, t)) c.loop-change.invariant
