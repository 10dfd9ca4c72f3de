use Rattle.std.proofs.Common.{◌+◌, List, take, sym, subst}
use Rattle.lists.proofs.Words.{AllZip, IsPermutation}
use Rattle.lists.proofs.Pairing.{AllZip-more}
use Rattle.critical_areas.proofs.indexes.indexes_of.Goals as goal

pub loop-list-preserved : goal.loop-list-preserved
loop-list-preserved g c =
    let i = c.loop-list.list-index in
    subst (AllZip IsPermutation (take (i + 1) c.args.lists.now)) (sym c.in_ok-push.ensures.items)
    (AllZip-more IsPermutation c.args.lists.now c.loop-list.indexes.items i c.list-item.result c.in_ok-new.field-0 c.loop-list-test.true c.list-item.is c.loop-list.invariant
    (subst (λ (list : List _). IsPermutation list c.in_ok-new.field-0) c.as_slice.ensures c.in_ok-new.ensures))
