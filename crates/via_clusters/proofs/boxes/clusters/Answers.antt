use Rattle.std.proofs.Common.{subst, take_all}
use Rattle.lists.proofs.Words.{AllZip}
use Rattle.lists.proofs.Pairing.{AllZip-more}
use Rattle.via_clusters.proofs.ClusterBoxLaws.{IsGroupBox, are_boxes}
use Rattle.via_clusters.proofs.boxes.clusters.Goals as goal

pub loop-group-preserved : goal.loop-group-preserved
loop-group-preserved c =
    let groups = c.contact_groups-groups.result.now in
    let group = c.group-item.result in
    let is : IsGroupBox group c.bounds.result = rw c.as_slice.ensures at c.bounds.ensures in
    rw c.in_ok-push.ensures.items (AllZip-more IsGroupBox groups c.loop-group.boxes.items c.loop-group.group-index group c.bounds.result c.loop-group-test.true c.group-item.is c.loop-group.invariant
    is)

pub returns : goal.returns
returns c =
    let groups = c.contact_groups-groups.result.now in
    let all = take_all c.loop-group.group-index groups c.loop-group-test.false in
    let boxes = c.loop-group.boxes.items in
    are_boxes c.args.nets.now c.args.cut groups boxes c.contact_groups-groups.ensures (subst (λ gs. AllZip IsGroupBox gs boxes) all c.loop-group.invariant)
