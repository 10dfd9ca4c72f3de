use Rattle.std.proofs.Common.{◌+◌, sym, subst}
use Rattle.via_clusters.specs.Clusters.{AreClusterBoxes}
use Rattle.area_parts.specs.LayerParts.{AreAllBoxes}
use Rattle.area_parts.proofs.laws.CutLaws.{one_list_more}
use Rattle.area_parts.proofs.preparing.boxes_of_clusters.Goals as goal

pub loop-cut-preserved : goal.loop-cut-preserved
loop-cut-preserved c =
    let Is = AreClusterBoxes c.args.nets.now in
    let made = subst (Is c.loop-cut.cut) (sym c.from_vec.ensures) c.in_ok-clusters.ensures in
    subst (AreAllBoxes c.args.nets.now (c.loop-cut.cut + 1)) (sym c.in_ok-push.ensures.items)
    (one_list_more Is c.loop-cut.cut c.loop-cut.lists.items c.from_vec.result c.loop-cut.invariant made)
