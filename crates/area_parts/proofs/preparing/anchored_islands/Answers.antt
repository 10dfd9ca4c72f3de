use Rattle.std.proofs.Common.{◌+◌, sym, subst}
use Rattle.net_extract.specs.AnchoredIslands.{AreAnchoredIslands}
use Rattle.area_parts.specs.LayerParts.{AreAllIslands}
use Rattle.area_parts.proofs.laws.CutLaws.{one_list_more}
use Rattle.area_parts.proofs.preparing.anchored_islands.Goals as goal

pub loop-metal-preserved : goal.loop-metal-preserved
loop-metal-preserved c =
    let Is = AreAnchoredIslands c.args.nets.now in
    let made = subst (Is c.loop-metal.metal) (sym c.from_vec.ensures) c.in_ok-islands.ensures.islands in
    subst (AreAllIslands c.args.nets.now (c.loop-metal.metal + 1)) (sym c.in_ok-push.ensures.items)
    (one_list_more Is c.loop-metal.metal c.loop-metal.lists.items c.from_vec.result c.loop-metal.invariant made)
