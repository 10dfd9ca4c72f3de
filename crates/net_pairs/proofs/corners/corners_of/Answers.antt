use Rattle.lists.proofs.Words.{IfOk-weaker}
use Rattle.std.proofs.Common.{Vec, subst, sym}
use Rattle.std.specs.Global.{Global}
use Rattle.net_pairs.specs.declared.corners.Corner.{Corner}
use Rattle.net_pairs.specs.inside.ChangeCorners.{AreCornersOf}
use Rattle.net_pairs.proofs.CornerLaws.{corners_alike, corners_all, corners_begun, corners_more}
use Rattle.net_pairs.proofs.corners.corners_of.Goals as goal

pub loop-one-init : goal.loop-one-init
loop-one-init c = rw c.new-corners.ensures.items (corners_begun c.args.window c.args.rects.now)

pub loop-one-preserved : goal.loop-one-preserved
loop-one-preserved c =
    corners_more c.args.window c.args.rects.now c.loop-one.one-index _ _ c.one-item.result c.loop-one-test.true c.one-item.is c.loop-one.invariant c.in_ok-push_corners.ensures

pub returns : goal.returns
returns c =
    let window = c.args.window in let rects = c.args.rects.now in
    let are = corners_all window rects _ c.loop-one.corners.items c.loop-one-test.false c.loop-one.invariant in
    let moved = corners_alike window rects _ c.sort_corners.new.corners.items are c.sort_corners.ensures in
    let sorted = subst (AreCornersOf window rects) (sym c.as_slice.ensures.value) moved in
    IfOk-weaker _ _ _ (λ (corners : Vec Corner Global) alike. corners_alike window rects c.as_slice.result.now corners.items sorted alike) c.added_up.ensures
