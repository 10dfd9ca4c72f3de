use Rattle.lists.proofs.Words.{IfOk-weaker}
use Rattle.std.proofs.Common.{Vec, subst, sym}
use Rattle.std.specs.Global.{Global}
use Rattle.net_pairs.specs.declared.weighted.Weighted.{Weighted}
use Rattle.net_pairs.specs.inside.ChangeCorners.{AreCornersOf}
use Rattle.net_pairs.proofs.StretchLaws.{changes_are}
use Rattle.net_pairs.proofs.changes.changes_of.Goals as goal

pub returns : goal.returns
returns c =
    let window = c.args.window in let rects = c.args.rects.now in
    let are = subst (AreCornersOf window rects) (sym c.as_slice.ensures.value) c.in_ok-corners.ensures in
    IfOk-weaker _ _ _
    (λ (changes : Vec Weighted Global) stretches. changes_are window rects c.as_slice.result.now changes.items are stretches)
    c.stretches_of.ensures
