use Rattle.std.proofs.Common.{rules, w32, FitsSigned}
use Rattle.lists.proofs.Words.{get_or_default, to_z-of_z}
use Rattle.net_pairs.proofs.StretchLaws.{stretches_all, stretches_more}
use Rattle.net_pairs.proofs.changes.stretches_of.Goals as goal

pub loop-corner-preserved : goal.loop-corner-preserved
loop-corner-preserved c =
    stretches_more _ _ _ _ _ _ c.loop-corner.invariant _ _ c.loop-corner-test.true (get_or_default _ _ _ _ c.loop-corner-test.true) c.in_ok-last.ensures

pub returns : goal.returns
returns c =
    let fits : FitsSigned w32 c.args.window.x1 = search rules in
    let gains = simp to_z-of_z at c.in_ok-push_stretch.ensures in
    stretches_all _ _ _ _ _ _ c.loop-corner.invariant c.loop-corner-test.false gains
