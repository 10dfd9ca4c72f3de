use Rattle.net_extract.proofs.SoFarLaws.{added_next, added_all}
use Rattle.net_extract.proofs.SlimLaws.{with_label}
use Rattle.net_extract.proofs.merging.add_all.Goals as goal

pub loop-rect-preserved : goal.loop-rect-preserved
loop-rect-preserved c =
    added_next (with_label c.args.label) c.args.rects.now c.loop-rect.rect-index _ c.rect-item.result _ _ c.loop-rect-test.true c.rect-item.is c.loop-rect.invariant c.in_ok-push.ensures.items

pub returns : goal.returns
returns c = added_all (with_label c.args.label) c.args.rects.now c.loop-rect.rect-index _ _ c.loop-rect-test.false c.loop-rect.invariant
