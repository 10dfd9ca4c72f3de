use Rattle.net_pairs.proofs.RunLaws.{labelled_all, labelled_more}
use Rattle.net_pairs.proofs.runs.add_labelled.Goals as goal

pub loop-rect-preserved : goal.loop-rect-preserved
loop-rect-preserved c =
    labelled_more c.args.label c.args.rects.now c.loop-rect.rect-index _ _ _ c.rect-item.result c.loop-rect-test.true c.rect-item.is c.loop-rect.invariant c.in_ok-push.ensures.items

pub returns : goal.returns
returns c = labelled_all c.args.label c.args.rects.now c.loop-rect.rect-index _ _ c.loop-rect-test.false c.loop-rect.invariant
