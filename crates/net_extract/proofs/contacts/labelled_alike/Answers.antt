use Rattle.lists.proofs.Reading.{map_next, map_done}
use Rattle.net_extract.proofs.SlimLaws.{with_label}
use Rattle.net_extract.proofs.contacts.labelled_alike.Goals as goal

pub loop-rect-preserved : goal.loop-rect-preserved
loop-rect-preserved c =
    map_next (with_label 0) c.args.rects.now c.loop-rect.rect-index c.rect-item.result _ _ c.loop-rect-test.true c.rect-item.is c.loop-rect.invariant c.in_ok-push.ensures.items

pub returns : goal.returns
returns c = map_done (with_label 0) c.args.rects.now c.loop-rect.rect-index _ c.loop-rect-test.false c.loop-rect.invariant
