use Rattle.std.proofs.Common.{take, take_all}
use Rattle.lists.proofs.Reading.{taken_more}
use Rattle.remnants.proofs.PieceLaws.{no_rects, rect_gained}
use Rattle.remnants.proofs.island_boxes.with_rects.Goals as goal

pub loop-rect-init : goal.loop-rect-init
loop-rect-init c = no_rects c.args.boxes.items c.args.terminal

pub loop-rect-preserved : goal.loop-rect-preserved
loop-rect-preserved c =
    let rects = c.args.rects.now in
    let k = c.loop-rect.rect-index in
    rw (taken_more rects k c.rect-item.result c.loop-rect-test.true c.rect-item.is, c.in_ok-push.ensures.items)
    (rect_gained (take k rects) c.args.terminal c.args.boxes.items c.loop-rect.more.items c.rect-item.result c.of_rect.result c.of_rect.ensures c.loop-rect.invariant)

pub returns : goal.returns
returns c = rw (take_all c.loop-rect.rect-index c.args.rects.now c.loop-rect-test.false) at c.loop-rect.invariant
