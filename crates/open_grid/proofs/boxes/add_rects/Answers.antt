use Rattle.std.proofs.Common.{take_all}
use Rattle.open_grid.proofs.BoxLaws.{no_rects, rects_more}
use Rattle.open_grid.proofs.boxes.add_rects.Goals as goal

pub loop-rect-init : goal.loop-rect-init
loop-rect-init c = no_rects c.args.boxes.now.items

pub loop-rect-preserved : goal.loop-rect-preserved
loop-rect-preserved c =
    rects_more c.args.rects.now c.loop-rect.rect-index c.rect-item.result c.of_rect.result c.args.boxes.now.items c.loop-rect.boxes.items c.push.new.self.items c.loop-rect-test.true c.rect-item.is
    c.of_rect.ensures c.in_ok-push.ensures.items c.loop-rect.invariant

pub returns : goal.returns
returns c = rw (take_all c.loop-rect.rect-index c.args.rects.now c.loop-rect-test.false) at c.loop-rect.invariant
