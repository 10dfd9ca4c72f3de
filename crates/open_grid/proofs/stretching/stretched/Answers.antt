use Rattle.std.proofs.Common.{take, take_all}
use Rattle.lists.proofs.Reading.{taken_more}
use Rattle.open_grid.proofs.CellLaws.{none_stretched, stretched_more}
use Rattle.open_grid.proofs.stretching.stretched.Goals as goal

pub loop-line-init : goal.loop-line-init
loop-line-init c = rw c.in_ok-rects.ensures.items (none_stretched c.args.axis c.args.zone)

pub loop-line-preserved : goal.loop-line-preserved
loop-line-preserved c =
    let lines = c.args.lines.now in
    let k = c.loop-line.line-index in
    rw (taken_more lines k c.line-item.result c.loop-line-test.true c.line-item.is, c.in_ok-push.ensures.items)
    (stretched_more c.args.axis c.args.zone (take k lines) c.loop-line.rects.items c.line-item.result c.stretch.result c.stretch.ensures c.loop-line.invariant)

pub returns : goal.returns
returns c = rw (take_all c.loop-line.line-index c.args.lines.now c.loop-line-test.false) at c.loop-line.invariant
