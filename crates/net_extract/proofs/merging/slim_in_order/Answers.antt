use Rattle.std.proofs.Common.{◌≡◌, ◌-◌, drop, take, length}
use Rattle.lists.proofs.Words.{take_rest}
use Rattle.net_extract.proofs.SlimLaws.{slim_none, slim_more, slim_all}
use Rattle.net_extract.proofs.merging.slim_in_order.Goals as goal

pub loop-start-init : goal.loop-start-init
loop-start-init c = rw c.in_ok-slim.ensures.items (slim_none c.args.rects.now)

pub loop-start-preserved : goal.loop-start-preserved
loop-start-preserved c =
    let rects = c.args.rects.now in
    let start = c.loop-start.start in
    let rest = drop start rects in
    let whole : take (length rects - start) rest ≡ rest = take_rest rects start in
    slim_more rects start c.front_of-count.result c.loop-start.slim.items c.add_merged.new.slim.items c.loop-start.invariant (rw whole at c.front_of-count.ensures.within)
    (rw whole at c.in_ok-add_merged.ensures)

pub returns : goal.returns
returns c = slim_all c.args.rects.now c.loop-start.start c.loop-start.slim.items c.loop-start-test.false c.loop-start.invariant
