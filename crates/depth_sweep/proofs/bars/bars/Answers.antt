use Rattle.std.proofs.Common.{inl, inr, refl, take}
use Rattle.lists.proofs.Reading.{taken_more}
use Rattle.depth_sweep.proofs.BarLaws.{bars_begun, one_bar, no_bar, item_side}
use Rattle.depth_sweep.proofs.bars.bars.Goals as goal
use Rattle.depth_sweep.proofs.bars.bars.Goals.{in-Some+in_ok-push, in_default}

pub bar_of-requires-clause-left : goal.bar_of-requires-clause-left
bar_of-requires-clause-left c =
    c.requires.all c.rect-item.result.x0 (item_side c.args.rects.now c.loop-rect.rect-index c.rect-item.result c.loop-rect-test.true c.rect-item.is c.rect-item.result.x0 (inl refl))

pub bar_of-requires-clause-right : goal.bar_of-requires-clause-right
bar_of-requires-clause-right c =
    c.requires.all c.rect-item.result.x1 (item_side c.args.rects.now c.loop-rect.rect-index c.rect-item.result c.loop-rect-test.true c.rect-item.is c.rect-item.result.x1 (inr refl))

pub loop-rect-init : goal.loop-rect-init
loop-rect-init c = rw c.new-bars.ensures.items (bars_begun c.args.window c.args.places.now)

pub loop-rect-preserved : goal.loop-rect-preserved
loop-rect-preserved c =
    let rects = c.args.rects.now in let k = c.loop-rect.rect-index in let rect = c.rect-item.result in
    let more = taken_more rects k rect c.loop-rect-test.true c.rect-item.is in
    elim c.match-bar_of.branch [
      | in-Some+in_ok-push w ↦ rw (more, w.bars-is, w.in_ok-push.ensures.items)
          (one_bar c.args.window (take k rects) c.args.places.now c.loop-rect.bars.items rect c.loop-rect.invariant w.in-Some.bar w.in-Some.ensures.some)
      | in_default w ↦ rw (more, w.bars-is) (no_bar c.args.window (take k rects) c.args.places.now c.loop-rect.bars.items rect c.loop-rect.invariant w.in_default.ensures.none)
    ]
