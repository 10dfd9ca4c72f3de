use Rattle.union_area.proofs.SpanLaws.{same_all, same_more, same_none}
use Rattle.union_area.proofs.spans.joined_neighbours.Goals as goal

pub loop-rect-init : goal.loop-rect-init
loop-rect-init c = rw c.new-joined.ensures.items (same_none c.args.rects.now)

pub loop-rect-preserved : goal.loop-rect-preserved
loop-rect-preserved c = same_more _ _ _ _ _ c.loop-rect.invariant c.loop-rect-test.true c.rect-item.is c.in_ok-add.ensures

pub returns : goal.returns
returns c = same_all _ _ _ c.loop-rect-test.false c.loop-rect.invariant
