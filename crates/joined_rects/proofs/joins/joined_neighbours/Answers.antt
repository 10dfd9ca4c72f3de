use Rattle.joined_rects.proofs.JoinLaws.{joined_to_last, joined_to_none}
use Rattle.joined_rects.proofs.joins.joined_neighbours.Goals as goal
use Rattle.joined_rects.proofs.joins.joined_neighbours.Goals.{in-Some-both_of, in-None+in_ok-push-in-None}

pub loop-rect-preserved : goal.loop-rect-preserved
loop-rect-preserved c = elim c.match-both_of.branch [
  | in-Some-both_of w ↦ rw (w.joined-is, w.last-is)
      (joined_to_last c.args.rects.now c.loop-rect.joined.items c.in-Some.others.now c.loop-rect.rect-index c.loop-rect.last c.rect-item.result c.loop-rect-test.true c.rect-item.is
      c.loop-rect.invariant w.in-Some-both_of.both w.in-Some-both_of.ensures)
  | in-None+in_ok-push-in-None w ↦ rw (w.joined-is, w.last-is)
      (joined_to_none c.args.rects.now c.loop-rect.joined.items c.in-Some.others.now c.loop-rect.rect-index c.loop-rect.last c.rect-item.result c.loop-rect-test.true c.rect-item.is
      c.loop-rect.invariant _ w.in_ok-push-in-None.ensures.items)
]
