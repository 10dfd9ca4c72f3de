use Rattle.std.proofs.Common.{arith, ◌≤ℤ◌, All, take}
use Rattle.lists.proofs.Words.{ints, All-nil}
use Rattle.net_pairs.proofs.MeetingLaws.{begins_all, begins_more}
use Rattle.net_pairs.proofs.search.Begins.of.Goals as goal

pub loop-point-init : goal.loop-point-init
loop-point-init c = All-nil _

pub loop-point-preserved : goal.loop-point-preserved
loop-point-preserved c = begins_more c.args.points.now c.loop-point.point-index c.point-item.result _ _ _ _ c.loop-point-test.true c.point-item.is
    c.and-begins.ensures.first.0 c.and-begins.ensures.first.1 c.and-begins.ensures.last.0 c.and-begins.ensures.last.1 c.loop-point.invariant

pub returns-clause-some : goal.returns-clause-some
returns-clause-some c = begins_all c.args.points.now c.loop-point.point-index _ _ c.loop-point-test.false c.loop-point.invariant
