use Rattle.std.proofs.Common.{[], arith, refl}
use Rattle.lists.proofs.Words.{ints}
use Rattle.net_pairs.specs.inside.Meetings.{meeting, meetings_with_span}
use Rattle.net_pairs.proofs.MeetingLaws.{gains_all, gains_more, gains_none, gains_same, rest_adds_nothing, point_above}
use Rattle.net_pairs.proofs.sweeps.add_points.Goals as goal

pub loop-point-init : goal.loop-point-init
loop-point-init c = gains_none (meetings_with_span c.args.window c.args.lesser c.args.span []) _ (λ one other. refl)

pub loop-point-preserved : goal.loop-point-preserved
loop-point-preserved c = gains_more (λ point one other. meeting c.args.window c.args.lesser point c.args.span one other) c.args.points.now c.loop-point.point-index c.point-item.result c.loop-point-test.true c.point-item.is
    c.loop-point.invariant c.in_ok-add_meeting.ensures

pub returns-then-point-span : goal.returns-then-point-span
returns-then-point-span c =
    let above = c.if-point-span.true in
    gains_same _ (meetings_with_span c.args.window c.args.lesser c.args.span c.args.points.now) (λ one other.
    rest_adds_nothing c.args.points.now c.requires c.loop-point.point-index c.point-item.result c.loop-point-test.true c.point-item.is (λ point. meeting c.args.window c.args.lesser point c.args.span one other)
    (λ point higher. point_above c.args.window c.args.lesser point c.args.span one other (omega (arith, ints))))
    c.loop-point.invariant

pub returns : goal.returns
returns c = gains_all (λ point one other. meeting c.args.window c.args.lesser point c.args.span one other) c.args.points.now c.loop-point.point-index c.loop-point-test.false c.loop-point.invariant
