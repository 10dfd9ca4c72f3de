use Rattle.std.proofs.Common.{[], arith, refl}
use Rattle.lists.proofs.Words.{ints}
use Rattle.net_pairs.specs.inside.Meetings.{meeting, meetings_with}
use Rattle.net_pairs.proofs.MeetingLaws.{gains_all, gains_more, gains_none, gains_same, rest_adds_nothing, span_above}
use Rattle.net_pairs.proofs.sweeps.add_spans.Goals as goal

pub loop-span-init : goal.loop-span-init
loop-span-init c = gains_none (meetings_with c.args.window c.args.lesser c.args.point []) _ (λ one other. refl)

pub loop-span-preserved : goal.loop-span-preserved
loop-span-preserved c = gains_more (λ span one other. meeting c.args.window c.args.lesser c.args.point span one other) c.args.spans.now c.loop-span.span-index c.span-item.result c.loop-span-test.true c.span-item.is
    c.loop-span.invariant c.in_ok-add_meeting.ensures

pub returns-then-span-point : goal.returns-then-span-point
returns-then-span-point c =
    let above = c.if-span-point.true in
    gains_same _ (meetings_with c.args.window c.args.lesser c.args.point c.args.spans.now) (λ one other.
    rest_adds_nothing c.args.spans.now c.requires c.loop-span.span-index c.span-item.result c.loop-span-test.true c.span-item.is (λ span. meeting c.args.window c.args.lesser c.args.point span one other)
    (λ span higher. span_above c.args.window c.args.lesser c.args.point span one other (omega (arith, ints))))
    c.loop-span.invariant

pub returns : goal.returns
returns c = gains_all (λ span one other. meeting c.args.window c.args.lesser c.args.point span one other) c.args.spans.now c.loop-span.span-index c.loop-span-test.false c.loop-span.invariant
