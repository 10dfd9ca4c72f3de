use Rattle.std.proofs.Common.{refl, sym, ◌∙◌}
use Rattle.lists.proofs.Words.{on_ok_weaker}
use Rattle.net_pairs.specs.inside.Meetings.{meeting}
use Rattle.net_pairs.proofs.MeetingLaws.{gains_none, lesser_point, lesser_span, meeting_gained, none_common, not_admitted, not_earlier, nothing_common}
use Rattle.net_pairs.proofs.sweeps.add_meeting.Goals as goal

pub returns-then-not-admits : goal.returns-then-not-admits
returns-then-not-admits c = gains_none (meeting c.args.window c.args.lesser c.args.point c.args.span) _
    (λ one other. not_admitted c.args.window c.args.lesser c.args.point c.args.span one other (sym c.if-not-admits.ensures))

pub returns-then-not-is_earlier : goal.returns-then-not-is_earlier
returns-then-not-is_earlier c = gains_none (meeting c.args.window c.args.lesser c.args.point c.args.span) _
    (λ one other. not_earlier c.args.window c.args.lesser c.args.point c.args.span one other (sym c.if-not-is_earlier.ensures))

pub returns-in_default : goal.returns-in_default
returns-in_default c = gains_none (meeting c.args.window c.args.lesser c.args.point c.args.span) _ (λ one other.
    nothing_common c.args.window c.args.lesser c.args.point c.args.span one other (none_common c.args.window c.args.point.rect c.args.span.rect c.in_default.ensures.none))

pub returns-then-span-point : goal.returns-then-span-point
returns-then-span-point c =
    let labels = lesser_span c.args.span.label c.args.point.label c.if-span-point.true in
    on_ok_weaker c.add.result (λ e. meeting_gained c.args.window c.args.lesser c.args.point c.args.span c.in-Some.common _ _ _ _ (sym c.if-not-admits.ensures) (sym c.if-not-is_earlier.ensures)
    labels.0 labels.1 c.in-Some.ensures.some c.count_of.ensures.count refl e) c.add.ensures

pub returns-else-span-point : goal.returns-else-span-point
returns-else-span-point c =
    let labels = lesser_point c.args.span.label c.args.point.label c.if-span-point.false in
    on_ok_weaker c.add-else-span-point.result (λ e. meeting_gained c.args.window c.args.lesser c.args.point c.args.span c.in-Some.common _ _ _ _ (sym c.if-not-admits.ensures) (sym c.if-not-is_earlier.ensures)
    labels.0 labels.1 c.in-Some.ensures.some c.count_of.ensures.count refl e) c.add-else-span-point.ensures
