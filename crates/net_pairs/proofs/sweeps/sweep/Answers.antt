use Rattle.net_pairs.proofs.MeetingLaws.{no_points_left, no_spans_left, none_of, none_swept, point_done, span_done}
use Rattle.net_pairs.proofs.sweeps.sweep.Goals as goal
use Rattle.net_pairs.proofs.sweeps.sweep.Goals.{then-point-span+in_ok-add_spans, else-point-span+in_ok-add_points}

pub loop-point-init : goal.loop-point-init
loop-point-init c = none_swept c.args.window c.args.lesser c.args.points.now c.args.spans.now c.args.sums.now.items.items c.requires.points c.requires.spans

pub add_spans-requires : goal.add_spans-requires
add_spans-requires c = c.loop-point.invariant.spans_by_row

pub add_points-requires : goal.add_points-requires
add_points-requires c = c.loop-point.invariant.points_by_row

pub loop-point-preserved : goal.loop-point-preserved
loop-point-preserved c =
    let s = c.loop-point.invariant in
    elim c.if-point-span.branch [
      | then-point-span+in_ok-add_spans w ↦ rw (w.points-is, w.spans-is) (point_done s c.in-Some.point.now c.in-Some.later_points.now c.in-Some.ensures.cases.0 w.in_ok-add_spans.ensures (rw w.sums-is at c.in_ok-shrink.ensures))
      | else-point-span+in_ok-add_points w ↦ rw (w.points-is, w.spans-is)
          (span_done s c.in-Some-split_first.span.now c.in-Some-split_first.later_spans.now c.in-Some-split_first.ensures.cases.0 w.in_ok-add_points.ensures (rw w.sums-is at c.in_ok-shrink.ensures))
    ]

pub returns-in_default-split_first : goal.returns-in_default-split_first
returns-in_default-split_first c = no_spans_left c.loop-point.invariant (none_of _ c.in_default-split_first.ensures.cases)

pub returns : goal.returns
returns c = no_points_left c.loop-point.invariant (none_of _ c.in_default.ensures.cases)
