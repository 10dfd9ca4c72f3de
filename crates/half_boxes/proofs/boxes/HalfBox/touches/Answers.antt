use Rattle.std.proofs.Common.{refl, inl, inr}
use Rattle.geo_core.proofs.IntervalLaws.{IntervalsTouch-overlap}
use Rattle.half_boxes.proofs.BoxLaws.{touch_by_axis, touch_up, touch_across}
use Rattle.half_boxes.proofs.boxes.HalfBox.touches.Goals as goal

pub returns-then-overlaps : goal.returns-then-overlaps
returns-then-overlaps c = (
  λ h. touch_up c.args.self c.args.other (c.if-overlaps.ensures.0 refl) (c.touches.ensures.0 h),
  λ t. c.touches.ensures.1 (elim (touch_by_axis c.args.self c.args.other t) [ inl k ↦ k.1 | inr k ↦ IntervalsTouch-overlap _ _ _ _ k.1 ]),
)

pub returns-then-overlaps-2 : goal.returns-then-overlaps-2
returns-then-overlaps-2 c = (
  λ h. touch_across c.args.self c.args.other (c.touches-then-overlaps-2.ensures.0 h) (c.if-overlaps-2.ensures.0 refl),
  λ t. c.touches-then-overlaps-2.ensures.1 (elim (touch_by_axis c.args.self c.args.other t) [ inl k ↦ absurd (cc (c.if-overlaps.ensures.1 k.0)) | inr k ↦ k.0 ]),
)

pub returns-else-overlaps-2 : goal.returns-else-overlaps-2
returns-else-overlaps-2 c = (
  λ h. absurd (cc h),
  λ t. elim (touch_by_axis c.args.self c.args.other t) [ inl k ↦ absurd (cc (c.if-overlaps.ensures.1 k.0)) | inr k ↦ absurd (cc (c.if-overlaps-2.ensures.1 k.1)) ],
)
