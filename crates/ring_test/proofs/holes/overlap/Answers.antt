use Rattle.std.proofs.Common.{refl}
use Rattle.ring_test.proofs.HoleLaws.{boxes_overlap, columns_common, rows_common}
use Rattle.ring_test.proofs.holes.overlap.Goals as goal

pub returns-then-overlaps : goal.returns-then-overlaps
returns-then-overlaps c = (
  λ h. boxes_overlap c.args.one c.args.other (c.if-overlaps.ensures.0 refl) (c.overlaps-then-overlaps.ensures.0 h),
  λ o. c.overlaps-then-overlaps.ensures.1 (rows_common c.args.one c.args.other o),
)

pub returns-else-overlaps : goal.returns-else-overlaps
returns-else-overlaps c = (λ h. absurd (cc h), λ o. absurd (cc (c.if-overlaps.ensures.1 (columns_common c.args.one c.args.other o))))
