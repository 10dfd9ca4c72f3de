use Rattle.std.proofs.Common.{refl}
use Rattle.half_boxes.proofs.BoxLaws.{all_in, columns_in, rows_in}
use Rattle.half_boxes.proofs.boxes.HalfBox.is_within.Goals as goal

pub returns-then-is_within : goal.returns-then-is_within
returns-then-is_within c = (
  λ h. all_in c.args.self c.args.other (c.if-is_within.ensures.0 refl) (c.is_within-then-is_within.ensures.0 h),
  λ w. c.is_within-then-is_within.ensures.1 (rows_in c.args.self c.args.other w),
)

pub returns-else-is_within : goal.returns-else-is_within
returns-else-is_within c = (λ h. absurd (cc h), λ w. absurd (cc (c.if-is_within.ensures.1 (columns_in c.args.self c.args.other w))))
