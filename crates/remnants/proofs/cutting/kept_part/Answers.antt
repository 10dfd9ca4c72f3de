use Rattle.std.proofs.Common.{Option, sym, subst}
use Rattle.half_boxes.specs.HalfBoxes.{HasHalfIn}
use Rattle.half_boxes.specs.declared.boxes.HalfBox.{HalfBox}
use Rattle.remnants.proofs.CutLaws.{common_kept, none_kept}
use Rattle.remnants.proofs.cutting.kept_part.Goals as goal

pub returns-in_err-common : goal.returns-in_err-common
returns-in_err-common c =
    rw c.from_residual.ensures (none_kept c.args.inner c.args.outer c.args.part (λ h p o. absurd (c.in_err-common.ensures.none (h, p, o))))

pub returns-in_default : goal.returns-in_default
returns-in_default c = common_kept c.args.inner c.args.outer c.args.part c.in_ok-common.common c.in_ok-common.ensures.some

pub returns-else-is_within : goal.returns-else-is_within
returns-else-is_within c = common_kept c.args.inner c.args.outer c.args.part c.in_ok-common.common c.in_ok-common.ensures.some

pub returns-then-is_within : goal.returns-then-is_within
returns-then-is_within c =
    none_kept c.args.inner c.args.outer c.args.part
    (λ h p o. subst (λ (inner : Option HalfBox). HasHalfIn inner h) (sym c.in-Some.is) (c.is_within.ensures.0 c.if-is_within.true h ((c.in_ok-common.ensures.some h).1 (p, o))))
