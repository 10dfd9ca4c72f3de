use Rattle.net_pairs.proofs.CornerLaws.{gains_clipped, gains_none}
use Rattle.net_pairs.proofs.corners.push_corners.Goals as goal

pub returns-in_ok-extend_from_slice : goal.returns-in_ok-extend_from_slice
returns-in_ok-extend_from_slice c =
    rw (c.in_ok-extend_from_slice.ensures.items, c.corners_of_rect.ensures)
    (gains_clipped c.args.window c.args.one c.in-Some.rect c.in-Some.rect.across.some c.in-Some.rect.up.some c.in-Some.ensures.some _)

pub returns-in_default : goal.returns-in_default
returns-in_default c = gains_none c.args.window c.args.one c.in_default.ensures.none _
