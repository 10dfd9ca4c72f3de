use Rattle.outlines.proofs.laws.JoinLaws.{part_wound_each_way}
use Rattle.rect_cover.proofs.laws.a_part_wound_each_way_is_not_covered.Goals as goal

pub returns : goal.returns
returns c = λ x0 x1 x2 y0 y1 cell first across up covered.
    covered (part_wound_each_way x0 x1 x2 y0 y1 cell first across.from across.before up.from up.before)
