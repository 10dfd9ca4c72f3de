use Rattle.outlines.proofs.laws.JoinLaws.{part_wound_twice}
use Rattle.rect_cover.proofs.laws.a_part_wound_twice_is_covered.Goals as goal

pub returns : goal.returns
returns c = λ x0 x1 x2 y0 y1 cell first across up none.
    let twice = part_wound_twice x0 x1 x2 y0 y1 cell first across.from across.before up.from up.before in cc
