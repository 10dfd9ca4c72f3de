use Rattle.rect_cover.proofs.ShiftLaws.{cover_shifted}
use Rattle.rect_cover.proofs.laws.a_shifted_shape_covers_the_shifted_cells.Goals as goal

pub returns : goal.returns
returns c = cover_shifted
