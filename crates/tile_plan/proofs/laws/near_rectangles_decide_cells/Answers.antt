use Rattle.tile_plan.proofs.laws.SeamLaws.{same_cells}
use Rattle.tile_plan.proofs.laws.near_rectangles_decide_cells.Goals as goal

pub returns : goal.returns
returns c = same_cells
