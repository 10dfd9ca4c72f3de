use Rattle.union_area.proofs.laws.PartLaws.{fewer_cells}
use Rattle.union_area.proofs.laws.parts_are_smaller.Goals as goal

pub returns : goal.returns
returns c = fewer_cells
