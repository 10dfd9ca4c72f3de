use Rattle.area_parts.proofs.FaultLaws.{opens_of_cells}
use Rattle.area_parts.proofs.laws.opens_are_of_cells.Goals as goal

pub returns : goal.returns
returns g c layer_map metal s cell none = let same = opens_of_cells layer_map none g.L.Layout.covers metal s cell in (same.1, same.0)
