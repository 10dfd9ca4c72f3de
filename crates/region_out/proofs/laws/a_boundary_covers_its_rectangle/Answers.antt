use Rattle.region_out.proofs.laws.RegionCells.{boundary_covers}
use Rattle.region_out.proofs.laws.a_boundary_covers_its_rectangle.Goals as goal

pub returns : goal.returns
returns c = boundary_covers
