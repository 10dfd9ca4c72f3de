use Rattle.region_out.proofs.laws.RegionCells.{library_covers}
use Rattle.region_out.proofs.laws.the_library_covers_its_rectangles.Goals as goal

pub returns : goal.returns
returns c = library_covers
