use Rattle.region_out.proofs.laws.RegionBytes.{library_reads}
use Rattle.region_out.proofs.laws.region_libraries_read.Goals as goal

pub returns : goal.returns
returns c = library_reads
