use Rattle.region_out.proofs.laws.RegionBytes.{bytes_long}
use Rattle.region_out.proofs.laws.bytes_are_counted.Goals as goal

pub returns : goal.returns
returns c = bytes_long
