use Rattle.gds_records.proofs.laws.Splits.{all_bytes_split}
use Rattle.gds_records.proofs.laws.all_bytes_split.Goals as goal

pub returns : goal.returns
returns c = all_bytes_split
