use Rattle.gds_records.proofs.laws.Reals.{values_agree as only_one}
use Rattle.gds_records.proofs.laws.values_agree.Goals as goal

pub returns : goal.returns
returns c = only_one
