use Rattle.gds_records.proofs.laws.Splits.{splits_agree as only_one}
use Rattle.gds_records.proofs.laws.splits_agree.Goals as goal

pub returns : goal.returns
returns c = λ offset bytes entries others end other s t. only_one entries offset bytes others end other s t
