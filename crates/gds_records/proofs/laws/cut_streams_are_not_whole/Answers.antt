use Rattle.gds_records.proofs.SplitLaws.{cut_is_not_whole}
use Rattle.gds_records.proofs.laws.cut_streams_are_not_whole.Goals as goal

pub returns : goal.returns
returns c = cut_is_not_whole
