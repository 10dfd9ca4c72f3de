use Rattle.gds_records.proofs.TableLaws.{rules_agree as only_one}
use Rattle.gds_records.proofs.laws.rules_agree.Goals as goal

pub returns : goal.returns
returns c = only_one
