use Rattle.gds_records.proofs.laws.Bodies.{texts_agree as only_one}
use Rattle.gds_records.proofs.laws.texts_agree.Goals as goal

pub returns : goal.returns
returns c = only_one
