use Rattle.run_laws.proofs.SameLaws.{rows_on_agree}
use Rattle.run_laws.proofs.rows_agree.Goals as goal

pub returns : goal.returns
returns c = rows_on_agree
