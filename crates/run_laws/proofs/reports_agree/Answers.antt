use Rattle.run_laws.proofs.SameLaws.{reports_agree}
use Rattle.run_laws.proofs.reports_agree.Goals as goal

pub returns : goal.returns
returns c = reports_agree
