use Rattle.first_refusal.proofs.CheckLaws.{first_failures_agree}
use Rattle.first_refusal.proofs.checks.first_failures_agree.Goals as goal

pub returns : goal.returns
returns g c = first_failures_agree g.C.CheckList.holds
