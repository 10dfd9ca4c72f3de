use Rattle.first_refusal.proofs.CheckLaws as laws
use Rattle.first_refusal.proofs.checks.first_refusals_agree.Goals as goal

pub returns : goal.returns
returns g c = laws.first_refusals_agree g.C.CheckList.holds
