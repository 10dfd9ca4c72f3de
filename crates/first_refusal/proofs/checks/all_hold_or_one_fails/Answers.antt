use Rattle.first_refusal.proofs.CheckLaws as laws
use Rattle.first_refusal.proofs.checks.all_hold_or_one_fails.Goals as goal

pub returns : goal.returns
returns g c = laws.all_hold_or_one_fails g.C.CheckList.holds
