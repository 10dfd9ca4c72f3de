use Rattle.first_refusal.proofs.CheckLaws.{none_fails, cannot_lack_both}
use Rattle.first_refusal.proofs.checks.nothing_fails_where_all_hold.Goals as goal

pub returns-clause-none : goal.returns-clause-none
returns-clause-none g c = none_fails g.C.CheckList.holds

pub returns-clause-all : goal.returns-clause-all
returns-clause-all g c checks none not_all = cannot_lack_both g.C.CheckList.holds checks not_all none
