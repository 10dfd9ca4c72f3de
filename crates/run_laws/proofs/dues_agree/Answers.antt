use Rattle.run_laws.proofs.SameLaws.{dues_agree, dues_alike}
use Rattle.run_laws.proofs.dues_agree.Goals as goal

pub returns-clause-bytes : goal.returns-clause-bytes
returns-clause-bytes c = dues_agree

pub returns-clause-alike : goal.returns-clause-alike
returns-clause-alike c = dues_alike
