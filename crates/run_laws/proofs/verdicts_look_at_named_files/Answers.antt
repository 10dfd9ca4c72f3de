use Rattle.run_laws.proofs.NameLaws.{same_files_same_verdict}
use Rattle.run_laws.proofs.verdicts_look_at_named_files.Goals as goal

pub returns : goal.returns
returns c = same_files_same_verdict
