use Rattle.command_line.proofs.ThereLaws.{requests_or_causes}
use Rattle.command_line.proofs.laws.requests_or_causes.Goals as goal

pub returns : goal.returns
returns c = requests_or_causes
