use Rattle.command_line.proofs.laws.Requests.{requests_agree}
use Rattle.command_line.proofs.laws.requests_agree.Goals as goal

pub returns : goal.returns
returns c = requests_agree
