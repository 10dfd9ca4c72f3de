use Rattle.command_line.proofs.CauseLaws.{stops_agree}
use Rattle.command_line.proofs.laws.stops_agree.Goals as goal

pub returns : goal.returns
returns c = stops_agree
