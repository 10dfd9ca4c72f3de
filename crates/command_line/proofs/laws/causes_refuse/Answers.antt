use Rattle.command_line.proofs.CauseLaws.{refuses}
use Rattle.command_line.proofs.laws.causes_refuse.Goals as goal

pub returns : goal.returns
returns c words cause is request asks = refuses words request asks cause is
