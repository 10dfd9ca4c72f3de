use Rattle.command_line.proofs.TaskLaws.{number_or_default}
use Rattle.command_line.proofs.words.number_or.Goals as goal

pub returns-clause-number : goal.returns-clause-number
returns-clause-number c = number_or_default c.args.range.least c.args.range.most c.args.default _ c.in_ok-given.given c.unwrap_or.result c.in_ok-given.ensures.number c.unwrap_or.ensures
