use Rattle.std.proofs.Common.{refl}
use Rattle.command_line.specs.inside.Command.{positions_found, values_found}
use Rattle.command_line.proofs.OrderLaws.{value_told}
use Rattle.command_line.proofs.TaskLaws.{number_cause}
use Rattle.command_line.proofs.words.number_given.Goals as goal

pub returns-in_default-number-clause-cause : goal.returns-in_default-number-clause-cause
returns-in_default-number-clause-cause c =
    value_told (values_found c.args.matches.now) (positions_found c.args.matches.now) c.requires.form _ refl
    (number_cause (values_found c.args.matches.now) (positions_found c.args.matches.now) c.args.name c.args.range c.text_of.result c.in-Some.text c.in_ok-text.text
    c.requires.range c.text_of.ensures c.in-Some.is c.in_default-number.ensures.none c.in_ok-text.ensures)
