use Rattle.command_line.specs.inside.Command.{positions_found, values_found}
use Rattle.command_line.specs.Requests.{of_generator}
use Rattle.command_line.proofs.OrderLaws.{beside_generate_told, generated_form, no_layout_told}
use Rattle.command_line.proofs.TaskLaws.{generated_no_other}
use Rattle.command_line.proofs.words.generated_task.Goals as goal

pub returns-then-not-is_given-clause-cause : goal.returns-then-not-is_given-clause-cause
returns-then-not-is_given-clause-cause c =
    no_layout_told (values_found c.args.matches.now) (positions_found c.args.matches.now) c.requires (rw c.if-not-is_given.true at c.is_given.ensures)

pub returns-in-Some-clause-cause : goal.returns-in-Some-clause-cause
returns-in-Some-clause-cause c =
    beside_generate_told (values_found c.args.matches.now) (positions_found c.args.matches.now) c.requires (rw c.if-not-is_given.false at c.is_given.ensures)
    c.in-Some.name c.in-Some.ensures.listed c.in-Some.ensures.some

pub number_of_given-requires-clause-form : goal.number_of_given-requires-clause-form
number_of_given-requires-clause-form c =
    generated_form (values_found c.args.matches.now) (positions_found c.args.matches.now) c.requires (rw c.if-not-is_given.false at c.is_given.ensures) c.in_default.ensures.none

pub returns-clause-task : goal.returns-clause-task
returns-clause-task c = of_generator c.requires c.in_ok-n.ensures.number

pub returns-clause-no_other : goal.returns-clause-no_other
returns-clause-no_other c = generated_no_other (values_found c.args.matches.now) c.in_default.ensures.none
