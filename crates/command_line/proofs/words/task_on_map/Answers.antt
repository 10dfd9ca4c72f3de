use Rattle.command_line.specs.inside.Command.{positions_found, values_found}
use Rattle.command_line.specs.Requests.{of_map}
use Rattle.command_line.proofs.OrderLaws.{beside_map_told, beside_task_told, two_tasks_told}
use Rattle.command_line.proofs.TaskLaws.{mapped_no_other, one_is_some}
use Rattle.command_line.proofs.words.task_on_map.Goals as goal

pub returns-in-Some-clause-cause : goal.returns-in-Some-clause-cause
returns-in-Some-clause-cause c =
    beside_map_told (values_found c.args.matches.now) (positions_found c.args.matches.now) (one_is_some _ c.args.layout.now c.requires.layout) c.requires.no_columns
    c.in-Some.name (one_is_some _ c.args.map.now c.requires.map) c.in-Some.ensures.listed c.in-Some.ensures.some

pub returns-in_default-first_and_behind-clause-task : goal.returns-in_default-first_and_behind-clause-task
returns-in_default-first_and_behind-clause-task c = of_map c.in_ok-layout.ensures.layout c.in_ok-layout.ensures.map c.in_ok-layout.ensures.top

pub returns-in_default-first_and_behind-clause-no_other : goal.returns-in_default-first_and_behind-clause-no_other
returns-in_default-first_and_behind-clause-no_other c =
    mapped_no_other (values_found c.args.matches.now) c.requires.no_columns c.in_default.ensures.none c.in_default-first_and_behind.ensures.none

pub returns-in-Some-first_given-clause-cause : goal.returns-in-Some-first_given-clause-cause
returns-in-Some-first_given-clause-cause c =
    two_tasks_told (values_found c.args.matches.now) (positions_found c.args.matches.now) (one_is_some _ c.args.layout.now c.requires.layout) c.requires.no_columns
    (one_is_some _ c.args.map.now c.requires.map) c.in_default.ensures.none c.in-Some-first_and_behind.asked c.in-Some-first_given.also
    c.in-Some-first_and_behind.behind.now
    c.in-Some-first_and_behind.ensures.some c.in-Some-first_given.ensures.listed c.in-Some-first_given.ensures.some

pub returns-in-Some-first_given-2-clause-cause : goal.returns-in-Some-first_given-2-clause-cause
returns-in-Some-first_given-2-clause-cause c =
    beside_task_told (values_found c.args.matches.now) (positions_found c.args.matches.now) (one_is_some _ c.args.layout.now c.requires.layout) c.requires.no_columns
    (one_is_some _ c.args.map.now c.requires.map) c.in_default.ensures.none c.in-Some-first_and_behind.asked (record {
      behind = c.in-Some-first_and_behind.behind.now;
      first = c.in-Some-first_and_behind.ensures.some;
      none_behind = c.in_default-first_given.ensures.none;
    }) c.in-Some-first_given-2.name c.in-Some-first_given-2.ensures.listed c.in-Some-first_given-2.ensures.some

pub asked_task-requires-clause-one : goal.asked_task-requires-clause-one
asked_task-requires-clause-one c = record {
  no_columns = c.requires.no_columns;
  no_metal = c.in_default.ensures.none;
  no_work = c.in_default-first_given-2.ensures.none;
  alone = record {
    behind = c.in-Some-first_and_behind.behind.now;
    first = c.in-Some-first_and_behind.ensures.some;
    none_behind = c.in_default-first_given.ensures.none;
  };
}
