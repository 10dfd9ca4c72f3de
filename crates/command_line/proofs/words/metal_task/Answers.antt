use Rattle.std.proofs.Common.{◌∙◌, sym}
use Rattle.command_line.specs.inside.Command.{positions_found, values_found}
use Rattle.command_line.proofs.OrderLaws.{no_map_told}
use Rattle.command_line.proofs.TaskLaws.{metal_no_other, metal_task, one_is_some}
use Rattle.command_line.proofs.words.metal_task.Goals as goal

pub returns-in-Some-clause-cause : goal.returns-in-Some-clause-cause
returns-in-Some-clause-cause c =
    no_map_told (values_found c.args.matches.now) (positions_found c.args.matches.now) (one_is_some _ c.args.layout.now c.requires.layout) c.requires.no_columns
    c.requires.no_map c.in-Some.name c.in-Some.ensures.listed c.in-Some.ensures.some

pub metal_numbers-requires-clause-layout : goal.metal_numbers-requires-clause-layout
metal_numbers-requires-clause-layout c = one_is_some _ c.args.layout.now c.requires.layout

pub returns-clause-task : goal.returns-clause-task
returns-clause-task c =
    metal_task (values_found c.args.matches.now) (positions_found c.args.matches.now) c.args.layout.now c.requires.layout
    c.in_ok-layout.layout c.in_ok-numbers.numbers c.in_ok-top.top c.in_ok-layout.ensures c.in_ok-numbers.ensures.numbers (sym c.text_of.ensures ∙ c.in_ok-top.ensures)

pub returns-clause-no_other : goal.returns-clause-no_other
returns-clause-no_other c = metal_no_other (values_found c.args.matches.now) c.requires.no_map c.requires.no_columns c.in_default.ensures.none
