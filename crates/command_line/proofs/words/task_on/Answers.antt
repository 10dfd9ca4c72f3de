use Rattle.std.proofs.Common.{[], ◌∷◌, ◌∙◌, ap, sym}
use Rattle.command_line.specs.inside.Command.{positions_found, values_found}
use Rattle.command_line.proofs.OrderLaws.{layout_beside_told}
use Rattle.command_line.proofs.TaskLaws.{no_text, one_is_some, one_text}
use Rattle.command_line.proofs.words.task_on.Goals as goal

pub returns-then-is_given-clause-cause : goal.returns-then-is_given-clause-cause
returns-then-is_given-clause-cause c =
    layout_beside_told (values_found c.args.matches.now) (positions_found c.args.matches.now) (one_is_some _ c.args.layout.now c.requires) c.in_ok-layout.layout
    (c.requires ∙ ap (λ t. t ∷ []) (sym c.in_ok-layout.ensures)) (rw c.if-is_given.true at c.is_given.ensures)

pub task_on_map-requires-clause-map : goal.task_on_map-requires-clause-map
task_on_map-requires-clause-map c = one_text c.text_of.result _ c.text_of.ensures c.in-Some.map c.in-Some.is

pub task_on_map-requires-clause-no_columns : goal.task_on_map-requires-clause-no_columns
task_on_map-requires-clause-no_columns c = rw c.if-is_given.false at c.is_given.ensures

pub metal_task-requires-clause-no_map : goal.metal_task-requires-clause-no_map
metal_task-requires-clause-no_map c = no_text c.text_of.result _ c.text_of.ensures c.in-None.is

pub metal_task-requires-clause-no_columns : goal.metal_task-requires-clause-no_columns
metal_task-requires-clause-no_columns c = rw c.if-is_given.false at c.is_given.ensures
