use Rattle.std.proofs.Common.{refl}
use Rattle.command_line.specs.inside.Command.{positions_found, values_found}
use Rattle.command_line.proofs.OrderLaws.{value_told}
use Rattle.command_line.proofs.TaskLaws.{cell_cause, column_cause, row_cause}
use Rattle.command_line.proofs.words.cell_given.Goals as goal

pub returns-in_default-parts-clause-cause : goal.returns-in_default-parts-clause-cause
returns-in_default-parts-clause-cause c =
    value_told (values_found c.args.matches.now) (positions_found c.args.matches.now) c.requires.form _ refl
    (cell_cause (values_found c.args.matches.now) (positions_found c.args.matches.now) c.text_of.result c.in-Some.text c.text_of.ensures c.in-Some.is
    c.in_ok-text.text c.in_default-parts.ensures.none c.in_ok-text.ensures)

pub returns-in_default-coordinate-clause-cause : goal.returns-in_default-coordinate-clause-cause
returns-in_default-coordinate-clause-cause c =
    value_told (values_found c.args.matches.now) (positions_found c.args.matches.now) c.requires.form _ refl
    (column_cause (values_found c.args.matches.now) (positions_found c.args.matches.now) c.text_of.result c.in-Some.text c.text_of.ensures c.in-Some.is
    c.in-Some-parts.column.now c.in-Some-parts.row.now c.in_ok-column.column c.in-Some-parts.ensures.some c.in_default-coordinate.ensures.none c.in_ok-column.ensures)

pub returns-in_default-coordinate-2-clause-cause : goal.returns-in_default-coordinate-2-clause-cause
returns-in_default-coordinate-2-clause-cause c =
    value_told (values_found c.args.matches.now) (positions_found c.args.matches.now) c.requires.form _ refl
    (row_cause (values_found c.args.matches.now) (positions_found c.args.matches.now) c.text_of.result c.in-Some.text c.text_of.ensures c.in-Some.is
    c.in-Some-parts.column.now c.in-Some-parts.row.now c.in_ok-row.row c.in-Some-coordinate.i c.in-Some-parts.ensures.some
    c.in-Some-coordinate.ensures.some c.in_default-coordinate-2.ensures.none c.in_ok-row.ensures)
