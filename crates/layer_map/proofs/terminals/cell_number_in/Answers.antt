use Rattle.std.proofs.Common.{rules}
use Rattle.toml.specs.View.{view}
use Rattle.layer_map.specs.TerminalChecks.{IsCellNumber}
use Rattle.layer_map.proofs.ValueLaws.{no_integer}
use Rattle.layer_map.proofs.CellLaws.{cell_number, not_cell_number, too_high, too_low}
use Rattle.layer_map.proofs.terminals.cell_number_in.Goals as goal

pub returns-in-None : goal.returns-in-None
returns-in-None c = no_integer (λ z. z) IsCellNumber (view c.args.value.now) c.in-None.ensures

pub returns-in-Err : goal.returns-in-Err
returns-in-Err c = not_cell_number (view c.args.value.now) c.in-Some.number c.in-Some.ensures (search rules) c.in-Err.ensures

pub returns-then-number : goal.returns-then-number
returns-then-number c = too_low (view c.args.value.now) c.in-Some.number c.in-Some.ensures (search rules) c.in-Ok.number c.in-Ok.ensures c.if-number.true

pub returns-then-number-ge-FARTHEST : goal.returns-then-number-ge-FARTHEST
returns-then-number-ge-FARTHEST c = too_high (view c.args.value.now) c.in-Some.number c.in-Some.ensures (search rules) c.in-Ok.number c.in-Ok.ensures c.if-number-ge-FARTHEST.true

pub returns-else-number-ge-FARTHEST : goal.returns-else-number-ge-FARTHEST
returns-else-number-ge-FARTHEST c = cell_number (view c.args.value.now) c.in-Some.number c.in-Some.ensures (search rules) c.in-Ok.number c.in-Ok.ensures c.if-number.false c.if-number-ge-FARTHEST.false
