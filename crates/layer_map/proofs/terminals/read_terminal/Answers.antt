use Rattle.std.proofs.Common.{[], ◌∷◌, rules, sym, w32}
use Rattle.lists.proofs.Words.{to_z-of_z}
use Rattle.layer_map.specs.ItemChecks.{reference_checks, table_checks}
use Rattle.layer_map.specs.TerminalChecks.{as_table, has_x, has_y, metal_named}
use Rattle.first_refusal.proofs.AnswerLaws.{handed_on}
use Rattle.first_refusal.proofs.JudgeLaws.{fails_first, given}
use Rattle.layer_map.proofs.EachLaws.{fails_second, part_fails, part_holds, passes_each}
use Rattle.layer_map.proofs.FindLaws.{found, none_stands, stands}
use Rattle.layer_map.proofs.terminals.read_terminal.Goals as goal

pub returns-in_err-table : goal.returns-in_err-table
returns-in_err-table c items earlier have =
    handed_on _ _ c.from_residual.result c.in_err-table.field-0.0 c.from_residual.ensures.1 (part_fails as_table table_checks _ c.in_err-table.ensures)

pub returns-in_err-metal : goal.returns-in_err-metal
returns-in_err-metal c items earlier have =
    let is = given c.in_ok-table.ensures in
    rw is (handed_on _ _ c.from_residual-in_err-metal.result c.in_err-metal.field-0.0 c.from_residual-in_err-metal.ensures.1
    (part_holds as_table table_checks _ (rw is at c.in_ok-table.ensures) (part_fails metal_named reference_checks _ (c.in_err-metal.ensures items have))))

pub returns-in-None : goal.returns-in-None
returns-in-None c items earlier have =
    let is = given c.in_ok-table.ensures in
    rw is (part_holds as_table table_checks _ (rw is at c.in_ok-table.ensures) (part_holds metal_named reference_checks _ (c.in_ok-metal.ensures items have)
    (fails_first _ _ _ has_x _ (none_stands c.in-None.ensures))))

pub returns-in-None-cell_number_at : goal.returns-in-None-cell_number_at
returns-in-None-cell_number_at c items earlier have =
    let is = given c.in_ok-table.ensures in
    rw is (part_holds as_table table_checks _ (rw is at c.in_ok-table.ensures) (part_holds metal_named reference_checks _ (c.in_ok-metal.ensures items have)
    (fails_second _ _ _ has_x has_y _ (stands (found c.in-Some.ensures)) (none_stands c.in-None-cell_number_at.ensures))))

pub returns-in-Some-cell_number_at : goal.returns-in-Some-cell_number_at
returns-in-Some-cell_number_at c items earlier have =
    let is = given c.in_ok-table.ensures in
    let named = c.in_ok-metal.ensures items have in
    let x = found c.in-Some.ensures in
    let y = found c.in-Some-cell_number_at.ensures in
    rw is (part_holds as_table table_checks _ (rw is at c.in_ok-table.ensures) (part_holds metal_named reference_checks _ named
    (passes_each _ (has_x ∷ has_y ∷ []) (stands x, (stands y, tt))
    (record {
      metal = given named;
      column = (rw (sym (to_z-of_z w32 c.in-Some.i (search rules))) at x).written;
      row = (rw (sym (to_z-of_z w32 c.in-Some-cell_number_at.j (search rules))) at y).written;
    }))))
