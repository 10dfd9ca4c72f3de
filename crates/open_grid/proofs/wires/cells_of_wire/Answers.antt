use Rattle.open_grid.proofs.WireCellLaws.{none_severing, parting_cells, severing_cells}
use Rattle.open_grid.proofs.wires.cells_of_wire.Goals as goal

pub returns-then-hulls-lt2 : goal.returns-then-hulls-lt2
returns-then-hulls-lt2 c island is = rw c.new-cells.ensures.items (none_severing c.args.wire c.args.hulls.now c.args.window c.args.side island is c.if-hulls-lt2.true)

pub returns : goal.returns
returns c island is =
    let box = c.of_rect-wire.result in
    let lost = rw c.new-cells.ensures.items at c.in_ok-add_lost.ensures in
    severing_cells c.args.wire box c.of_rect-wire.ensures c.args.hulls.now c.args.window c.args.side c.requires.some c.requires.few island is c.if-hulls-lt2.false c.add_spanning-2.new.cells.items
    (parting_cells c.args.window box c.args.hulls.now c.args.side _ _ _ _ _ _ _ _ _ _ _ c.tightest-columns.ensures.among c.tightest-columns.ensures.bounds
    c.tightest-rows.ensures.among c.tightest-rows.ensures.bounds c.of.ensures.low c.of.ensures.high c.of-2.ensures.low c.of-2.ensures.high lost c.in_ok-add_spanning.ensures c.in_ok-add_spanning-2.ensures)
