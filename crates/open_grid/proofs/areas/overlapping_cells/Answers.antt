use Rattle.std.proofs.Common.{List, subst, take, take_all}
use Rattle.lists.proofs.Reading.{taken_more}
use Rattle.fault_model.specs.FaultNames.{IslandLists}
use Rattle.open_grid.proofs.EachLaws.{AreOpenCells, none_open, open_more}
use Rattle.open_grid.proofs.areas.overlapping_cells.Goals as goal

pub loop-island-init : goal.loop-island-init
loop-island-init c = rw c.new-cells.ensures.items (none_open c.args.window c.args.side)

pub loop-island-preserved : goal.loop-island-preserved
loop-island-preserved c =
    let islands = c.args.islands.now in
    let i = c.loop-island.island-index in
    let island = c.island-item.result in
    let more = taken_more islands i island c.loop-island-test.true c.island-item.is in
    rw (more, c.in_ok-extend_from_slice.ensures.items, c.deref.ensures.value)
    (open_more c.args.window c.args.side (take i islands) island c.loop-island.cells.items c.in_ok-found.found.items c.loop-island.invariant c.in_ok-found.ensures)

pub returns : goal.returns
returns c =
    subst (λ (first : List IslandLists). AreOpenCells first c.args.window c.args.side c.loop-island.cells.items) (take_all c.loop-island.island-index c.args.islands.now c.loop-island-test.false)
    c.loop-island.invariant
