use Rattle.std.proofs.Common.{List, subst, sym, take, take_all}
use Rattle.lists.proofs.Reading.{taken_more}
use Rattle.fault_model.specs.FaultNames.{IslandLists}
use Rattle.open_grid.specs.inside.ZoneCounts.{CountsMany}
use Rattle.open_grid.proofs.EachLaws.{AreOpenCells, counted_more, counted_so_far, none_counted, none_open, open_more}
use Rattle.open_grid.proofs.areas.counted_cells.Goals as goal

pub loop-island-init : goal.loop-island-init
loop-island-init c = record {
  cells = rw c.new-cells.ensures.items (none_open c.args.window c.args.side);
  counts = none_counted c.args.window c.args.side c.args.searches.now;
}

pub loop-island-preserved : goal.loop-island-preserved
loop-island-preserved c =
    let islands = c.args.islands.now in
    let i = c.loop-island.island-index in
    let island = c.island-item.result in
    let so_far = c.loop-island.invariant in
    let more = taken_more islands i island c.loop-island-test.true c.island-item.is in
    let found = c.in_ok-found.found.items in
    record {
      cells = rw (more, c.in_ok-extend_from_slice.ensures.items, c.deref.ensures.value)
          (open_more c.args.window c.args.side (take i islands) island c.loop-island.cells.items found so_far.cells c.in_ok-found.ensures.cells);
      counts = subst (λ (first : List IslandLists). CountsMany first c.args.window c.args.side c.args.searches.now c.cells_of_island.new.searches) (sym more)
          (counted_more c.args.window c.args.side (take i islands) island c.args.searches.now c.loop-island.searches c.cells_of_island.new.searches so_far.counts
          c.cells_of_island.ensures.never_falls c.cells_of_island.ensures.rises_by_many);
    }

pub returns-in_err-found-clause-rises_by_many : goal.returns-in_err-found-clause-rises_by_many
returns-in_err-found-clause-rises_by_many c =
    (counted_so_far c.args.window c.args.side c.args.islands.now c.loop-island.island-index c.island-item.result c.loop-island-test.true c.island-item.is c.args.searches.now c.loop-island.searches
    c.cells_of_island.new.searches c.loop-island.invariant.counts c.cells_of_island.ensures.never_falls c.cells_of_island.ensures.rises_by_many).rises_by_many

pub returns-in_err-extend_from_slice-clause-rises_by_many : goal.returns-in_err-extend_from_slice-clause-rises_by_many
returns-in_err-extend_from_slice-clause-rises_by_many c =
    (counted_so_far c.args.window c.args.side c.args.islands.now c.loop-island.island-index c.island-item.result c.loop-island-test.true c.island-item.is c.args.searches.now c.loop-island.searches
    c.cells_of_island.new.searches c.loop-island.invariant.counts c.cells_of_island.ensures.never_falls c.cells_of_island.ensures.rises_by_many).rises_by_many

pub returns-clause-cells : goal.returns-clause-cells
returns-clause-cells c =
    subst (λ (first : List IslandLists). AreOpenCells first c.args.window c.args.side c.loop-island.cells.items) (take_all c.loop-island.island-index c.args.islands.now c.loop-island-test.false)
    c.loop-island.invariant.cells

pub returns-clause-rises_by_many : goal.returns-clause-rises_by_many
returns-clause-rises_by_many c =
    (subst (λ (first : List IslandLists). CountsMany first c.args.window c.args.side c.args.searches.now c.loop-island.searches)
    (take_all c.loop-island.island-index c.args.islands.now c.loop-island-test.false) c.loop-island.invariant.counts).rises_by_many
