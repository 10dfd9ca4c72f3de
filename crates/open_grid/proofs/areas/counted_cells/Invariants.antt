use Rattle.std.proofs.Common.{take}
use Rattle.open_grid.specs.inside.ZoneCounts.{CountsMany}
use Rattle.open_grid.proofs.EachLaws.{AreOpenCells}
use Rattle.open_grid.proofs.areas.counted_cells.Given as goal

abbrev pub invariant-loop-island : goal.invariant-loop-island
invariant-loop-island l = record {
  cells : AreOpenCells (take l.island-index l.islands) l.window l.side l.cells.items;
  counts : CountsMany (take l.island-index l.islands) l.window l.side l.initial.searches l.searches;
}
