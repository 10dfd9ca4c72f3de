use Rattle.std.proofs.Common.{take}
use Rattle.open_grid.proofs.EachLaws.{AreOpenCells}
use Rattle.open_grid.proofs.areas.overlapping_cells.Given as goal

abbrev pub invariant-loop-island : goal.invariant-loop-island
invariant-loop-island l = AreOpenCells (take l.island-index l.islands) l.window l.side l.cells.items
