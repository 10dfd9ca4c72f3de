use Rattle.std.proofs.Common.{take}
use Rattle.critical_areas.proofs.IslandLaws.{AreCellsOf}
use Rattle.critical_areas.proofs.apart.cells_of_islands.Given as goal

abbrev pub invariant-loop-number : goal.invariant-loop-number
invariant-loop-number l = AreCellsOf l.islands (take l.number-index l.numbers) l.window l.side l.cells.items
