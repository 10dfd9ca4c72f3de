use Rattle.std.proofs.Common.{take}
use Rattle.open_grid.specs.inside.Wires.{GainsCells}
use Rattle.open_grid.proofs.WireCellLaws.{LostCells}
use Rattle.open_grid.proofs.wires.add_lost.Given as goal

abbrev pub invariant-loop-hull : goal.invariant-loop-hull
invariant-loop-hull l = GainsCells (LostCells l.fn.window l.side (take l.hull-index l.hulls)) l.initial.cells.items l.cells.items
