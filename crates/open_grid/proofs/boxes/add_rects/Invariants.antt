use Rattle.std.proofs.Common.{take, Contains}
use Rattle.open_grid.specs.inside.ZoneSteps.{GainsBoxes}
use Rattle.open_grid.proofs.boxes.add_rects.Given as goal

abbrev pub invariant-loop-rect : goal.invariant-loop-rect
invariant-loop-rect l = GainsBoxes (Contains (take l.rect-index l.rects)) l.initial.boxes.items l.boxes.items
