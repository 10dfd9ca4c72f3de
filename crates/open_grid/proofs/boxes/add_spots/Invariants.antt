use Rattle.std.proofs.Common.{take}
use Rattle.open_grid.specs.inside.ZoneSteps.{GainsBoxes, IsOfSpots}
use Rattle.open_grid.proofs.boxes.add_spots.Given as goal

abbrev pub invariant-loop-spot : goal.invariant-loop-spot
invariant-loop-spot l = GainsBoxes (IsOfSpots (take l.spot-index l.spots)) l.initial.boxes.items l.boxes.items
