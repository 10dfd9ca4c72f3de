use Rattle.std.proofs.Common.{take}
use Rattle.remnants.specs.inside.IslandBoxes.{GainsHalves, IsOfSpots}
use Rattle.remnants.proofs.island_boxes.with_spots.Given as goal

abbrev pub invariant-loop-number : goal.invariant-loop-number
invariant-loop-number l = GainsHalves (IsOfSpots (take l.number l.spots)) l.fn.boxes.items l.more.items
