use Rattle.std.proofs.Common.{List, [], take, ◌≢◌}
use Rattle.fault_model.specs.FaultNames.{IslandLists}
use Rattle.open_grid.specs.inside.ZoneNeeds.{StandForAll}
use Rattle.open_grid.specs.inside.ZoneSteps.{IsSingle, LeftStandsFor}
use Rattle.open_grid.proofs.zones.look_closer.Given as goal

abbrev pub invariant-loop-one : goal.invariant-loop-one
invariant-loop-one l =
    ((islands : List IslandLists) → StandForAll l.zone l.side l.looked islands → LeftStandsFor l.zone l.side (take l.one-index islands) l.left.items)
    × (l.left.items ≢ [] → IsSingle l.zone → ⊥)
