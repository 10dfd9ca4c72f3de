use Rattle.std.proofs.Common.{take}
use Rattle.open_grid.specs.inside.ZoneSteps.{GainsChanges}
use Rattle.open_grid.proofs.changes.add_all_changes.Given as goal

abbrev pub invariant-loop-one : goal.invariant-loop-one
invariant-loop-one l = GainsChanges l.axis l.zone l.side (take l.one-index l.near) l.initial.places.items l.places.items
