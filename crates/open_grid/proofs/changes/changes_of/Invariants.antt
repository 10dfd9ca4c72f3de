use Rattle.std.proofs.Common.{take}
use Rattle.open_grid.specs.inside.ZoneSteps.{AreChanges}
use Rattle.open_grid.proofs.changes.changes_of.Given as goal

abbrev pub invariant-loop-one : goal.invariant-loop-one
invariant-loop-one l = AreChanges l.axis l.zone l.side (take l.one-index l.looked) l.places.items
