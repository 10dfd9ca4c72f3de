use Rattle.std.proofs.Common.{take}
use Rattle.open_grid.specs.inside.ZoneSteps.{KeepsWithin}
use Rattle.open_grid.proofs.looked.boxes_within.Given as goal

abbrev pub invariant-loop-one : goal.invariant-loop-one
invariant-loop-one l = KeepsWithin l.reach (take l.one-index l.boxes) l.kept.items
