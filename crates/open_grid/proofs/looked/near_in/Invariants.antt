use Rattle.std.proofs.Common.{take}
use Rattle.open_grid.specs.inside.ZoneSteps.{AreOf, KeepsNear}
use Rattle.open_grid.proofs.looked.near_in.Given as goal

abbrev pub invariant-loop-one : goal.invariant-loop-one
invariant-loop-one l = KeepsNear l.core l.reach (take l.one-index l.near) l.kept.items × AreOf (take l.one-index l.near) l.kept.items
