use Rattle.std.proofs.Common.{take}
use Rattle.short_area.specs.inside.ZonesNearCells.{AreSplit}
use Rattle.short_area.proofs.labels.split.Given as goal

abbrev pub invariant-loop-zone : goal.invariant-loop-zone
invariant-loop-zone l = AreSplit (take l.zone-index l.zones) l.label l.own.items l.others.items
