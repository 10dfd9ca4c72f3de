use Rattle.std.proofs.Common.{take}
use Rattle.short_area.specs.inside.Leaders.{ArePartsIn}
use Rattle.short_area.proofs.leaders.parts_in.Given as goal

abbrev pub invariant-loop-zone : goal.invariant-loop-zone
invariant-loop-zone l = ArePartsIn (take l.zone-index l.zones) l.label l.bounds l.parts.items
