use Rattle.std.proofs.Common.{take}
use Rattle.short_area.specs.inside.Leaders.{AreOthers}
use Rattle.short_area.proofs.leaders.others_of.Given as goal

abbrev pub invariant-loop-zone : goal.invariant-loop-zone
invariant-loop-zone l = AreOthers (take l.zone-index l.zones) l.leader l.others.items
