use Rattle.std.proofs.Common.{take}
use Rattle.short_area.specs.Zones.{AreAlikeIn}
use Rattle.short_area.proofs.zones.zones_in.Given as goal

abbrev pub invariant-loop-zone : goal.invariant-loop-zone
invariant-loop-zone l = AreAlikeIn l.part (take l.zone-index l.zones) l.inside.items
