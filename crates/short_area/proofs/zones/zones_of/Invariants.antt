use Rattle.std.proofs.Common.{take}
use Rattle.short_area.specs.Zones.{AreZonesOf}
use Rattle.short_area.proofs.zones.zones_of.Given as goal

abbrev pub invariant-loop-piece : goal.invariant-loop-piece
invariant-loop-piece l = AreZonesOf (take l.piece-index l.pieces) l.radius l.window l.zones.items
