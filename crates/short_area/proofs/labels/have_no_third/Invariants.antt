use Rattle.std.proofs.Common.{take}
use Rattle.short_area.specs.inside.ZonesNearCells.{HaveNoThird}
use Rattle.short_area.proofs.labels.have_no_third.Given as goal

abbrev pub invariant-loop-zone : goal.invariant-loop-zone
invariant-loop-zone l = HaveNoThird (take l.zone-index l.zones) l.one l.other
