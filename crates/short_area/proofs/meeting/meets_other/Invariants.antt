use Rattle.std.proofs.Common.{take, All}
use Rattle.short_area.proofs.KeptLaws.{IsApartFrom}
use Rattle.short_area.proofs.meeting.meets_other.Given as goal

abbrev pub invariant-loop-other : goal.invariant-loop-other
invariant-loop-other l = All (IsApartFrom l.zone) (take l.other-index l.zones)
