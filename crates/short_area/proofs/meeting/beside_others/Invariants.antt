use Rattle.short_area.proofs.KeptLaws.{KeptSoFar}
use Rattle.short_area.proofs.meeting.beside_others.Given as goal

abbrev pub invariant-loop-zone : goal.invariant-loop-zone
invariant-loop-zone l = KeptSoFar l.zones l.zone-index l.kept.items
