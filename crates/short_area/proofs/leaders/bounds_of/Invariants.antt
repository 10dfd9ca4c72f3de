use Rattle.short_area.proofs.LeaderLaws.{AreBoundsTo}
use Rattle.short_area.proofs.leaders.bounds_of.Given as goal

abbrev pub invariant-loop-zone : goal.invariant-loop-zone
invariant-loop-zone l = AreBoundsTo l.zones l.zone-index l.bounds
