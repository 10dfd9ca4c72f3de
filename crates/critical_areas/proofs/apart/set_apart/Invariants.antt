use Rattle.critical_areas.specs.inside.IslandsApart.{AreFirstApart}
use Rattle.critical_areas.proofs.apart.set_apart.Given as goal

abbrev pub invariant-loop-number : goal.invariant-loop-number
invariant-loop-number l = AreFirstApart l.islands l.number l.small.items l.large.items
