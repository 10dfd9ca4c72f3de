use Rattle.std.proofs.Common.{◌-◌, length}
use Rattle.net_extract.specs.inside.GroupSteps.{AreFirstGroups}
use Rattle.net_extract.proofs.contact_groups.groups_in.Given as goal

abbrev pub invariant-loop-start : goal.invariant-loop-start
invariant-loop-start l = AreFirstGroups l.sorted l.start l.groups.items

abbrev pub decreases-loop-start : goal.decreases-loop-start
decreases-loop-start l = length l.sorted - l.start
