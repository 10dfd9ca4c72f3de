use Rattle.std.proofs.Common.{◌-◌, length}
use Rattle.net_extract.proofs.SlimLaws.{IsSlimTo}
use Rattle.net_extract.proofs.merging.slim_in_order.Given as goal

abbrev pub invariant-loop-start : goal.invariant-loop-start
invariant-loop-start l = IsSlimTo l.rects l.start l.slim.items

abbrev pub decreases-loop-start : goal.decreases-loop-start
decreases-loop-start l = length l.rects - l.start
