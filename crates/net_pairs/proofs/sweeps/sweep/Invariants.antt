use Rattle.std.proofs.Common.{length, ◌+◌}
use Rattle.net_pairs.proofs.MeetingLaws.{Swept}
use Rattle.net_pairs.proofs.sweeps.sweep.Given as goal

abbrev pub invariant-loop-point : goal.invariant-loop-point
invariant-loop-point l = Swept l.window l.lesser l.fn.points l.fn.spans l.points l.spans l.fn.sums.items.items l.sums.items.items

abbrev pub decreases-loop-point : goal.decreases-loop-point
decreases-loop-point l = length l.points + length l.spans
