use Rattle.std.proofs.Common.{◌+◌, ◌≤◌, length}
use Rattle.touch_sweep.proofs.SweepSteps.{Swept}
use Rattle.touch_sweep.proofs.sweep.sweep_some.Given as goal

abbrev pub invariant-loop-point : goal.invariant-loop-point
invariant-loop-point l = record {
  swept : Swept l.fn.points l.fn.spans l.points l.spans l.initial.pairs.items l.pairs.items;
  few : length l.pairs.items ≤ length l.initial.pairs.items + l.enough + length l.fn.points + length l.fn.spans;
  points : length l.points ≤ length l.fn.points;
  spans : length l.spans ≤ length l.fn.spans;
}

abbrev pub decreases-loop-point : goal.decreases-loop-point
decreases-loop-point l = length l.points + length l.spans
