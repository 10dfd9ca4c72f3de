use Rattle.std.proofs.Common.{length, ◌+◌, ◌≤◌}
use Rattle.touch_sweep.proofs.SweepSteps.{GainsFirst}
use Rattle.touch_sweep.proofs.sweep.add_all.Given as goal

abbrev pub invariant-loop-other : goal.invariant-loop-other
invariant-loop-other l = record {
  found : GainsFirst l.one l.others l.other-index l.initial.pairs.items l.pairs.items;
  few : length l.pairs.items ≤ length l.initial.pairs.items + l.other-index;
}
