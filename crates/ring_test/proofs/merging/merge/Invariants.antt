use Rattle.std.proofs.Common.{take}
use Rattle.ring_test.specs.inside.NumberRuns.{IsMerged}
use Rattle.ring_test.proofs.merging.merge.Given as goal

abbrev pub invariant-loop-run : goal.invariant-loop-run
invariant-loop-run l = IsMerged (take l.run-index l.runs) l.merged
