use Rattle.std.proofs.Common.{length, All, ◌<ℤ◌}
use Rattle.outlines.specs.inside.FillingRuns.{MovesRuns}
use Rattle.outlines.proofs.filling.Filling.go_right.Given as goal

abbrev pub invariant-loop-run : goal.invariant-loop-run
invariant-loop-run l = record {
  moved : MovesRuns l.fn.self l.self;
  left : All (λ run. run.high <ℤ l.column) l.self.left.items;
}

abbrev pub decreases-loop-run : goal.decreases-loop-run
decreases-loop-run l = length l.self.right.items
