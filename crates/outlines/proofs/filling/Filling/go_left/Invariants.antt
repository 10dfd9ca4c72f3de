use Rattle.std.proofs.Common.{length}
use Rattle.outlines.specs.inside.FillingRuns.{MovesRuns}
use Rattle.outlines.proofs.filling.Filling.go_left.Given as goal

abbrev pub invariant-loop-run : goal.invariant-loop-run
invariant-loop-run l = MovesRuns l.fn.self l.self

abbrev pub decreases-loop-run : goal.decreases-loop-run
decreases-loop-run l = length l.self.left.items
