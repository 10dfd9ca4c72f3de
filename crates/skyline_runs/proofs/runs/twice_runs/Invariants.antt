use Rattle.skyline_runs.proofs.TwiceCovering.{IsTwiceTo}
use Rattle.skyline_runs.proofs.runs.twice_runs.Given as goal

abbrev pub invariant-loop-rect : goal.invariant-loop-rect
invariant-loop-rect l = IsTwiceTo l.once l.twice l.rect-items l.rect-index
