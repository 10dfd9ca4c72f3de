use Rattle.skyline_runs.proofs.Covering.{IsUnionTo}
use Rattle.skyline_runs.proofs.runs.union_runs.Given as goal

abbrev pub invariant-loop-rect : goal.invariant-loop-rect
invariant-loop-rect l = IsUnionTo l.skyline l.rect-items l.rect-index
