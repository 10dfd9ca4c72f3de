use Rattle.std.proofs.Common.{◌≤◌, length}
use Rattle.near_index.proofs.index.search.nearest_part.Given as goal

abbrev pub invariant-loop-number : goal.invariant-loop-number
invariant-loop-number g l = l.nearest ≤ length l.parts
