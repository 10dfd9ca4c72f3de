-- what is known of a count that rose, or stands at its last value
use Rattle.std.proofs.Common.{ℕ, ◌≤◌, arith}
use Rattle.edge_io.specs.FailureCounts.{Rose}

-- it did not fall
pub Rose-le : {old new : ℕ} → Rose old new → old ≤ new
Rose-le rose = omega (arith, rose)
