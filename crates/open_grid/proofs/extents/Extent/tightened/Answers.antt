use Rattle.std.proofs.Common.{arith}
use Rattle.lists.proofs.Words.{to_z-of_z}
use Rattle.open_grid.proofs.ExtentLaws.{max_within, min_within}
use Rattle.open_grid.proofs.extents.Extent.tightened.Goals as goal

pub invariant_of-result : goal.invariant_of-result
invariant_of-result c =
    let extent = c.args.self in
    let low = max_within extent.low _ c.args.span (grind (arith, to_z-of_z, c.max.ensures.value)) extent.low_least extent.low_most in
    let high = min_within extent.high _ c.args.span (grind (arith, to_z-of_z, c.min.ensures.value)) extent.high_least extent.high_most in
    record { low_least = low.0; low_most = low.1; high_least = high.0; high_most = high.1 }

pub returns-clause-low : goal.returns-clause-low
returns-clause-low c = grind (arith, to_z-of_z, c.max.ensures.value)

pub returns-clause-high : goal.returns-clause-high
returns-clause-high c = grind (arith, to_z-of_z, c.min.ensures.value)
