use Rattle.std.proofs.Common.{arith}
use Rattle.lists.proofs.Words.{ints}
use Rattle.ring_test.proofs.holes.defect_span.Goals as goal

pub invariant_of-result : goal.invariant_of-result
invariant_of-result c = record { within = record { some = omega (arith, ints); least = omega (arith, ints); most = omega (arith, ints) } }
