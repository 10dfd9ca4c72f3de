use Rattle.std.proofs.Common.{arith}
use Rattle.lists.proofs.Words.{ints}
use Rattle.ring_test.proofs.laws.defects_have_rings.Goals as goal

pub returns-clause-boxes : goal.returns-clause-boxes
returns-clause-boxes c one h = (λ is. record { across = is.0; up = is.1 }, λ has. (has.across, has.up))

pub returns-clause-defects : goal.returns-clause-defects
returns-clause-defects c d s h = (λ is. is, λ is. is)

pub returns-clause-lengths : goal.returns-clause-lengths
returns-clause-lengths c d s = omega (arith, ints)
