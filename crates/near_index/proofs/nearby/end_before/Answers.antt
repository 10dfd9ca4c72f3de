use Rattle.std.proofs.Common.{arith, refl}
use Rattle.lists.proofs.Words.{ints}
use Rattle.near_index.proofs.nearby.end_before.Goals as goal

pub returns-then-high-low : goal.returns-then-high-low
returns-then-high-low c = (λ t. cc, λ l. absurd (omega (arith, ints)))

pub returns : goal.returns
returns c = (λ t. omega (arith, ints), λ l. refl)
