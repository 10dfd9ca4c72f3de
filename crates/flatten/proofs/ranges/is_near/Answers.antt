use Rattle.std.proofs.Common.{arith}
use Rattle.lists.proofs.Words.{ints}
use Rattle.flatten.proofs.ranges.is_near.Goals as goal

pub returns-then-from-placed : goal.returns-then-from-placed
returns-then-from-placed c = grind (arith, ints)
