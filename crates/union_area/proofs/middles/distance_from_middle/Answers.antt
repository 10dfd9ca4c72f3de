use Rattle.std.proofs.Common.{arith}
use Rattle.lists.proofs.Words.{ints}
use Rattle.union_area.proofs.middles.distance_from_middle.Goals as goal

pub returns : goal.returns
returns c = omega (arith, ints)
