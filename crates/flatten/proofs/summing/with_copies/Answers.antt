use Rattle.std.proofs.Common.{arith}
use Rattle.flatten.proofs.summing.with_copies.Goals as goal

pub returns : goal.returns
returns c weight another kept kept_other = record {
  height = omega arith;
  shapes = c.kept_sum.ensures weight.shapes another.shapes (omega arith) (omega arith);
  points = c.kept_sum-2.ensures weight.points another.points (omega arith) (omega arith);
}
