use Rattle.std.proofs.Common.{arith}
use Rattle.lists.proofs.Words.{to_z-of_z}
use Rattle.geo_core.proofs.IntervalLaws.{joined, join_within}
use Rattle.half_boxes.proofs.span.HalfSpan.join.Goals as goal

pub invariant_of-result : goal.invariant_of-result
invariant_of-result c = record {
  within = join_within _ _ _ _ _ _ _ (grind (arith, to_z-of_z, c.min.ensures.value)) (grind (arith, to_z-of_z, c.max.ensures.value)) c.args.self.within c.args.other.within;
}

pub returns : goal.returns
returns c =
    joined c.args.self.low c.args.self.high c.args.other.low c.args.other.high _ _ c.args.self.within.some c.args.other.within.some (grind (arith, to_z-of_z, c.min.ensures.value))
    (grind (arith, to_z-of_z, c.max.ensures.value))
