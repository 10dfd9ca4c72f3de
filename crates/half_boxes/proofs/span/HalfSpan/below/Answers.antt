use Rattle.std.proofs.Common.{arith}
use Rattle.lists.proofs.Words.{ints, to_z-of_z}
use Rattle.half_boxes.proofs.SpanLaws.{cut_below}
use Rattle.half_boxes.proofs.span.HalfSpan.below.Goals as goal

pub returns-clause-some : goal.returns-clause-some
returns-clause-some c x = cut_below c.args.self.low c.args.self.high c.args.other.low _ _ x (omega (arith, ints)) (grind (arith, to_z-of_z, c.min-high.ensures.value))
