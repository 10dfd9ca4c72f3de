use Rattle.std.proofs.Common.{arith}
use Rattle.lists.proofs.Words.{ints}
use Rattle.geo_core.proofs.IntervalLaws.{touching}
use Rattle.half_boxes.proofs.span.HalfSpan.touches.Goals as goal

pub returns-then-self-other : goal.returns-then-self-other
returns-then-self-other c =
    let ends = touching c.args.self.low c.args.self.high c.args.other.low c.args.other.high c.args.self.within.some c.args.other.within.some in (
      λ h. ends.0 (omega (arith, ints), grind (arith, ints)),
      λ t. let e = ends.1 t in let f = e.1 in grind (arith, ints),
    )
