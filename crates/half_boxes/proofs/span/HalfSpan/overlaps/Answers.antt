use Rattle.std.proofs.Common.{arith}
use Rattle.lists.proofs.Words.{ints}
use Rattle.geo_core.proofs.IntervalLaws.{overlapping}
use Rattle.half_boxes.proofs.span.HalfSpan.overlaps.Goals as goal

pub returns-then-self-other : goal.returns-then-self-other
returns-then-self-other c =
    let ends = overlapping c.args.self.low c.args.self.high c.args.other.low c.args.other.high c.args.self.within.some c.args.other.within.some in (
      λ h. ends.0 (omega (arith, ints), grind (arith, ints)),
      λ o. let e = ends.1 o in let f = e.1 in grind (arith, ints),
    )
