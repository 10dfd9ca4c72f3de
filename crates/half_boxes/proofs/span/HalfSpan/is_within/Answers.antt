use Rattle.std.proofs.Common.{arith}
use Rattle.lists.proofs.Words.{ints}
use Rattle.half_boxes.proofs.SpanLaws.{within}
use Rattle.half_boxes.proofs.span.HalfSpan.is_within.Goals as goal

pub returns-then-other-self : goal.returns-then-other-self
returns-then-other-self c =
    let ends = within c.args.self.low c.args.self.high c.args.other.low c.args.other.high c.args.self.within.some in (
      λ h. ends.0 (omega (arith, ints), grind (arith, ints)),
      λ p. let e = ends.1 p in let f = e.1 in grind (arith, ints),
    )
