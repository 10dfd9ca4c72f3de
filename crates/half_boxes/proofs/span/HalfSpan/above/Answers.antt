use Rattle.std.proofs.Common.{arith, w32, to_z, of_z}
use Rattle.lists.proofs.Words.{ints, to_z-of_z}
use Rattle.half_boxes.proofs.SpanLaws.{cut_above, none_above}
use Rattle.half_boxes.proofs.span.HalfSpan.above.Goals as goal

pub returns-clause-some : goal.returns-clause-some
returns-clause-some c x = cut_above c.args.self.low c.args.self.high c.args.other.high _ _ x (grind (arith, to_z-of_z, c.max-low.ensures.value)) (omega (arith, ints))

pub returns-then-low-self-clause-none : goal.returns-then-low-self-clause-none
returns-then-low-self-clause-none c x h k =
    none_above c.args.self.low c.args.self.high c.args.other.high (to_z w32 (of_z w32 c.max-low.result)) x (grind (arith, to_z-of_z, c.max-low.ensures.value))
    (let f = c.if-low-self.true in omega (arith, ints)) h k
