use Rattle.std.proofs.Common.{arith, w32, to_z, of_z}
use Rattle.lists.proofs.Words.{ints, to_z-of_z}
use Rattle.geo_core.proofs.IntervalLaws.{clipped, clip_none}
use Rattle.half_boxes.proofs.span.HalfSpan.clip.Goals as goal

pub returns-clause-some : goal.returns-clause-some
returns-clause-some c x =
    clipped c.args.self.low c.args.self.high c.args.other.low c.args.other.high _ _ x (grind (arith, to_z-of_z, c.max-low.ensures.value)) (grind (arith, to_z-of_z, c.min-high.ensures.value))

pub returns-then-low-high-clause-none : goal.returns-then-low-high-clause-none
returns-then-low-high-clause-none c o =
    clip_none c.args.self.low c.args.self.high c.args.other.low c.args.other.high (to_z w32 (of_z w32 c.max-low.result)) (to_z w32 (of_z w32 c.min-high.result))
    (grind (arith, to_z-of_z, c.max-low.ensures.value)) (grind (arith, to_z-of_z, c.min-high.ensures.value)) (let f = c.if-low-high.true in omega (arith, ints)) o
