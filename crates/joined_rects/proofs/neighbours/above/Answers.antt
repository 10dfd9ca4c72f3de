use Rattle.std.proofs.Common.{arith}
use Rattle.lists.proofs.Words.{ints}
use Rattle.joined_rects.proofs.HalfLaws.{joined_up}
use Rattle.joined_rects.proofs.neighbours.above.Goals as goal

pub returns : goal.returns
returns c =
    joined_up c.args.one c.args.next c.join.result c.join.ensures (omega (arith, ints, c.if-one-next.false)) (omega (arith, ints, c.if-one-next-2.false)) (omega (arith, ints, c.if-one-next-3.false))
