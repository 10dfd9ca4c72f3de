use Rattle.std.proofs.Common.{arith}
use Rattle.lists.proofs.Words.{ints}
use Rattle.area_calls.proofs.spotted.is_within.Goals as goal

pub returns : goal.returns
returns c t d h =
    let a = h.across.from in let b = h.across.before in let e = h.up.from in let f = h.up.before in
    record {
      across = record { from = omega (arith, ints, c.if-rect-piece.false); before = omega (arith, ints, c.if-rect-piece-2.false) };
      up = record { from = omega (arith, ints, c.if-rect-piece-3.false); before = omega (arith, ints, c.if-rect-piece-4.false) };
    }
