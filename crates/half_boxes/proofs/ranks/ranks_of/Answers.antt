use Rattle.std.proofs.Common.{arith}
use Rattle.lists.proofs.Words.{ints}
use Rattle.half_boxes.proofs.RankLaws.{ranks_within}
use Rattle.half_boxes.proofs.ranks.ranks_of.Goals as goal

pub invariant_of-result : goal.invariant_of-result
invariant_of-result c =
    let some = c.args.span.within.some in
    let within = ranks_within c.args.ends.now c.requires.rising _ _ c.rank_of.result c.rank_of-2.result c.rank_of.ensures c.rank_of-2.ensures (omega (arith, ints)) in
    let a = within.some in let b = within.least in let d = within.most in
    record { within = record { some = omega (arith, ints); least = omega (arith, ints); most = omega (arith, ints) } }
