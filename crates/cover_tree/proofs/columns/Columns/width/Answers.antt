use Rattle.std.proofs.Common.{arith}
use Rattle.lists.proofs.Words.{ints}
use Rattle.cover_tree.proofs.Totals.{width_across}
use Rattle.cover_tree.proofs.columns.Columns.width.Goals as goal

pub overflow_sub-result : goal.overflow_sub-result
overflow_sub-result c =
    let p = c.place_at.ensures in let q = c.place_at-2.ensures in
    omega (arith, ints, p.low, p.high, q.low, q.high)

pub returns-clause-width : goal.returns-clause-width
returns-clause-width c =
    let p = c.place_at.ensures in let q = c.place_at-2.ensures in
    let e = width_across c.args.self.now.places.items c.args.self.now.rising c.args.from c.args.size in
    omega (arith, ints, p.place, p.low, p.high, q.place, q.low, q.high, e)

pub returns-clause-small : goal.returns-clause-small
returns-clause-small c =
    let p = c.place_at.ensures in let q = c.place_at-2.ensures in
    let e = width_across c.args.self.now.places.items c.args.self.now.rising c.args.from c.args.size in
    omega (arith, ints, p.place, p.low, p.high, q.place, q.low, q.high, e)
