use Rattle.std.proofs.Common.{arith}
use Rattle.classes.proofs.FillSteps.{in_range, first_place, second_place, filled_more, filled_all}
use Rattle.classes.proofs.index.fill.Goals as goal

pub put-requires-clause-number : goal.put-requires-clause-number
put-requires-clause-number c =
    let r = in_range c.args.pairs.now c.loop-a.a-index c.args.next.now c.loop-a.next c.loop-a.neighbours _ c.loop-a-test.true (omega arith) c.requires c.loop-a.invariant in
    omega arith

pub put-requires-clause-place : goal.put-requires-clause-place
put-requires-clause-place c = first_place c.args.pairs.now c.loop-a.a-index c.args.next.now c.loop-a.next c.loop-a.neighbours _ c.loop-a-test.true (omega arith) c.requires c.loop-a.invariant

pub put-requires-in-loop-a-clause-number : goal.put-requires-in-loop-a-clause-number
put-requires-in-loop-a-clause-number c =
    let r = in_range c.args.pairs.now c.loop-a.a-index c.args.next.now c.loop-a.next c.loop-a.neighbours _ c.loop-a-test.true (omega arith) c.requires c.loop-a.invariant in
    omega arith

pub put-requires-in-loop-a-clause-place : goal.put-requires-in-loop-a-clause-place
put-requires-in-loop-a-clause-place c =
    let p = second_place c.args.pairs.now c.loop-a.a-index c.args.next.now c.loop-a.next c.loop-a.neighbours _ c.loop-a-test.true (omega arith) c.requires c.loop-a.invariant in
    rw c.put.ensures.next (omega arith)

pub loop-a-preserved : goal.loop-a-preserved
loop-a-preserved c =
    rw (c.put-in-loop-a.ensures.next, c.put-in-loop-a.ensures.put, c.put.ensures.next, c.put.ensures.put)
    (filled_more c.args.pairs.now c.loop-a.a-index c.args.next.now c.loop-a.next c.loop-a.neighbours _ c.loop-a-test.true (omega arith) c.requires c.loop-a.invariant)

pub returns : goal.returns
returns c = filled_all c.args.pairs.now c.loop-a.a-index c.args.next.now c.loop-a.next c.loop-a.neighbours _ (omega arith) (omega arith) c.requires c.loop-a.invariant
