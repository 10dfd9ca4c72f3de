use Rattle.std.proofs.Common.{arith}
use Rattle.half_boxes.proofs.GrowthLaws.{all_joined, grown_more, grown_next, grown_none, next_less}
use Rattle.half_boxes.proofs.growth.grown_links.Goals as goal

pub loop-one-init : goal.loop-one-init
loop-one-init c =
    rw (c.new-front.ensures.items, c.new-pairs.ensures.items) (grown_none c.args.boxes.now c.in_ok-left.left.items c.in_ok-left.ensures.numbered c.in_ok-left.ensures.as_many)

pub loop-one-preserved : goal.loop-one-preserved
loop-one-preserved c =
    let at = c.loop-one in
    let taken = c.next.new in
    grown_more c.args.boxes.now taken.left.items c.in_ok-left-2.left.items taken.front.items c.reach.new.front.items at.pairs.items c.reach.new.pairs.items c.in-Some.one
    (grown_next c.args.boxes.now at.left.items at.front.items taken.left.items taken.front.items at.pairs.items c.in-Some.one c.in-Some.ensures.some at.invariant)
    (rw c.deref.ensures.value at c.in_ok-left-2.ensures)

pub loop-one-smaller : goal.loop-one-smaller
loop-one-smaller c =
    let less = next_less c.args.boxes.now c.loop-one.front.items c.loop-one.left.items c.next.new.front.items c.next.new.left.items c.in-Some.one c.in-Some.ensures.some in
    let same = rw c.deref.ensures.value at c.in_ok-left-2.ensures in
    omega (arith, less, same.counted)

pub returns-clause-touching : goal.returns-clause-touching
returns-clause-touching c = c.loop-one.invariant.touching

pub returns-clause-joined : goal.returns-clause-joined
returns-clause-joined c =
    all_joined c.args.boxes.now c.loop-one.left.items c.loop-one.front.items c.loop-one.pairs.items c.in_default.ensures.none.0 c.in_default.ensures.none.1 c.loop-one.invariant

pub returns-clause-few : goal.returns-clause-few
returns-clause-few c = omega (arith, c.loop-one.invariant.few)
