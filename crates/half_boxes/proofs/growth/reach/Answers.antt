use Rattle.std.proofs.Common.{refl, take, take_all}
use Rattle.half_boxes.proofs.GrowthLaws.{reaches_apart, reaches_next, reaches_none, reaches_touching}
use Rattle.half_boxes.proofs.growth.reach.Goals as goal
use Rattle.half_boxes.proofs.growth.reach.Goals.{then-touches+in_ok-push+in_ok-push-2, else-touches+in_ok-push-3}

pub loop-other-init : goal.loop-other-init
loop-other-init c = rw c.new-kept.ensures.items (reaches_none c.args.one c.args.front.now.items c.args.pairs.now.items)

pub loop-other-preserved : goal.loop-other-preserved
loop-other-preserved c =
    let at = c.loop-other in
    let seen = take at.other-index c.args.left.now in
    let front = c.args.front.now.items in
    let pairs = c.args.pairs.now.items in
    reaches_next c.args.one c.args.left.now c.if-touches.kept.items front c.if-touches.front.items pairs c.if-touches.pairs.items at.other-index c.other-item.result
    c.loop-other-test.true c.other-item.is (elim c.if-touches.branch [
      | then-touches+in_ok-push+in_ok-push-2 w ↦
          rw (w.front-is, w.pairs-is, w.kept-is, w.in_ok-push.ensures.items, w.in_ok-push-2.ensures.items)
          (reaches_touching c.args.one front pairs seen at.kept.items at.front.items at.pairs.items c.other-item.result at.invariant (w.if-touches.ensures.0 refl))
      | else-touches+in_ok-push-3 w ↦
          rw (w.front-is, w.pairs-is, w.kept-is, w.in_ok-push-3.ensures.items)
          (reaches_apart c.args.one front pairs seen at.kept.items at.front.items at.pairs.items c.other-item.result at.invariant
          (λ t. let touches = w.if-touches.ensures.1 t in cc))
    ])

pub returns : goal.returns
returns c = rw (take_all c.loop-other.other-index c.args.left.now c.loop-other-test.false) at c.loop-other.invariant
