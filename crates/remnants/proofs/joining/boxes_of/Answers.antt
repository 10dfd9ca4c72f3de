use Rattle.lists.proofs.Reading.{map_next, map_done}
use Rattle.remnants.specs.declared.parts.Fixed.{Fixed}
use Rattle.remnants.proofs.joining.boxes_of.Goals as goal

pub loop-one-preserved : goal.loop-one-preserved
loop-one-preserved c =
    map_next (λ (one : Fixed). one.part) c.args.fixed.now c.loop-one.one-index c.one-item.result _ _ c.loop-one-test.true c.one-item.is c.loop-one.invariant c.in_ok-push.ensures.items

pub returns : goal.returns
returns c = map_done (λ (one : Fixed). one.part) c.args.fixed.now c.loop-one.one-index _ c.loop-one-test.false c.loop-one.invariant
