use Rattle.std.proofs.Common.{subst, arith}
use Rattle.flatten.specs.inside.Weights.{IsKept, both_weights, no_weight, weight_of, weight_over}
use Rattle.flatten.proofs.WeightLaws.{nothing_first, weight_more, weight_all, below_one, weighed_one}
use Rattle.flatten.proofs.summing.summary_of.Goals as goal

pub loop-part-init : goal.loop-part-init
loop-part-init c of weighed = (no_weight, record { height = omega arith; shapes = omega arith; points = omega arith }, nothing_first (weight_over of c.args.parts.now))

pub with_part-summary-requires : goal.with_part-summary-requires
with_part-summary-requires c = below_one c.args.parts.now c.loop-part.part-index c.part-item.result c.loop-part-test.true c.part-item.is _ c.requires

pub loop-part-preserved : goal.loop-part-preserved
loop-part-preserved c of weighed =
    let before = c.loop-part.invariant of weighed in
    let one = weighed_one c.args.parts.now c.loop-part.part-index c.part-item.result c.loop-part-test.true c.part-item.is c.args.states.now of weighed in (
      both_weights before.0 (weight_of of c.part-item.result),
      c.with_part-summary.ensures of before.0 one before.1,
      weight_more of c.args.parts.now c.loop-part.part-index before.0 _ before.2 c.part-item.result c.loop-part-test.true c.part-item.is,
    )

pub returns : goal.returns
returns c of weighed =
    let all = c.loop-part.invariant of weighed in
    subst (λ weight. IsKept weight c.loop-part.summary) (weight_all of c.args.parts.now c.loop-part.part-index all.0 _ all.2 c.loop-part-test.false) all.1
