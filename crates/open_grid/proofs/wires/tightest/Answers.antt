use Rattle.std.proofs.Common.{◌∙◌, ap, sym}
use Rattle.lists.proofs.Words.{int_max, int_min}
use Rattle.half_boxes.specs.declared.span.HalfSpan.{HalfSpan}
use Rattle.open_grid.proofs.ExtentLaws.{bounds_all, bounds_at_first, bounds_more, ends_at_first, ends_more}
use Rattle.open_grid.proofs.wires.tightest.Goals as goal

pub loop-one-init : goal.loop-one-init
loop-one-init c = record {
  among = ends_at_first c.args.axis c.args.boxes.now c.index-boxes-0.result _ _ (0, c.requires, sym c.index-boxes-0.is)
      (c.of-extent.ensures.low ∙ ap (λ (s : HalfSpan). s.low) c.span_along.ensures) (c.of-extent.ensures.high ∙ ap (λ (s : HalfSpan). s.high) c.span_along.ensures);
  bounds = bounds_at_first c.args.axis c.args.boxes.now _ _;
}

pub loop-one-preserved : goal.loop-one-preserved
loop-one-preserved c =
    let extent = c.loop-one.extent in
    let low_is = c.tightened-extent.ensures.low ∙ ap (λ (s : HalfSpan). int_max extent.low s.low) c.span_along-in-loop-one.ensures in
    let high_is = c.tightened-extent.ensures.high ∙ ap (λ (s : HalfSpan). int_min extent.high s.high) c.span_along-in-loop-one.ensures in
    record {
      among = ends_more c.args.axis c.args.boxes.now c.one-item.result extent.low extent.high _ _ (c.loop-one.one-index, c.loop-one-test.true, sym c.one-item.is) low_is high_is
          c.loop-one.invariant.among;
      bounds = bounds_more c.args.axis c.args.boxes.now c.loop-one.one-index c.one-item.result extent.low extent.high _ _ c.loop-one-test.true c.one-item.is low_is high_is
          c.loop-one.invariant.bounds;
    }

pub returns-clause-among : goal.returns-clause-among
returns-clause-among c = c.loop-one.invariant.among

pub returns-clause-bounds : goal.returns-clause-bounds
returns-clause-bounds c = bounds_all c.args.axis c.args.boxes.now c.loop-one.one-index _ _ c.loop-one-test.false c.loop-one.invariant.bounds
