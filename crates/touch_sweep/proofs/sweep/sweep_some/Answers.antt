use Rattle.std.proofs.Common.{arith, ap, length, List}
use Rattle.touch_sweep.specs.declared.numbered.Numbered.{Numbered}
use Rattle.touch_sweep.proofs.SweepSteps.{none_swept, point_done, span_done, no_points_left, no_spans_left}
use Rattle.touch_sweep.proofs.sweep.sweep_some.Goals as goal

pub loop-point-init : goal.loop-point-init
loop-point-init c = record {
  swept = none_swept c.args.points.now c.args.spans.now c.args.pairs.now.items c.requires.points c.requires.spans;
  few = omega arith;
  points = omega arith;
  spans = omega arith;
}

pub loop-point-preserved-then-point-span : goal.loop-point-preserved-then-point-span
loop-point-preserved-then-point-span c =
    let one = ap (λ (xs : List Numbered). length xs) c.in-Some.ensures.cases.0 in
    let fewer = c.loop-point.invariant.points in let spans = c.loop-point.invariant.spans in let more = c.in_ok-add_all.ensures.few in
    record {
      swept = point_done c.loop-point.invariant.swept c.in-Some.point.now c.in-Some.later_points.now c.in-Some.ensures.cases.0 c.in_ok-add_all.ensures.found;
      few = omega arith;
      points = omega arith;
      spans = spans;
    }

pub loop-point-preserved : goal.loop-point-preserved
loop-point-preserved c =
    let one = ap (λ (xs : List Numbered). length xs) c.in-Some-split_first.ensures.cases.0 in
    let points = c.loop-point.invariant.points in let fewer = c.loop-point.invariant.spans in let more = c.in_ok-add_all-2.ensures.few in
    record {
      swept = span_done c.loop-point.invariant.swept c.in-Some-split_first.span.now c.in-Some-split_first.later_spans.now c.in-Some-split_first.ensures.cases.0 c.in_ok-add_all-2.ensures.found;
      few = omega arith;
      points = points;
      spans = omega arith;
    }

pub returns-in_default-split_first-clause-some : goal.returns-in_default-split_first-clause-some
returns-in_default-split_first-clause-some c = c.loop-point.invariant.swept.gains

pub returns-in_default-split_first-clause-all : goal.returns-in_default-split_first-clause-all
returns-in_default-split_first-clause-all c = λ e. no_spans_left c.loop-point.invariant.swept c.in_default-split_first.ensures.cases

pub returns-in_default-split_first-clause-few : goal.returns-in_default-split_first-clause-few
returns-in_default-split_first-clause-few c = c.loop-point.invariant.few

pub returns-clause-some : goal.returns-clause-some
returns-clause-some c = c.loop-point.invariant.swept.gains

pub returns-clause-all : goal.returns-clause-all
returns-clause-all c = λ e. no_points_left c.loop-point.invariant.swept c.in_default.ensures.cases

pub returns-clause-few : goal.returns-clause-few
returns-clause-few c = c.loop-point.invariant.few
