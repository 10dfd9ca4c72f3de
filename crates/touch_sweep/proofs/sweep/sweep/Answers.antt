use Rattle.std.proofs.Common.{arith, ap, length, List}
use Rattle.touch_sweep.specs.declared.numbered.Numbered.{Numbered}
use Rattle.touch_sweep.proofs.SweepSteps.{none_swept, point_done, span_done, no_points_left, no_spans_left}
use Rattle.touch_sweep.proofs.WorkLaws.{one_fewer, one_fewer_other}
use Rattle.touch_sweep.proofs.sweep.sweep.Goals as goal

pub loop-point-init : goal.loop-point-init
loop-point-init c = record { swept = none_swept c.args.points.now c.args.spans.now c.args.pairs.now.items c.requires.points c.requires.spans; few = omega arith }

pub loop-point-preserved-then-point-span : goal.loop-point-preserved-then-point-span
loop-point-preserved-then-point-span c = record {
  swept = point_done c.loop-point.invariant.swept c.in-Some.point.now c.in-Some.later_points.now c.in-Some.ensures.cases.0 c.in_ok-add_all.ensures.found;
  few = one_fewer _ _ _ _ _ _ (ap (λ (xs : List Numbered). length xs) c.in-Some.ensures.cases.0) c.in_ok-add_all.ensures.few c.loop-point.invariant.few;
}

pub loop-point-preserved : goal.loop-point-preserved
loop-point-preserved c = record {
  swept = span_done c.loop-point.invariant.swept c.in-Some-split_first.span.now c.in-Some-split_first.later_spans.now c.in-Some-split_first.ensures.cases.0 c.in_ok-add_all-2.ensures.found;
  few = one_fewer_other _ _ _ _ _ _ (ap (λ (xs : List Numbered). length xs) c.in-Some-split_first.ensures.cases.0) c.in_ok-add_all-2.ensures.few c.loop-point.invariant.few;
}

pub returns-in_default-split_first-clause-found : goal.returns-in_default-split_first-clause-found
returns-in_default-split_first-clause-found c = no_spans_left c.loop-point.invariant.swept c.in_default-split_first.ensures.cases

pub returns-in_default-split_first-clause-few : goal.returns-in_default-split_first-clause-few
returns-in_default-split_first-clause-few c = let so_far = c.loop-point.invariant.few in omega arith

pub returns-clause-found : goal.returns-clause-found
returns-clause-found c = no_points_left c.loop-point.invariant.swept c.in_default.ensures.cases

pub returns-clause-few : goal.returns-clause-few
returns-clause-few c = let so_far = c.loop-point.invariant.few in omega arith
