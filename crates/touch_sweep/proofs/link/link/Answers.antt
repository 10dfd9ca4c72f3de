use Rattle.std.proofs.Common.{ap, arith, length, List}
use Rattle.lists.proofs.Words.{IfOk-weaker}
use Rattle.touch_sweep.specs.inside.Strips.{begins_in, meets_partly}
use Rattle.touch_sweep.specs.inside.Splits.{work_in}
use Rattle.touch_sweep.specs.declared.numbered.Numbered.{Numbered}
use Rattle.touch_sweep.proofs.SearchSteps.{IsByRow-filter, in_points}
use Rattle.touch_sweep.proofs.SplitLaws.{begins_of_some}
use Rattle.touch_sweep.proofs.LinkSteps.{inner_begin, link_two_steps}
use Rattle.touch_sweep.proofs.WorkLaws.{few_of_all, filter_few, work_all, work_left}
use Rattle.touch_sweep.proofs.link.link.Goals as goal

pub part_of-requires : goal.part_of-requires
part_of-requires c = record {
  points = rw c.as_slice-all.ensures.value c.requires.rows;
  spans = rw c.as_slice-all.ensures.value c.requires.rows;
}

pub link_strip-requires : goal.link_strip-requires
link_strip-requires c =
    let low = c.args.strip.low in let high = c.args.strip.high in let entries = c.args.entries.items in
    let part = c.in_ok-part.part in
    let points_are = rw c.as_slice-all.ensures.value at c.in_ok-part.ensures.points in let spans_are = rw c.as_slice-all.ensures.value at c.in_ok-part.ensures.spans in
    record {
      points = IsByRow-filter (begins_in low high) entries _ points_are c.requires.rows;
      spans = IsByRow-filter (meets_partly low high) entries _ spans_are c.requires.rows;
      begin = inner_begin low high entries entries part.points.items part.spans.items points_are spans_are;
      splits = begins_of_some low high c.args.strip.splits.now entries part.points.items (in_points low high entries entries part.points.items part.spans.items points_are spans_are) c.requires.splits;
    }

pub returns-clause-joined : goal.returns-clause-joined
returns-clause-joined c =
    let low = c.args.strip.low in let high = c.args.strip.high in let entries = c.args.entries.items in
    let points_are = rw c.as_slice-all.ensures.value at c.in_ok-part.ensures.points in let spans_are = rw c.as_slice-all.ensures.value at c.in_ok-part.ensures.spans in
    IfOk-weaker _ _ _
    (λ (u : Unit {0}) rest. link_two_steps low high entries entries _ _ points_are spans_are (rw c.as_slice-all.ensures.value at c.in_ok-part.ensures.across) rest)
    c.link_strip.ensures.joined

pub returns-clause-few : goal.returns-clause-few
returns-clause-few c =
    let low = c.args.strip.low in let high = c.args.strip.high in let entries = c.args.entries.items in
    let part = c.in_ok-part.part in
    let points_are = rw c.as_slice-all.ensures.value at c.in_ok-part.ensures.points in let spans_are = rw c.as_slice-all.ensures.value at c.in_ok-part.ensures.spans in
    let points = ap (λ (xs : List Numbered). length xs) points_are in let spans = ap (λ (xs : List Numbered). length xs) spans_are in
    let fewer_points = filter_few (begins_in low high) entries in let fewer_spans = filter_few (meets_partly low high) entries in
    let all = work_all low high entries in let left = work_left low high entries entries part.points.items part.spans.items points_are spans_are in
    few_of_all c.link_strip.result (length c.args.strip.splits.now) (length entries) (length part.points.items) (length part.spans.items) (work_in low high part.points.items part.spans.items) _ _ _
    (omega arith) (omega arith) (omega arith) (rw c.as_slice-all.ensures.value at c.in_ok-part.ensures.few) c.link_strip.ensures.few
