use Rattle.std.proofs.Common.{◌≡◌, arith, sym, subst, length, ℤ}
use Rattle.lists.proofs.Words.{IfOk-weaker}
use Rattle.touch_sweep.specs.inside.Strips.{begins_in, meets_partly}
use Rattle.touch_sweep.specs.inside.Splits.{HaveBegins, work_in}
use Rattle.touch_sweep.proofs.SearchSteps.{IsByRow-filter}
use Rattle.lists.proofs.Containing.{all_of_each}
use Rattle.touch_sweep.proofs.SplitLaws.{begins_before, begins_behind, one_column}
use Rattle.touch_sweep.proofs.WorkLaws.{few_in_halves, few_swept, own_few, points_parted, some_column, work_left, work_parted}
use Rattle.touch_sweep.proofs.LinkSteps.{inner_among, inner_begin, link_from_column, link_from_halves, link_from_sweep}
use Rattle.touch_sweep.proofs.link.+link_strip.Goals as goal

pub link_column-requires : goal.link_column-requires
link_column-requires t c =
    let points = c.args.part.points.items in let first = c.index-points-0.result in
    record {
      points = rw c.as_slice-points.ensures.value c.requires.points;
      spans = rw c.as_slice-spans.ensures.value c.requires.spans;
      column = rw c.as_slice-points.ensures.value
          (all_of_each (λ e. e.rect.x0 ≡ first.rect.x0) points
          (λ e d. one_column c.args.strip.low c.args.strip.high c.args.strip.splits.now points
          c.requires.begin c.requires.splits (omega arith) e first d (0, omega arith, sym (rw c.as_slice-points.ensures.value at c.index-points-0.is))));
    }

pub link_strip-requires : goal.link_strip-requires
link_strip-requires t c =
    let low = c.args.strip.low in let high = c.args.strip.high in
    let points = c.args.part.points.items in let spans = c.args.part.spans.items in
    let left = c.halves.result.0 in let right = c.halves.result.1 in
    let before = c.in_ok-before.before in
    let points_are = rw c.as_slice-points.ensures.value at c.in_ok-before.ensures.points in
    let spans_are = rw c.as_slice-spans.ensures.value at c.in_ok-before.ensures.spans in
    let among = inner_among left.low left.high points spans before.points.items before.spans.items points_are spans_are low high c.requires.begin in (
      omega (arith, c.halves.ensures.left),
      (
        IsByRow-filter (begins_in left.low left.high) points _ points_are c.requires.points,
        (
          IsByRow-filter (meets_partly left.low left.high) spans _ spans_are c.requires.spans,
          (
            inner_begin left.low left.high points spans before.points.items before.spans.items points_are spans_are,
            subst (λ (l : ℤ). HaveBegins left.splits.now l left.high before.points.items) (sym c.halves.ensures.begins)
                (begins_before low high left.high c.args.strip.splits.now left.splits.now right.splits.now points before.points.items among c.halves.ensures.parted c.requires.splits),
          ),
        ),
      ),
    )

pub link_strip-requires-2 : goal.link_strip-requires-2
link_strip-requires-2 t c =
    let low = c.args.strip.low in let high = c.args.strip.high in
    let points = c.args.part.points.items in let spans = c.args.part.spans.items in
    let left = c.halves.result.0 in let right = c.halves.result.1 in
    let behind = c.in_ok-behind.behind in
    let points_are = rw c.as_slice-points.ensures.value at c.in_ok-behind.ensures.points in
    let spans_are = rw c.as_slice-spans.ensures.value at c.in_ok-behind.ensures.spans in
    let among = inner_among right.low right.high points spans behind.points.items behind.spans.items points_are spans_are low high c.requires.begin in (
      omega (arith, c.halves.ensures.right),
      (
        IsByRow-filter (begins_in right.low right.high) points _ points_are c.requires.points,
        (
          IsByRow-filter (meets_partly right.low right.high) spans _ spans_are c.requires.spans,
          (
            inner_begin right.low right.high points spans behind.points.items behind.spans.items points_are spans_are,
            subst (λ (l : ℤ). HaveBegins right.splits.now l right.high behind.points.items) c.halves.ensures.meets
                (subst (λ (h : ℤ). HaveBegins right.splits.now left.high h behind.points.items) (sym c.halves.ensures.ends)
                (begins_behind low high left.high c.args.strip.splits.now left.splits.now right.splits.now points behind.points.items among c.halves.ensures.parted c.requires.splits)),
          ),
        ),
      ),
    )

pub returns-then-points-le-FEW-clause-joined : goal.returns-then-points-le-FEW-clause-joined
returns-then-points-le-FEW-clause-joined t c =
    IfOk-weaker _ _ _
    (λ (u : Unit {0}) rest. link_from_sweep c.args.strip.low c.args.strip.high c.args.part.points.items c.args.part.spans.items
    (rw (c.as_slice-points.ensures.value, c.as_slice-spans.ensures.value) at rest))
    c.sweep.ensures.found

pub returns-then-strip-le1-clause-joined : goal.returns-then-strip-le1-clause-joined
returns-then-strip-le1-clause-joined t c =
    IfOk-weaker _ _ _
    (λ (u : Unit {0}) rest. link_from_column c.args.strip.low c.args.strip.high c.args.part.points.items c.args.part.spans.items
    (rw (c.as_slice-points.ensures.value, c.as_slice-spans.ensures.value) at rest))
    c.link_column.ensures.joined

pub returns-clause-joined : goal.returns-clause-joined
returns-clause-joined t c =
    let points = c.args.part.points.items in let spans = c.args.part.spans.items in
    let before = c.in_ok-before.before in let behind = c.in_ok-behind.behind in
    let before_points = rw c.as_slice-points.ensures.value at c.in_ok-before.ensures.points in let before_spans = rw c.as_slice-spans.ensures.value at c.in_ok-before.ensures.spans in
    let behind_points = rw c.as_slice-points.ensures.value at c.in_ok-behind.ensures.points in let behind_spans = rw c.as_slice-spans.ensures.value at c.in_ok-behind.ensures.spans in
    IfOk-weaker _ _ _
    (λ (u : Unit {0}) rest. link_from_halves c.args.strip.low c.args.strip.high _ _ _ _ c.halves.ensures.begins c.halves.ensures.meets c.halves.ensures.ends points spans _ _ _ _
    before_points before_spans behind_points behind_spans
    (rw c.as_slice-spans.ensures.value at c.in_ok-before.ensures.across) (rw c.as_slice-spans.ensures.value at c.in_ok-behind.ensures.across) c.in_ok-link_strip.ensures.joined rest)
    c.link_strip-2.ensures.joined

-- ---- how many pairs

pub returns-then-points-le-FEW-clause-few : goal.returns-then-points-le-FEW-clause-few
returns-then-points-le-FEW-clause-few t c =
    few_swept c.sweep.result (length c.args.strip.splits.now) (length c.args.part.points.items) (length c.args.part.spans.items) _ _ _ (omega arith)
    (rw (c.as_slice-points.ensures.value, c.as_slice-spans.ensures.value) at c.sweep.ensures.few)

pub returns-clause-few : goal.returns-clause-few
returns-clause-few t c =
    let low = c.args.strip.low in let high = c.args.strip.high in
    let points = c.args.part.points.items in let spans = c.args.part.spans.items in
    let left = c.halves.result.0 in let right = c.halves.result.1 in
    let before = c.in_ok-before.before in let behind = c.in_ok-behind.behind in
    let before_points = rw c.as_slice-points.ensures.value at c.in_ok-before.ensures.points in let before_spans = rw c.as_slice-spans.ensures.value at c.in_ok-before.ensures.spans in
    let behind_points = rw c.as_slice-points.ensures.value at c.in_ok-behind.ensures.points in let behind_spans = rw c.as_slice-spans.ensures.value at c.in_ok-behind.ensures.spans in
    let parted = c.halves.ensures.parted in
    let begins = c.halves.ensures.begins in let meets = c.halves.ensures.meets in let ends = c.halves.ensures.ends in
    let between = parted.between (some_column low high points (omega arith) c.requires.begin) in
    few_in_halves (length c.args.strip.splits.now) (length points) (length spans) (work_in low high points spans)
    (length left.splits.now) (length before.points.items) (length before.spans.items) _
    (length right.splits.now) (length behind.points.items) (length behind.spans.items) _
    (omega arith) parted.few_before parted.few_behind
    (points_parted low high left.low left.high right.low right.high begins meets ends between points before.points.items behind.points.items before_points behind_points)
    (work_in left.low left.high points spans) (work_in right.low right.high points spans)
    (work_parted low high left.low left.high right.low right.high begins meets ends between points spans)
    (own_few left.low left.high points spans before.points.items before.spans.items before_points before_spans)
    (own_few right.low right.high points spans behind.points.items behind.spans.items behind_points behind_spans)
    (work_left left.low left.high points spans before.points.items before.spans.items before_points before_spans)
    (work_left right.low right.high points spans behind.points.items behind.spans.items behind_points behind_spans)
    _ _ _ _ _ (rw c.as_slice-spans.ensures.value at c.in_ok-before.ensures.few) (rw c.as_slice-spans.ensures.value at c.in_ok-behind.ensures.few)
    c.in_ok-link_strip.ensures.few c.link_strip-2.result c.link_strip-2.ensures.few
