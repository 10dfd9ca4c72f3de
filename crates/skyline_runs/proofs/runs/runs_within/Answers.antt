use Rattle.std.proofs.Common.{ℕ, List, length, ◌+◌, ◌*◌, ◌<◌, ◌≡◌, arith, refl, subst, sym}
use Rattle.lists.proofs.Words.{IsPermutation, slice_get_read}
use Rattle.lists.proofs.Containing.{Contains-slice_get}
use Rattle.std.proofs.lemmas.List.Sorted.{length_permutation}
use Rattle.geo_core.specs.declared.plane.Rect.{Rect}
use Rattle.skyline_runs.specs.Runs.{AreByRow}
use Rattle.skyline_runs.proofs.Covering.{union_begun, union_next}
use Rattle.skyline_runs.proofs.Looking.{has_left, has_right, looks_more, looks_over, none_active, sides_of, two_each}
use Rattle.skyline_runs.proofs.TwiceCovering.{same_cells}
use Rattle.skyline_runs.proofs.runs.runs_within.Goals as goal

pub loop-rect-init : goal.loop-rect-init
loop-rect-init c = record {
  cells = union_begun c.new-skyline.result c.as_slice-rect-items.result.now c.new-skyline.ensures.sound c.new-skyline.ensures.below c.new-skyline.ensures.none;
  looks = omega arith;
  sides = none_active c.new-skyline.result _ c.new-skyline.ensures.none;
  few = omega arith;
}

pub add-requires-clause-below : goal.add-requires-clause-below
add-requires-clause-below c = c.loop-rect.invariant.cells.below c.loop-rect.rect-index c.rect-item.result (omega arith)
    (slice_get_read _ _ _ _ refl c.loop-rect-test.true c.rect-item.is)

pub loop-rect-preserved : goal.loop-rect-preserved
loop-rect-preserved c =
    let items = c.as_slice-rect-items.result.now in let rect = c.rect-item.result in
    let among = Contains-slice_get items c.loop-rect.rect-index rect (slice_get_read _ _ _ _ refl c.loop-rect-test.true c.rect-item.is) in
    let looks = c.in_ok-looks.ensures.few (sides_of items) c.loop-rect.invariant.sides (has_left items rect among) (has_right items rect among) in
    let two = two_each items in let taken = c.if-not-take_looks.ensures.taken refl in
    record {
      cells = union_next c.loop-rect.skyline c.add.new.self items c.loop-rect.rect-index rect
          (subst AreByRow (sym c.as_slice-rect-items.ensures.value) c.in_ok-sorted.ensures.ordered) c.loop-rect-test.true c.rect-item.is
          c.loop-rect.invariant.cells c.in_ok-looks.ensures.sound c.in_ok-looks.ensures.below c.in_ok-looks.ensures.cells;
      looks = let so_far = c.loop-rect.invariant.looks in let some = c.in_ok-looks.ensures.looks in omega arith;
      sides = c.in_ok-looks.ensures.sides (sides_of items) c.loop-rect.invariant.sides (has_left items rect among) (has_right items rect among);
      few = looks_more c.loop-rect.rect-index (2 * length items + 1) c.loop-rect.left _ c.in_ok-looks.looks _
          c.loop-rect.invariant.few (omega arith) taken;
    }

pub returns-clause-same : goal.returns-clause-same
returns-clause-same c =
    let moved = subst (λ (xs : List Rect). IsPermutation c.args.rects.now xs) (sym c.as_slice-rect-items.ensures.value) c.in_ok-sorted.ensures.same in
    same_cells c.loop-rect.skyline c.args.rects.now c.as_slice-rect-items.result.now c.in_ok-finish.field-0.items c.loop-rect.rect-index c.loop-rect-test.false moved
    c.loop-rect.invariant.cells c.in_ok-finish.ensures.cells

pub returns-clause-taken : goal.returns-clause-taken
returns-clause-taken c =
    let so_far = c.loop-rect.invariant.looks in
    let moved = subst (λ (xs : List Rect). IsPermutation c.args.rects.now xs) (sym c.as_slice-rect-items.ensures.value) c.in_ok-sorted.ensures.same in
    let long = length_permutation c.args.rects.now c.as_slice-rect-items.result.now moved in
    let past = c.loop-rect-test.false in omega arith

pub returns-then-not-take_looks-clause-enough : goal.returns-then-not-take_looks-clause-enough
returns-then-not-take_looks-clause-enough c =
    let moved = subst (λ (xs : List Rect). IsPermutation c.args.rects.now xs) (sym c.as_slice-rect-items.ensures.value) c.in_ok-sorted.ensures.same in
    let long = length_permutation c.args.rects.now c.as_slice-rect-items.result.now moved in
    let items = c.as_slice-rect-items.result.now in let rect = c.rect-item.result in
    let among = Contains-slice_get items c.loop-rect.rect-index rect (slice_get_read _ _ _ _ refl c.loop-rect-test.true c.rect-item.is) in
    let looks = c.in_ok-looks.ensures.few (sides_of items) c.loop-rect.invariant.sides (has_left items rect among) (has_right items rect among) in
    let two = two_each items in let over = c.if-not-take_looks.ensures.over refl in
    let as_many : length items ≡ length c.args.rects.now = omega arith in
    subst (λ (n : ℕ). c.args.left.now < n * (2 * n + 1)) as_many
    (looks_over c.loop-rect.rect-index (length items) (2 * length items + 1) c.loop-rect.left c.in_ok-looks.looks c.args.left.now
    c.loop-rect.invariant.few (omega arith) over (omega arith))
