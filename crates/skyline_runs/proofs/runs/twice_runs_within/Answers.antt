use Rattle.std.proofs.Common.{ℕ, List, length, ◌+◌, ◌*◌, ◌<◌, ◌≤◌, ◌≡◌, arith, refl, subst, sym}
use Rattle.lists.proofs.Words.{IsPermutation, slice_get_read}
use Rattle.lists.proofs.Containing.{Contains-slice_get}
use Rattle.std.proofs.lemmas.List.Sorted.{length_permutation}
use Rattle.geo_core.specs.declared.plane.Rect.{Rect}
use Rattle.skyline_runs.specs.Runs.{AreByRow}
use Rattle.skyline_runs.proofs.Covering.{union_begun}
use Rattle.skyline_runs.proofs.Looking.{has_left, has_right, looks_more, looks_over, none_active, sides_of, two_each}
use Rattle.skyline_runs.proofs.TwiceCovering.{cells_of_two, twice_begun, twice_next}
use Rattle.skyline_runs.proofs.runs.twice_runs_within.Goals as goal

pub add_to_both-requires-clause-once_sound : goal.add_to_both-requires-clause-once_sound
add_to_both-requires-clause-once_sound c = c.loop-rect.invariant.cells.union.sound

pub add_to_both-requires-clause-once_below : goal.add_to_both-requires-clause-once_below
add_to_both-requires-clause-once_below c = c.loop-rect.invariant.cells.union.below c.loop-rect.rect-index c.rect-item.result (omega arith)
    (slice_get_read _ _ _ _ refl c.loop-rect-test.true c.rect-item.is)

pub add_to_both-requires-clause-twice_sound : goal.add_to_both-requires-clause-twice_sound
add_to_both-requires-clause-twice_sound c = c.loop-rect.invariant.cells.sound

pub add_to_both-requires-clause-twice_below : goal.add_to_both-requires-clause-twice_below
add_to_both-requires-clause-twice_below c = c.loop-rect.invariant.cells.below c.loop-rect.rect-index c.rect-item.result (omega arith)
    (slice_get_read _ _ _ _ refl c.loop-rect-test.true c.rect-item.is)

pub finish-requires : goal.finish-requires
finish-requires c = c.loop-rect.invariant.cells.sound

pub loop-rect-init : goal.loop-rect-init
loop-rect-init c = record {
  cells = twice_begun c.new-once.result c.new-twice.result c.as_slice-rect-items.result.now
      (union_begun c.new-once.result c.as_slice-rect-items.result.now c.new-once.ensures.sound c.new-once.ensures.below c.new-once.ensures.none)
      c.new-twice.ensures.sound c.new-twice.ensures.below c.new-twice.ensures.none;
  looks = omega arith;
  once_sides = none_active c.new-once.result _ c.new-once.ensures.none;
  twice_sides = none_active c.new-twice.result _ c.new-twice.ensures.none;
  few = omega arith;
}

pub loop-rect-preserved : goal.loop-rect-preserved
loop-rect-preserved c =
    let items = c.as_slice-rect-items.result.now in let rect = c.rect-item.result in let n = length items in
    let h = c.loop-rect.invariant in let both = c.in_ok-looks.ensures in let taken = c.if-not-take_looks.ensures.taken refl in
    let among = Contains-slice_get items c.loop-rect.rect-index rect (slice_get_read _ _ _ _ refl c.loop-rect-test.true c.rect-item.is) in
    let left = has_left items rect among in let right = has_right items rect among in
    let looks = subst (λ (m : ℕ). c.in_ok-looks.looks ≤ (m + 1) * (m + 2)) (two_each items)
    (both.few (sides_of items) h.once_sides h.twice_sides left right) in
    record {
      cells = twice_next c.loop-rect.once c.add_to_both.new.once c.loop-rect.twice c.add_to_both.new.twice items c.loop-rect.rect-index rect
          (subst AreByRow (sym c.as_slice-rect-items.ensures.value) c.in_ok-sorted.ensures.ordered) c.loop-rect-test.true c.rect-item.is h.cells
          both.once_sound both.once_below both.once_cells both.twice_sound both.twice_below both.twice_cells;
      looks = let so_far = h.looks in let some = both.looks in omega arith;
      once_sides = both.once_sides (sides_of items) h.once_sides left right;
      twice_sides = both.twice_sides (sides_of items) h.once_sides h.twice_sides left right;
      few = looks_more c.loop-rect.rect-index ((2 * n + 1) * (2 * n + 2)) c.loop-rect.left _ c.in_ok-looks.looks _ h.few looks taken;
    }

pub returns-clause-twice : goal.returns-clause-twice
returns-clause-twice c =
    let moved = subst (λ (xs : List Rect). IsPermutation c.args.rects.now xs) (sym c.as_slice-rect-items.ensures.value) c.in_ok-sorted.ensures.same in
    cells_of_two c.loop-rect.once c.loop-rect.twice c.args.rects.now c.as_slice-rect-items.result.now c.in_ok-finish.field-0.items
    c.loop-rect.rect-index c.loop-rect-test.false moved c.loop-rect.invariant.cells c.in_ok-finish.ensures.cells

pub returns-clause-taken : goal.returns-clause-taken
returns-clause-taken c =
    let so_far = c.loop-rect.invariant.looks in
    let moved = subst (λ (xs : List Rect). IsPermutation c.args.rects.now xs) (sym c.as_slice-rect-items.ensures.value) c.in_ok-sorted.ensures.same in
    let long = length_permutation c.args.rects.now c.as_slice-rect-items.result.now moved in
    let past = c.loop-rect-test.false in omega arith

pub returns-then-not-take_looks-clause-enough : goal.returns-then-not-take_looks-clause-enough
returns-then-not-take_looks-clause-enough c =
    let items = c.as_slice-rect-items.result.now in let rect = c.rect-item.result in let n = length items in
    let h = c.loop-rect.invariant in let over = c.if-not-take_looks.ensures.over refl in
    let moved = subst (λ (xs : List Rect). IsPermutation c.args.rects.now xs) (sym c.as_slice-rect-items.ensures.value) c.in_ok-sorted.ensures.same in
    let as_many : n ≡ length c.args.rects.now = let long = length_permutation c.args.rects.now items moved in omega arith in
    let among = Contains-slice_get items c.loop-rect.rect-index rect (slice_get_read _ _ _ _ refl c.loop-rect-test.true c.rect-item.is) in
    let looks = subst (λ (m : ℕ). c.in_ok-looks.looks ≤ (m + 1) * (m + 2)) (two_each items)
    (c.in_ok-looks.ensures.few (sides_of items) h.once_sides h.twice_sides (has_left items rect among) (has_right items rect among)) in
    subst (λ (m : ℕ). c.args.left.now < m * ((2 * m + 1) * (2 * m + 2))) as_many
    (looks_over c.loop-rect.rect-index n ((2 * n + 1) * (2 * n + 2)) c.loop-rect.left c.in_ok-looks.looks c.args.left.now
    h.few looks over c.loop-rect-test.true)
