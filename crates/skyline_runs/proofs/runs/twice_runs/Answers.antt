use Rattle.std.proofs.Common.{Global, Vec, arith, refl, subst, sym, List, ◌↔◌}
use Rattle.lists.proofs.Words.{IfOk-weaker, IsPermutation, slice_get_read}
use Rattle.geo_core.specs.Plane.{IsInUnion}
use Rattle.geo_core.specs.declared.plane.Cell.{Cell}
use Rattle.geo_core.specs.declared.plane.Rect.{Rect}
use Rattle.skyline_runs.specs.Runs.{AreByRow, HaveCellsOfTwo}
use Rattle.skyline_runs.specs.inside.Skylines.{IsUnder}
use Rattle.skyline_runs.proofs.Covering.{union_begun}
use Rattle.skyline_runs.proofs.TwiceCovering.{cells_of_two, twice_begun, twice_next}
use Rattle.skyline_runs.proofs.runs.twice_runs.Goals as goal

pub loop-rect-init : goal.loop-rect-init
loop-rect-init c = twice_begun c.new-once.result c.new-twice.result c.as_slice-rect-items.result.now
    (union_begun c.new-once.result c.as_slice-rect-items.result.now c.new-once.ensures.sound c.new-once.ensures.below c.new-once.ensures.none)
    c.new-twice.ensures.sound c.new-twice.ensures.below c.new-twice.ensures.none

pub loop-rect-preserved : goal.loop-rect-preserved
loop-rect-preserved c =
    let both = c.in_ok-add_to_both.ensures in
    twice_next c.loop-rect.once c.add_to_both.new.once c.loop-rect.twice c.add_to_both.new.twice
    c.as_slice-rect-items.result.now c.loop-rect.rect-index c.rect-item.result
    (subst AreByRow (sym c.as_slice-rect-items.ensures.value) c.in_ok-sorted.ensures.ordered) c.loop-rect-test.true c.rect-item.is
    c.loop-rect.invariant both.once_sound both.once_below both.once_cells both.twice_sound both.twice_below both.twice_cells

pub returns-clause-twice : goal.returns-clause-twice
returns-clause-twice c =
    let moved = subst (λ (xs : List Rect). IsPermutation c.args.rects.now xs) (sym c.as_slice-rect-items.ensures.value) c.in_ok-sorted.ensures.same in
    IfOk-weaker c.finish.result (λ (runs : Vec Rect Global). (cell : Cell) → IsInUnion runs.items cell ↔ IsUnder c.loop-rect.twice cell)
    (λ (runs : Vec Rect Global). HaveCellsOfTwo c.args.rects.now runs.items)
    (λ (runs : Vec Rect Global) cells. cells_of_two c.loop-rect.once c.loop-rect.twice c.args.rects.now c.as_slice-rect-items.result.now runs.items
    c.loop-rect.rect-index c.loop-rect-test.false moved c.loop-rect.invariant cells)
    c.finish.ensures.cells

pub add_to_both-requires-clause-once_sound : goal.add_to_both-requires-clause-once_sound
add_to_both-requires-clause-once_sound c = c.loop-rect.invariant.union.sound

pub add_to_both-requires-clause-once_below : goal.add_to_both-requires-clause-once_below
add_to_both-requires-clause-once_below c = c.loop-rect.invariant.union.below c.loop-rect.rect-index c.rect-item.result (omega arith)
    (slice_get_read _ _ _ _ refl c.loop-rect-test.true c.rect-item.is)

pub add_to_both-requires-clause-twice_sound : goal.add_to_both-requires-clause-twice_sound
add_to_both-requires-clause-twice_sound c = c.loop-rect.invariant.sound

pub add_to_both-requires-clause-twice_below : goal.add_to_both-requires-clause-twice_below
add_to_both-requires-clause-twice_below c = c.loop-rect.invariant.below c.loop-rect.rect-index c.rect-item.result (omega arith)
    (slice_get_read _ _ _ _ refl c.loop-rect-test.true c.rect-item.is)

pub finish-requires : goal.finish-requires
finish-requires c = c.loop-rect.invariant.sound
