use Rattle.std.proofs.Common.{Global, Vec, arith, refl, subst, sym, List, ◌↔◌}
use Rattle.lists.proofs.Words.{IfOk-weaker, IsPermutation, slice_get_read}
use Rattle.geo_core.specs.Plane.{IsInUnion}
use Rattle.geo_core.specs.declared.plane.Cell.{Cell}
use Rattle.geo_core.specs.declared.plane.Rect.{Rect}
use Rattle.skyline_runs.specs.Runs.{AreByRow, HaveSameCells}
use Rattle.skyline_runs.specs.inside.Skylines.{IsUnder}
use Rattle.skyline_runs.proofs.Covering.{union_begun, union_next}
use Rattle.skyline_runs.proofs.TwiceCovering.{same_cells}
use Rattle.skyline_runs.proofs.runs.union_runs.Goals as goal

pub loop-rect-init : goal.loop-rect-init
loop-rect-init c = union_begun c.new-skyline.result c.as_slice-rect-items.result.now c.new-skyline.ensures.sound c.new-skyline.ensures.below c.new-skyline.ensures.none

pub add-requires-clause-below : goal.add-requires-clause-below
add-requires-clause-below c = c.loop-rect.invariant.below c.loop-rect.rect-index c.rect-item.result (omega arith)
    (slice_get_read _ _ _ _ refl c.loop-rect-test.true c.rect-item.is)

pub loop-rect-preserved : goal.loop-rect-preserved
loop-rect-preserved c = union_next c.loop-rect.skyline c.add.new.self c.as_slice-rect-items.result.now c.loop-rect.rect-index c.rect-item.result
    (subst AreByRow (sym c.as_slice-rect-items.ensures.value) c.in_ok-sorted.ensures.ordered) c.loop-rect-test.true c.rect-item.is
    c.loop-rect.invariant c.in_ok-add.ensures.sound c.in_ok-add.ensures.below c.in_ok-add.ensures.cells

pub returns-clause-same : goal.returns-clause-same
returns-clause-same c =
    let moved = subst (λ (xs : List Rect). IsPermutation c.args.rects.now xs) (sym c.as_slice-rect-items.ensures.value) c.in_ok-sorted.ensures.same in
    IfOk-weaker c.finish.result (λ (runs : Vec Rect Global). (cell : Cell) → IsInUnion runs.items cell ↔ IsUnder c.loop-rect.skyline cell)
    (λ (runs : Vec Rect Global). HaveSameCells c.args.rects.now runs.items)
    (λ (runs : Vec Rect Global) cells. same_cells c.loop-rect.skyline c.args.rects.now c.as_slice-rect-items.result.now runs.items
    c.loop-rect.rect-index c.loop-rect-test.false moved c.loop-rect.invariant cells)
    c.finish.ensures.cells
