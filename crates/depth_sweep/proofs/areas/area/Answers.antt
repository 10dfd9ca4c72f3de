-- a sweep over the events, as the invariant has it
use Rattle.std.proofs.Common.{rules, arith, subst, sym, ◌∙◌, ◌+◌, ◌<◌, ◌≡◌, ◌^◌, List, length, ℤ, w32, w64, FitsSigned, refl, to_z}
use Rattle.lists.proofs.Words.{nat_tests, to_z-of_z}
use Rattle.fault_model.specs.FaultNames.{Tally, cells_of}
use Rattle.cover_tree.specs.CoverTrees.{IsNew, width_of_depth}
use Rattle.depth_sweep.specs.inside.DeepCells.{IsDeep, least_of}
use Rattle.depth_sweep.proofs.RowTallies.{none_deep}
use Rattle.depth_sweep.proofs.StepLaws.{in_bound}
use Rattle.depth_sweep.proofs.Sweeping.{IsSwept, setting_of, some_columns, swept_begun, how_many, least_some}
use Rattle.depth_sweep.proofs.SweepSteps.{product_fits, sum_is, sum_fits, steps_next, room_before, within, may_apply, swept_at, same_height, tally_all, room_above}
use Rattle.depth_sweep.proofs.areas.area.Goals as goal

pub returns-then-is_empty-clause-tally : goal.returns-then-is_empty-clause-tally
returns-then-is_empty-clause-tally g c =
    let none : length c.in_ok-bars.bars.items ≡ 0 = let h = c.if-is_empty.ensures in grind (arith, nat_tests) in
    none_deep c.args.window c.args.rects.now (least_of c.args.depth) (least_some c.args.depth) (c.in_ok-bars.ensures.none none)

pub new-requires-clause-some : goal.new-requires-clause-some
new-requires-clause-some g c =
    let some : 0 < length c.in_ok-bars.bars.items = let h = c.if-is_empty.ensures in grind (arith, nat_tests) in
    let long = some_columns c.args.window c.as_slice.result.now c.in_ok-bars.bars.items some c.in_ok-bars.ensures.within in
    let one = c.as_slice.ensures.len in let other = c.as_slice-3.ensures.len in
    omega (arith, long, one, other)

pub loop-event-init : goal.loop-event-init
loop-event-init g c =
    let some : 0 < length c.in_ok-bars.bars.items = let h = c.if-is_empty.ensures in grind (arith, nat_tests) in
    let setting = setting_of c.args.window c.args.rects.now c.in_ok-places.places.items c.as_slice.result.now c.in_ok-bars.bars.items c.as_slice-2.result.now
    c.in_ok-events.events.items c.as_slice-event-items.result.now c.as_slice.ensures.value c.as_slice-2.ensures.value c.as_slice-event-items.ensures.value
    c.in_ok-places.ensures c.in_ok-bars.ensures c.in_ok-events.ensures some in
    let new = subst (λ (ps : List ℤ). IsNew ps c.in_ok-tree.tree) c.as_slice-3.ensures.value c.in_ok-tree.ensures in
    let fits : FitsSigned w32 c.args.window.y0 = search rules in
    let swept = swept_begun c.args.window c.args.rects.now c.in_ok-places.places.items c.in_ok-bars.bars.items c.as_slice-event-items.result.now setting
    (least_of c.args.depth) (least_some c.args.depth)
    c.in_ok-tree.tree new in
    record {
      setting = setting;
      swept = subst (λ row. IsSwept c.args.window c.args.rects.now c.in_ok-places.places.items c.as_slice-event-items.result.now (least_of c.args.depth) 0 c.in_ok-tree.tree row 0)
          (sym (to_z-of_z w32 c.args.window.y0 fits)) swept;
      within = omega arith;
      spent = omega arith;
      rise = omega arith;
    }

pub cells-total-requires : goal.cells-total-requires
cells-total-requires g c =
    let h = c.loop-event.invariant in let e = c.event-item.result in
    let fits : FitsSigned w64 c.width.result = search rules in let row : FitsSigned w32 c.event-item.result.row = search rules in
    product_fits _ _ _ (width_of_depth (least_of c.args.depth) c.loop-event.tree) c.loop-event.total 0 e.row (to_z w32 c.loop-event.row-bits)
    (to_z-of_z w64 c.width.result fits ∙ c.width.ensures) (to_z-of_z w32 e.row row) refl
    (room_before c.args.window c.args.rects.now c.in_ok-places.places.items c.in_ok-bars.bars.items c.as_slice-event-items.result.now h.setting (least_of c.args.depth) (least_some c.args.depth)
    c.loop-event.event-index c.loop-event.tree (to_z w32 c.loop-event.row-bits) c.loop-event.total h.swept e c.loop-event-test.true c.event-item.is)

pub overflow_add-total : goal.overflow_add-total
overflow_add-total g c =
    let h = c.loop-event.invariant in let e = c.event-item.result in
    let fits : FitsSigned w64 c.width.result = search rules in let row : FitsSigned w32 c.event-item.result.row = search rules in
    let small : c.loop-event.total + c.cells-total.result < 2 ^ 63
    = sum_fits _ _ _ (width_of_depth (least_of c.args.depth) c.loop-event.tree) c.loop-event.total c.cells-total.result e.row (to_z w32 c.loop-event.row-bits)
    (to_z-of_z w64 c.width.result fits ∙ c.width.ensures) (to_z-of_z w32 e.row row) refl c.cells-total.ensures
    (room_before c.args.window c.args.rects.now c.in_ok-places.places.items c.in_ok-bars.bars.items c.as_slice-event-items.result.now h.setting (least_of c.args.depth) (least_some c.args.depth)
    c.loop-event.event-index c.loop-event.tree (to_z w32 c.loop-event.row-bits) c.loop-event.total h.swept e c.loop-event-test.true c.event-item.is) in
    omega (arith, small)

pub apply-requires-clause-within : goal.apply-requires-clause-within
apply-requires-clause-within g c =
    let h = c.loop-event.invariant in
    within c.args.window c.args.rects.now c.in_ok-places.places.items c.in_ok-bars.bars.items c.as_slice-event-items.result.now h.setting (least_of c.args.depth) (least_some c.args.depth)
    c.loop-event.event-index c.loop-event.tree (to_z w32 c.loop-event.row-bits) c.loop-event.total h.swept c.event-item.result c.loop-event-test.true c.event-item.is

pub apply-requires-clause-may : goal.apply-requires-clause-may
apply-requires-clause-may g c =
    let h = c.loop-event.invariant in
    may_apply c.args.window c.args.rects.now c.in_ok-places.places.items c.in_ok-bars.bars.items c.as_slice-event-items.result.now h.setting (least_of c.args.depth) (least_some c.args.depth)
    c.loop-event.event-index c.loop-event.tree (to_z w32 c.loop-event.row-bits) c.loop-event.total h.swept c.event-item.result c.loop-event-test.true c.event-item.is c.as_slice-event-items.type_inv.0

pub loop-event-preserved : goal.loop-event-preserved
loop-event-preserved g c =
    let h = c.loop-event.invariant in let e = c.event-item.result in
    let fits : FitsSigned w64 c.width.result = search rules in let row : FitsSigned w32 c.event-item.result.row = search rules in
    let sum : c.loop-event.total + _ ≡ c.loop-event.total + c.cells-total.result
    = sum_is _ _ _ (width_of_depth (least_of c.args.depth) c.loop-event.tree) c.loop-event.total c.cells-total.result e.row (to_z w32 c.loop-event.row-bits)
    (to_z-of_z w64 c.width.result fits ∙ c.width.ensures) (to_z-of_z w32 e.row row) refl c.cells-total.ensures in
    record {
      setting = h.setting;
      swept = swept_at c.args.window c.args.rects.now c.in_ok-places.places.items c.in_ok-bars.bars.items c.as_slice-event-items.result.now h.setting (least_of c.args.depth) (least_some c.args.depth)
          c.loop-event.event-index c.loop-event.tree (to_z w32 c.loop-event.row-bits) c.loop-event.total h.swept e c.loop-event-test.true c.event-item.is c.apply.new.tree _ _ c.apply.ensures.changed
          (to_z-of_z w32 e.row row) sum;
      within = let small = c.loop-event-test.true in omega (arith, small);
      spent = steps_next c.args.steps.now c.loop-event.steps c.apply.new.steps c.loop-event.event-index c.loop-event.tree.height c.apply.new.tree.height
          (same_height c.args.window c.args.rects.now c.in_ok-places.places.items c.in_ok-bars.bars.items c.as_slice-event-items.result.now h.setting (least_of c.args.depth) (least_some c.args.depth)
          c.loop-event.event-index c.loop-event.tree (to_z w32 c.loop-event.row-bits) c.loop-event.total h.swept e c.loop-event-test.true c.event-item.is c.apply.new.tree c.apply.ensures.changed)
          h.spent c.apply.ensures.few_steps;
      rise = let r = h.rise in let s = c.apply.ensures.some_steps in omega (arith, r, s);
    }

pub cells-requires : goal.cells-requires
cells-requires g c =
    let h = c.loop-event.invariant in
    let fits : FitsSigned w64 c.width-2.result = search rules in let row : FitsSigned w32 c.args.window.y1 = search rules in
    product_fits _ _ _ (width_of_depth (least_of c.args.depth) c.loop-event.tree) c.loop-event.total 0 c.args.window.y1 (to_z w32 c.loop-event.row-bits)
    (to_z-of_z w64 c.width-2.result fits ∙ c.width-2.ensures) (to_z-of_z w32 c.args.window.y1 row) refl
    (room_above c.args.window c.args.rects.now c.in_ok-places.places.items c.in_ok-bars.bars.items c.as_slice-event-items.result.now h.setting (least_of c.args.depth) (least_some c.args.depth)
    c.loop-event.event-index c.loop-event.tree (to_z w32 c.loop-event.row-bits) c.loop-event.total h.swept c.loop-event-test.false)

pub overflow_add-result : goal.overflow_add-result
overflow_add-result g c =
    let h = c.loop-event.invariant in
    let fits : FitsSigned w64 c.width-2.result = search rules in let row : FitsSigned w32 c.args.window.y1 = search rules in
    let small : c.loop-event.total + c.cells.result < 2 ^ 63
    = sum_fits _ _ _ (width_of_depth (least_of c.args.depth) c.loop-event.tree) c.loop-event.total c.cells.result c.args.window.y1 (to_z w32 c.loop-event.row-bits)
    (to_z-of_z w64 c.width-2.result fits ∙ c.width-2.ensures) (to_z-of_z w32 c.args.window.y1 row) refl c.cells.ensures
    (room_above c.args.window c.args.rects.now c.in_ok-places.places.items c.in_ok-bars.bars.items c.as_slice-event-items.result.now h.setting (least_of c.args.depth) (least_some c.args.depth)
    c.loop-event.event-index c.loop-event.tree (to_z w32 c.loop-event.row-bits) c.loop-event.total h.swept c.loop-event-test.false) in
    omega (arith, small)

pub returns-clause-tally : goal.returns-clause-tally
returns-clause-tally g c =
    let h = c.loop-event.invariant in
    let fits : FitsSigned w64 c.width-2.result = search rules in let row : FitsSigned w32 c.args.window.y1 = search rules in
    subst (Tally (IsDeep c.args.rects.now (least_of c.args.depth)) (cells_of c.args.window))
    (sum_is _ _ _ (width_of_depth (least_of c.args.depth) c.loop-event.tree) c.loop-event.total c.cells.result c.args.window.y1 (to_z w32 c.loop-event.row-bits)
    (to_z-of_z w64 c.width-2.result fits ∙ c.width-2.ensures) (to_z-of_z w32 c.args.window.y1 row) refl c.cells.ensures)
    (tally_all c.args.window c.args.rects.now c.in_ok-places.places.items c.in_ok-bars.bars.items c.as_slice-event-items.result.now h.setting (least_of c.args.depth) (least_some c.args.depth)
    c.loop-event.event-index c.loop-event.tree (to_z w32 c.loop-event.row-bits) c.loop-event.total h.swept c.loop-event-test.false)

pub returns-clause-small : goal.returns-clause-small
returns-clause-small g c =
    let h = c.loop-event.invariant in
    let fits : FitsSigned w64 c.width-2.result = search rules in let row : FitsSigned w32 c.args.window.y1 = search rules in
    sum_fits _ _ _ (width_of_depth (least_of c.args.depth) c.loop-event.tree) c.loop-event.total c.cells.result c.args.window.y1 (to_z w32 c.loop-event.row-bits)
    (to_z-of_z w64 c.width-2.result fits ∙ c.width-2.ensures) (to_z-of_z w32 c.args.window.y1 row) refl c.cells.ensures
    (room_above c.args.window c.args.rects.now c.in_ok-places.places.items c.in_ok-bars.bars.items c.as_slice-event-items.result.now h.setting (least_of c.args.depth) (least_some c.args.depth)
    c.loop-event.event-index c.loop-event.tree (to_z w32 c.loop-event.row-bits) c.loop-event.total h.swept c.loop-event-test.false)

pub returns-clause-few_steps : goal.returns-clause-few_steps
returns-clause-few_steps g c =
    let h = c.loop-event.invariant in
    let two = how_many c.in_ok-bars.bars.items c.as_slice-event-items.result.now h.setting.events_are in
    let few = h.setting.bars_are.count in let within = h.within in
    in_bound c.args.window c.args.rects.now c.in_ok-places.places.items h.setting.places_are c.loop-event.tree.height c.loop-event.event-index c.args.steps.now c.loop-event.steps
    h.swept.tall (omega (arith, two, few, within)) h.spent

pub returns-clause-some_steps : goal.returns-clause-some_steps
returns-clause-some_steps g c =
    let h = c.loop-event.invariant in
    let two = how_many c.in_ok-bars.bars.items c.as_slice-event-items.result.now h.setting.events_are in
    let some = h.setting.bars_some in let rise = h.rise in let past = c.loop-event-test.false in
    λ _. omega (arith, two, some, rise, past)
