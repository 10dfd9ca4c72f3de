use Rattle.std.proofs.Common.{◌∙◌, ap, arith, length, List, ℤ, sym, subst, Contains, FitsSigned, w32, rules}
use Rattle.lists.proofs.Words.{dedup_is, int_eq, length-map, to_z-of_z}
use Rattle.lists.proofs.Containing.{all_of_each}
use Rattle.lists.proofs.Mapping.{Contains-map}
use Rattle.lists.proofs.Reading.{map_next, map_done}
use Rattle.geo_core.specs.declared.plane.Rect.{Rect}
use Rattle.touch_sweep.proofs.ColumnLaws.{columns_ordered, column_kept}
use Rattle.touch_sweep.proofs.strip.beginnings.Goals as goal

pub loop-rect-init : goal.loop-rect-init
loop-rect-init c = c.in_ok-columns.ensures.items

pub loop-rect-preserved : goal.loop-rect-preserved
loop-rect-preserved c =
    let fits : FitsSigned w32 c.rect-item.result.x0 = search rules in
    let pushed = simp to_z-of_z at c.in_ok-push.ensures.items in
    map_next (λ (rect : Rect). rect.x0) c.args.rects.now c.loop-rect.rect-index c.rect-item.result _ _ c.loop-rect-test.true c.rect-item.is c.loop-rect.invariant pushed

pub returns-clause-ordered : goal.returns-clause-ordered
returns-clause-ordered c = columns_ordered _ _ c.sort_unstable.ensures.sorted (dedup_is int_eq _ _ c.dedup.ensures.filtered)

pub returns-clause-all : goal.returns-clause-all
returns-clause-all c =
    let pushed = map_done (λ (rect : Rect). rect.x0) c.args.rects.now c.loop-rect.rect-index _ c.loop-rect-test.false c.loop-rect.invariant in
    all_of_each _ c.args.rects.now (λ (rect : Rect) among. column_kept _ _ _ rect.x0 c.sort_unstable.ensures.permutation (dedup_is int_eq _ _ c.dedup.ensures.filtered)
    (subst (λ (xs : List ℤ). Contains xs rect.x0) (sym pushed) (Contains-map (λ (rect : Rect). rect.x0) c.args.rects.now rect among)))

pub returns-clause-few : goal.returns-clause-few
returns-clause-few c =
    let pushed = map_done (λ (rect : Rect). rect.x0) c.args.rects.now c.loop-rect.rect-index _ c.loop-rect-test.false c.loop-rect.invariant in
    let as_many = ap (λ (xs : List ℤ). length xs) pushed ∙ length-map c.args.rects.now (λ (rect : Rect). rect.x0) in
    let sorted = c.sort_unstable.ensures.len in let fewer = c.dedup.ensures.bound in omega arith
