use Rattle.std.proofs.Common.{◌↔◌, List, subst, sym}
use Rattle.geo_core.specs.Plane.{Has, IsInUnion}
use Rattle.geo_core.specs.declared.plane.Cell.{Cell}
use Rattle.geo_core.specs.declared.plane.Rect.{Rect}
use Rattle.skyline_runs.specs.Runs.{IsInTwo}
use Rattle.short_area.specs.Zones.{IsInTwoLabels}
use Rattle.short_area.proofs.Counting.{count_alike, count_of_all, count_of_none}
use Rattle.short_area.proofs.areas.step_from.Goals as goal

pub returns-in-Nothing : goal.returns-in-Nothing
returns-in-Nothing c = count_of_none c.args.zones.now c.args.window (rw c.in-Nothing.is at c.requires)

pub returns-in-All : goal.returns-in-All
returns-in-All c = count_of_all c.args.zones.now c.args.window c.count_of.result (rw c.in-All.is at c.requires) c.count_of.ensures.count

pub returns-in_ok-union_area-in-InOne : goal.returns-in_ok-union_area-in-InOne
returns-in_ok-union_area-in-InOne c =
    let zones = c.args.zones.now in
    let left : (d : Cell) → Has c.args.window d → IsInUnion c.in-InOne.rects.items d ↔ IsInTwoLabels zones d = rw c.in-InOne.is at c.requires in
    let lent = subst (λ (xs : List Rect). (d : Cell) → Has c.args.window d → IsInUnion xs d ↔ IsInTwoLabels zones d) (sym c.as_slice.ensures.value) left in
    let count = c.in_ok-union_area-in-InOne in count_alike (IsInUnion c.as_slice.result.now) zones c.args.window count.field-0 lent count.ensures.tally count.ensures.small

pub returns-in_ok-area_of_two-in-InTwo : goal.returns-in_ok-area_of_two-in-InTwo
returns-in_ok-area_of_two-in-InTwo c =
    let zones = c.args.zones.now in
    let left : (d : Cell) → Has c.args.window d → IsInTwo c.in-InTwo.rects.items d ↔ IsInTwoLabels zones d = rw c.in-InTwo.is at c.requires in
    let lent = subst (λ (xs : List Rect). (d : Cell) → Has c.args.window d → IsInTwo xs d ↔ IsInTwoLabels zones d) (sym c.as_slice-in-InTwo.ensures.value) left in
    let count = c.in_ok-area_of_two-in-InTwo in count_alike (IsInTwo c.as_slice-in-InTwo.result.now) zones c.args.window count.field-0 lent count.ensures.tally count.ensures.small
