use Rattle.std.proofs.Common.{List, ap, subst, sym, ◌++◌, ◌↔◌, ◌≡◌, ◌∙◌}
use Rattle.geo_core.specs.Plane.{Has, IsInUnion}
use Rattle.geo_core.specs.declared.plane.Cell.{Cell}
use Rattle.geo_core.specs.declared.plane.Rect.{Rect}
use Rattle.skyline_runs.specs.Runs.{IsInTwo}
use Rattle.short_area.specs.Zones.{IsInTwoLabels}
use Rattle.short_area.proofs.ZoneLaws.{two_of_both}
use Rattle.short_area.proofs.rects.runs_of_both.Goals as goal

pub returns : goal.returns
returns c d at =
    let zones = c.args.zones.now in let part = c.args.part in
    let own = c.in_ok-own.own.items in let others = c.in_ok-own.others.items in
    let own_runs = c.in_ok-runs.runs.items in let other_runs = c.in_ok-other_runs.other_runs.items in
    let both : c.extend_from_slice.new.self.items ≡ own_runs ++ other_runs = c.in_ok-extend_from_slice.ensures.items ∙ ap (λ (xs : List Rect). own_runs ++ xs) c.as_slice-3.ensures.value in
    let own_cells = subst (λ (xs : List Rect). (e : Cell) → IsInUnion own_runs e ↔ (IsInUnion xs e × Has part e)) c.as_slice.ensures.value c.in_ok-runs.ensures.cells in
    let other_cells = subst (λ (xs : List Rect). (e : Cell) → IsInUnion other_runs e ↔ (IsInUnion xs e × Has part e)) c.as_slice-2.ensures.value c.in_ok-other_runs.ensures.cells in
    subst (λ (xs : List Rect). IsInTwo xs d ↔ IsInTwoLabels zones d) (sym both)
    (two_of_both zones part c.args.one c.args.other own others own_runs other_runs c.requires c.in_ok-own.ensures own_cells c.in_ok-runs.ensures.apart other_cells c.in_ok-other_runs.ensures.apart d at)
