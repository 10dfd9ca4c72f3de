use Rattle.std.proofs.Common.{◌↔◌, subst, sym}
use Rattle.lists.proofs.Words.{IfOk-weaker}
use Rattle.geo_core.specs.declared.plane.Cell.{Cell}
use Rattle.skyline_runs.specs.Runs.{IsInTwo}
use Rattle.short_area.specs.Zones.{IsInTwoLabels}
use Rattle.short_area.specs.inside.LabelRuns.{AreRunsOf}
use Rattle.short_area.specs.inside.ZonesNearCells.{HaveSameTwo}
use Rattle.short_area.proofs.part_case.runs_of_few.Goals as goal

pub returns : goal.returns
returns c =
    let kept = c.as_slice.result.now in
    let same = subst (HaveSameTwo c.args.zones.now) (sym c.as_slice.ensures.value) c.in_ok-kept.ensures in
    IfOk-weaker c.label_runs.result (λ runs. AreRunsOf kept runs.items) (λ runs. (d : Cell) → IsInTwo runs.items d ↔ IsInTwoLabels c.args.zones.now d)
    (λ runs are d. (λ t. (same d).0 ((are.twice d).0 t), λ t. (are.twice d).1 ((same d).1 t)))
    c.label_runs.ensures
