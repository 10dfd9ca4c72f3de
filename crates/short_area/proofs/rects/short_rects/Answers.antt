use Rattle.std.proofs.Common.{◌↔◌}
use Rattle.lists.proofs.Words.{IfOk-weaker}
use Rattle.geo_core.specs.Plane.{Has, IsInUnion}
use Rattle.geo_core.specs.declared.plane.Cell.{Cell}
use Rattle.skyline_runs.specs.Runs.{HaveSameCells}
use Rattle.union_area.proofs.laws.GainLaws.{gained_apart}
use Rattle.short_area.specs.Labels.{TouchesTwoLabels}
use Rattle.short_area.specs.Zones.{IsInTwoLabels}
use Rattle.short_area.proofs.Touching.{shorts_found}
use Rattle.short_area.proofs.rects.short_rects.Goals as goal

pub returns-clause-cells : goal.returns-clause-cells
returns-clause-cells c =
    let new = c.in_ok-found.found in
    IfOk-weaker c.finish.result (λ all. HaveSameCells new all.items) (λ all. (d : Cell) → IsInUnion all.items d ↔ (TouchesTwoLabels c.args.pieces.now c.args.r d × Has c.args.window d))
    (λ all. shorts_found c.args.r c.requires.least c.args.pieces.now c.in_ok-zones.zones.items c.args.window c.new.result new all.items c.in_ok-zones.ensures c.new.ensures c.in_ok-found.ensures)
    c.finish.ensures.same

pub returns-clause-apart : goal.returns-clause-apart
returns-clause-apart c =
    c.finish.ensures.apart (gained_apart (IsInTwoLabels c.in_ok-zones.zones.items) c.args.window c.new.result c.in_ok-found.found c.new.ensures c.in_ok-found.ensures)
