use Rattle.lists.proofs.Words.{IfOk-weaker}
use Rattle.std.proofs.Common.{◌↔◌}
use Rattle.geo_core.specs.Plane.{Has, IsInUnion}
use Rattle.geo_core.specs.declared.plane.Cell.{Cell}
use Rattle.skyline_runs.specs.Runs.{HaveSameCells}
use Rattle.union_area.proofs.laws.GainLaws.{gained_all, gained_apart}
use Rattle.union_area.proofs.rects.union_rects.Goals as goal

pub returns-clause-cells : goal.returns-clause-cells
returns-clause-cells c =
    IfOk-weaker c.finish.result (λ all. HaveSameCells c.in_ok-found.found all.items)
    (λ all. (d : Cell) → IsInUnion all.items d ↔ (IsInUnion c.args.rects.now d × Has c.args.window d))
    (λ all. gained_all (IsInUnion c.args.rects.now) c.args.window c.new.result c.in_ok-found.found all.items c.new.ensures c.in_ok-found.ensures)
    c.finish.ensures.same

pub returns-clause-apart : goal.returns-clause-apart
returns-clause-apart c =
    c.finish.ensures.apart (gained_apart (IsInUnion c.args.rects.now) c.args.window c.new.result c.in_ok-found.found
    c.new.ensures c.in_ok-found.ensures)
