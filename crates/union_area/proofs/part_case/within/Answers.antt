use Rattle.lists.proofs.Words.{IfOk-weaker}
use Rattle.skyline_runs.specs.Runs.{HaveSameCells}
use Rattle.union_area.specs.inside.PartCases.{HasCellsIn}
use Rattle.union_area.proofs.laws.ClipLaws.{clipped_cells}
use Rattle.union_area.proofs.RestLaws.{clipped_same}
use Rattle.union_area.proofs.part_case.within.Goals as goal

pub returns : goal.returns
returns c =
    IfOk-weaker c.joined.result (λ joined. HaveSameCells c.in_ok-inside.inside.items joined.items)
    (λ joined. HasCellsIn c.args.rects.now c.args.part joined.items)
    (λ joined. clipped_same _ _ _ joined.items (clipped_cells c.args.rects.now c.args.part c.in_ok-inside.inside.items
    c.in_ok-inside.ensures)) c.joined.ensures
