use Rattle.std.proofs.Common.{◌≡◌, ◌≤◌, length}
use Rattle.lists.proofs.Words.{IfOk-weaker}
use Rattle.geo_core.specs.declared.plane.Cell.{Cell}
use Rattle.skyline_runs.specs.Depths.{depth_of}
use Rattle.skyline_runs.specs.Runs.{AreApart, HaveSameCells}
use Rattle.joined_rects.specs.inside.Joins.{IsJoined}
use Rattle.joined_rects.proofs.JoinLaws.{same_cells, still_apart}
use Rattle.joined_rects.proofs.joins.joined.Goals as goal

pub returns-clause-depths : goal.returns-clause-depths
returns-clause-depths c =
    IfOk-weaker c.joined_twice.result (λ joined. IsJoined c.args.rects.items joined.items) (λ joined. (d : Cell) → depth_of joined.items d ≡ depth_of c.args.rects.items d)
    (λ joined is. is.depths) c.joined_twice.ensures

pub returns-clause-same : goal.returns-clause-same
returns-clause-same c =
    IfOk-weaker c.joined_twice.result (λ joined. IsJoined c.args.rects.items joined.items) (λ joined. HaveSameCells c.args.rects.items joined.items)
    (λ joined. same_cells c.args.rects.items joined.items) c.joined_twice.ensures

pub returns-clause-apart : goal.returns-clause-apart
returns-clause-apart c apart =
    IfOk-weaker c.joined_twice.result (λ joined. IsJoined c.args.rects.items joined.items) (λ joined. AreApart joined.items)
    (λ joined. still_apart c.args.rects.items joined.items apart) c.joined_twice.ensures

pub returns-clause-fewer : goal.returns-clause-fewer
returns-clause-fewer c =
    IfOk-weaker c.joined_twice.result (λ joined. IsJoined c.args.rects.items joined.items) (λ joined. length joined.items ≤ length c.args.rects.items)
    (λ joined is. is.fewer) c.joined_twice.ensures
