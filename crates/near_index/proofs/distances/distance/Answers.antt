use Rattle.std.proofs.Common.{rules, SFits, w32}
use Rattle.lists.proofs.Words.{to_z-of_z}
use Rattle.near_index.proofs.DistanceLaws.{distance_of_gaps}
use Rattle.near_index.proofs.distances.distance.Goals as goal

pub returns : goal.returns
returns c =
    let i : SFits w32 c.args.cell.i = search rules in
    let j : SFits w32 c.args.cell.j = search rules in
    let across = rw (c.columns.ensures.low, c.columns.ensures.high, to_z-of_z w32 c.args.cell.i i) at c.gap-across.ensures in
    let up = rw (c.rows.ensures.low, c.rows.ensures.high, to_z-of_z w32 c.args.cell.j j) at c.gap-up.ensures in
    distance_of_gaps c.args.cell c.args.rect c.gap-across.result c.gap-up.result c.max.result across up c.max.ensures
