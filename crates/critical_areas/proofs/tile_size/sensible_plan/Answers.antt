use Rattle.critical_areas.proofs.LengtheningLaws.{doubled_on}
use Rattle.critical_areas.proofs.tile_size.sensible_plan.Goals as goal

pub returns-clause-edge : goal.returns-clause-edge
returns-clause-edge c =
    let first = c.sensible_edge.ensures.edge in
    let more = c.plan.ensures.edge in
    doubled_on c.args.edge c.sensible_edge.result c.plan.result.edge first.doublings more.doublings first.edge_is more.edge_is
