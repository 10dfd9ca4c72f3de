use Rattle.std.proofs.Common.{rules}
use Rattle.net_numbers.proofs.OrderLaws.{cell_found}
use Rattle.net_numbers.proofs.order.place_of.Goals as goal

pub returns : goal.returns
returns c =
    cell_found c.args.cells.now c.requires.rising c.args.cell c.partition_point.result c.requires.listed c.partition_point.ensures.bound
    c.partition_point.ensures.partitioned (λ a r q k. search rules)
