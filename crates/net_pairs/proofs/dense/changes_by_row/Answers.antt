use Rattle.net_pairs.proofs.ChangeMoves.{weighed_in_order}
use Rattle.net_pairs.proofs.dense.changes_by_row.Goals as goal

pub returns-clause-changes : goal.returns-clause-changes
returns-clause-changes c = record {
  changes = c.in_ok-changes.changes.items;
  are = c.in_ok-changes.ensures;
  weighed_are = weighed_in_order c.args.window _ _ _ c.weigh.ensures c.sort_by_row.ensures.same;
}
