use Rattle.open_grid.proofs.ChangeLaws.{changes_all, changes_more}
use Rattle.open_grid.proofs.changes.changes_of.Goals as goal

pub loop-one-preserved : goal.loop-one-preserved
loop-one-preserved c =
    changes_more c.args.axis c.args.zone c.args.side c.args.looked.now c.loop-one.one-index c.one-item.result c.loop-one.places.items c.add_all_changes.new.places.items c.loop-one-test.true
    c.one-item.is c.loop-one.invariant (rw c.as_slice.ensures at c.in_ok-add_all_changes.ensures)

pub returns-clause-changes : goal.returns-clause-changes
returns-clause-changes c = changes_all c.args.axis c.args.zone c.args.side c.args.looked.now c.loop-one.one-index c.loop-one.places.items c.sort_unstable.new.self.items c.loop-one-test.false
    c.sort_unstable.ensures.permutation c.loop-one.invariant
