use Rattle.open_grid.proofs.ChangeLaws.{gains_all, gains_more, gains_none}
use Rattle.open_grid.proofs.changes.add_all_changes.Goals as goal

pub loop-one-init : goal.loop-one-init
loop-one-init c = gains_none c.args.axis c.args.zone c.args.side c.args.places.now.items

pub loop-one-preserved : goal.loop-one-preserved
loop-one-preserved c =
    gains_more c.args.axis c.args.zone c.args.side c.args.near.now c.loop-one.one-index c.one-item.result c.args.places.now.items c.loop-one.places.items c.add_changes.new.places.items
    c.loop-one-test.true c.one-item.is c.loop-one.invariant c.in_ok-add_changes.ensures

pub returns : goal.returns
returns c = gains_all c.args.axis c.args.zone c.args.side c.args.near.now c.loop-one.one-index c.args.places.now.items c.loop-one.places.items c.loop-one-test.false c.loop-one.invariant
