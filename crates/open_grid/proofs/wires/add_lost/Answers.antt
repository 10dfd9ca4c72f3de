use Rattle.open_grid.proofs.WireCellLaws.{lost_all, lost_more, lost_none}
use Rattle.open_grid.proofs.wires.add_lost.Goals as goal

pub loop-hull-init : goal.loop-hull-init
loop-hull-init c = lost_none c.args.window c.args.side c.args.cells.now.items

pub loop-hull-preserved : goal.loop-hull-preserved
loop-hull-preserved c =
    lost_more c.args.window c.args.side c.args.hulls.now c.loop-hull.hull-index c.hull-item.result _ _ _ _ c.args.cells.now.items c.loop-hull.cells.items c.add_spanning.new.cells.items
    c.loop-hull-test.true c.hull-item.is c.of-columns.ensures.low c.of-columns.ensures.high c.of-rows.ensures.low c.of-rows.ensures.high c.loop-hull.invariant c.in_ok-add_spanning.ensures

pub returns : goal.returns
returns c = lost_all c.args.window c.args.side c.args.hulls.now c.loop-hull.hull-index c.args.cells.now.items c.loop-hull.cells.items c.loop-hull-test.false c.loop-hull.invariant
