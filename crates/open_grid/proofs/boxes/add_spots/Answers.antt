use Rattle.std.proofs.Common.{take_all}
use Rattle.open_grid.proofs.BoxLaws.{no_spots, spots_more}
use Rattle.open_grid.proofs.boxes.add_spots.Goals as goal

pub loop-spot-init : goal.loop-spot-init
loop-spot-init c = no_spots c.args.boxes.now.items

pub loop-spot-preserved : goal.loop-spot-preserved
loop-spot-preserved c =
    spots_more c.args.spots.now c.loop-spot.spot-index c.spot-item.result c.args.boxes.now.items c.loop-spot.boxes.items c.add_rects.new.boxes.items c.loop-spot-test.true c.spot-item.is
    c.loop-spot.invariant (rw c.as_slice.ensures at c.in_ok-add_rects.ensures)

pub returns : goal.returns
returns c = rw (take_all c.loop-spot.spot-index c.args.spots.now c.loop-spot-test.false) at c.loop-spot.invariant
