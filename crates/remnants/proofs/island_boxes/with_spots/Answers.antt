use Rattle.std.proofs.Common.{◌≡◌, arith, length, sym, take, take_all}
use Rattle.lists.proofs.Reading.{taken_more}
use Rattle.lists.proofs.Words.{length-take-le}
use Rattle.remnants.proofs.PieceLaws.{no_spots, spot_gained}
use Rattle.remnants.proofs.island_boxes.with_spots.Goals as goal

pub loop-number-init : goal.loop-number-init
loop-number-init c = no_spots c.args.boxes.items

pub loop-number-preserved : goal.loop-number-preserved
loop-number-preserved c =
    let spots = c.args.spots.now in
    let k = c.loop-number.number in
    let spot = c.index-spots-number.result in
    let count : k ≡ length (take k spots) = sym (length-take-le k spots (omega arith)) in
    let here = rw c.as_slice.ensures at c.in_ok-more.ensures in
    rw (taken_more spots k spot c.loop-number-test.true c.index-spots-number.is)
    (spot_gained (take k spots) c.args.boxes.items c.loop-number.more.items c.in_ok-more.more.items spot k count c.loop-number.invariant here)

pub returns : goal.returns
returns c = rw (take_all c.loop-number.number c.args.spots.now c.loop-number-test.false) at c.loop-number.invariant
