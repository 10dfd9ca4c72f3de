use Rattle.lists.proofs.Reading.{All-read, All-read_all}
use Rattle.area_calls.specs.OnPieces.{IsSpotOnPieces}
use Rattle.area_calls.proofs.spotted.are_on.Goals as goal

pub loop-spot-preserved : goal.loop-spot-preserved
loop-spot-preserved c =
    All-read (IsSpotOnPieces c.args.pieces.now) c.args.spots.now c.loop-spot.spot-index c.spot-item.result c.loop-spot-test.true c.spot-item.is c.loop-spot.invariant
    (c.is_spot_on.ensures c.if-not-is_spot_on.false)

pub returns : goal.returns
returns c t = All-read_all (IsSpotOnPieces c.args.pieces.now) c.args.spots.now c.loop-spot.spot-index c.loop-spot-test.false c.loop-spot.invariant
