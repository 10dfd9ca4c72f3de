use Rattle.std.proofs.Common.{All}
use Rattle.lists.proofs.Reading.{All-read, All-read_all}
use Rattle.area_calls.specs.OnPieces.{IsOnPieces}
use Rattle.area_calls.proofs.spotted.is_spot_on.Goals as goal

pub loop-rect-preserved : goal.loop-rect-preserved
loop-rect-preserved c =
    All-read (IsOnPieces c.args.pieces.now) c.as_slice-rect-items.result.now c.loop-rect.rect-index c.rect-item.result c.loop-rect-test.true c.rect-item.is c.loop-rect.invariant
    (c.is_on.ensures c.if-not-is_on.false)

pub returns : goal.returns
returns c t =
    let seen = c.as_slice-rect-items.result.now in
    let all : All (IsOnPieces c.args.pieces.now) seen = All-read_all (IsOnPieces c.args.pieces.now) seen c.loop-rect.rect-index c.loop-rect-test.false c.loop-rect.invariant in
    rw c.as_slice-rect-items.ensures at all
