use Rattle.lists.proofs.Words.{map-append, take_more}
use Rattle.area_parts.specs.AreaParts.{by_net}
use Rattle.area_parts.proofs.preparing.labelled.Goals as goal

pub loop-piece-preserved : goal.loop-piece-preserved
loop-piece-preserved c =
    rw (take_more c.args.pieces.now c.loop-piece.piece-index c.piece-item.result c.loop-piece-test.true, map-append by_net) (cc (c.loop-piece.invariant, c.in_ok-push.ensures.items, c.piece-item.is))
