use Rattle.near_index.proofs.IndexLaws.{hull_all, hull_more}
use Rattle.near_index.proofs.index.hull_of.Goals as goal

pub loop-piece-preserved : goal.loop-piece-preserved
loop-piece-preserved g c =
    hull_more g.T.Rectangular.rect_of c.args.pieces.now c.loop-piece.piece-index c.piece-item.result c.loop-piece.hull c.rect.result c.join-hull.result c.loop-piece-test.true c.piece-item.is
    c.rect.ensures c.join-hull.ensures c.loop-piece.invariant

pub returns : goal.returns
returns g c = hull_all g.T.Rectangular.rect_of c.args.pieces.now c.loop-piece.piece-index c.loop-piece.hull c.loop-piece-test.false c.loop-piece.invariant
