use Rattle.std.proofs.Common.{refl}
use Rattle.near_index.proofs.NearestLaws.{adds_nothing, adds_piece, adds_pieces}
use Rattle.near_index.proofs.index.search.with_each.Goals as goal

pub loop-piece-init : goal.loop-piece-init
loop-piece-init c = adds_nothing c.args.cell c.args.nearest

pub loop-piece-preserved : goal.loop-piece-preserved
loop-piece-preserved c =
    adds_piece c.args.cell c.args.pieces.now c.loop-piece.piece-index c.piece-item.result c.args.nearest c.loop-piece.found c.with-found.result c.loop-piece-test.true c.piece-item.is
    c.loop-piece.invariant (c.with-found.ensures c.piece-item.result c.args.cell refl c.distance.ensures)

pub returns : goal.returns
returns c = adds_pieces c.args.cell c.args.pieces.now c.loop-piece.piece-index c.args.nearest c.loop-piece.found c.loop-piece-test.false c.loop-piece.invariant
