use Rattle.std.proofs.Common.{◌≡◌, sym, arith}
use Rattle.lists.proofs.Words.{ints}
use Rattle.outlines.proofs.PieceLaws.{piece_removed, places_removed}
use Rattle.outlines.proofs.pieces.join.Goals as goal

pub returns-clause-same : goal.returns-clause-same
returns-clause-same c =
    let p = c.index.result.now in
    let same : p.winding ≡ c.winding_before-before.result = omega (arith, ints, c.if-index-before.false) in
    let stands = rw (c.as_slice.ensures.value, sym same) at c.winding_before-before.ensures in
    rw c.remove.ensures.items (piece_removed c.args.pieces.now.items c.args.number p (omega arith) (sym c.index.ensures) c.requires.rising stands)

pub returns-clause-kept : goal.returns-clause-kept
returns-clause-kept c =
    rw c.remove.ensures.items (places_removed c.args.pieces.now.items c.args.number c.index.result.now (omega arith) (sym c.index.ensures) c.requires.rising)
