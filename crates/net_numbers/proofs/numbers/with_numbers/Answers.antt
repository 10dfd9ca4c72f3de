use Rattle.std.proofs.Common.{refl, subst, sym, Any, ◌≡◌}
use Rattle.lists.proofs.Pairing.{AllZip-more}
use Rattle.geo_core.specs.declared.plane.Labelled.{Labelled}
use Rattle.net_numbers.specs.FirstCells.{IsNumberedPiece}
use Rattle.net_numbers.proofs.NumberLaws.{cells_listed, numbered_piece}
use Rattle.net_numbers.proofs.numbers.with_numbers.Goals as goal

pub number_of-number-requires-clause-known : goal.number_of-number-requires-clause-known
number_of-number-requires-clause-known c =
    subst (λ (piece : Labelled). Any (λ corner. corner.label ≡ piece.label) c.args.corners.now) (sym c.piece-item.is)
    (c.requires.corners.all c.loop-piece.piece-index c.piece-item.result c.loop-piece-test.true)

pub number_of-number-requires-clause-listed : goal.number_of-number-requires-clause-listed
number_of-number-requires-clause-listed c = cells_listed c.args.pieces.now c.args.corners.now c.args.cells.now c.requires.corners c.requires.cells

pub loop-piece-preserved : goal.loop-piece-preserved
loop-piece-preserved c =
    let pieces = c.args.pieces.now in
    rw c.in_ok-push.ensures.items
    (AllZip-more (IsNumberedPiece pieces c.args.cells.now) pieces c.loop-piece.numbered.items c.loop-piece.piece-index c.piece-item.result _
    c.loop-piece-test.true c.piece-item.is c.loop-piece.invariant
    (numbered_piece pieces c.args.corners.now c.args.cells.now c.piece-item.result _ c.requires.corners c.number_of-number.ensures refl))
