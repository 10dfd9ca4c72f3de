use Rattle.std.proofs.Common.{w32, w64, ◌+ℤ◌, FitsSigned, sym, subst, rules, arith}
use Rattle.lists.proofs.Words.{ints, to_z-of_z}
use Rattle.outlines.specs.declared.piece.Piece.{Piece}
use Rattle.outlines.proofs.PieceLaws.{added_to}
use Rattle.outlines.proofs.pieces.add_to.Goals as goal

pub returns : goal.returns
returns c =
    let p = c.index-piece.result.now in
    let column : FitsSigned w32 p.column = search rules in
    let fits = subst (λ (q : Piece). FitsSigned w64 (q.winding +ℤ c.args.by)) (sym c.index-piece.ensures) (c.requires.fits p) in
    added_to c.args.pieces.now.items c.args.number p _ c.args.by (omega arith) (sym c.index-piece.ensures) (to_z-of_z w32 p.column column) (omega (arith, ints, fits)) c.requires.rising
