use Rattle.std.proofs.Common.{◌==◌}
use Rattle.std.proofs.lemmas.Bool.{eq-eqb, ne_eqb}
use Rattle.net_extract.specs.declared.pieces.Piece.{Piece}
use Rattle.net_extract.proofs.SoFarLaws.{kept_next, left_out, all_kept}
use Rattle.net_extract.proofs.island_terminals.rects_on.Goals as goal
use Rattle.net_extract.proofs.island_terminals.rects_on.Goals.{then-piece-island+in_ok-push, else-piece-island}

pub loop-piece-preserved : goal.loop-piece-preserved
loop-piece-preserved c =
    let rect_of = λ (piece : Piece). piece.rect in
    let test = λ (piece : Piece). piece.island == c.args.island in
    let k = c.loop-piece.piece-index in
    elim c.if-piece-island.branch [
      | then-piece-island+in_ok-push w ↦ rw w.rects-is
          (kept_next rect_of c.args.pieces.now k test c.piece-item.result _ _ c.loop-piece-test.true c.piece-item.is (eq-eqb _ _ w.if-piece-island.true)
          c.loop-piece.invariant w.in_ok-push.ensures.items)
      | else-piece-island w ↦ rw w.rects-is
          (left_out rect_of c.args.pieces.now k test c.piece-item.result _ c.loop-piece-test.true c.piece-item.is (ne_eqb _ _ w.if-piece-island.false) c.loop-piece.invariant)
    ]

pub returns : goal.returns
returns c =
    all_kept (λ (piece : Piece). piece.rect) c.args.pieces.now c.loop-piece.piece-index (λ (piece : Piece). piece.island == c.args.island) _ c.loop-piece-test.false c.loop-piece.invariant
