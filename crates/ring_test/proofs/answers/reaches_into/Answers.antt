use Rattle.std.proofs.Common.{inl, inr, refl, sym, take_all, ◌∙◌}
use Rattle.lists.proofs.Words.{false≢true}
use Rattle.ring_test.proofs.HoleLaws.{on_more, on_none, on_piece}
use Rattle.ring_test.proofs.answers.reaches_into.Goals as goal

pub loop-piece-init : goal.loop-piece-init
loop-piece-init c h on is = on_none h on

pub loop-piece-preserved : goal.loop-piece-preserved
loop-piece-preserved c h on is = elim ((on_more c.args.pieces.now c.loop-piece.piece-index c.piece-item.result h c.loop-piece-test.true c.piece-item.is).0 on) [
  | inl old ↦ c.loop-piece.invariant h old is
  | inr new ↦ false≢true (sym c.if-overlap.false ∙ c.overlap.ensures.1 (h, (c.of_rect.ensures h).1 new, record { across = is.0; up = is.1 }))
]

pub returns-then-overlap : goal.returns-then-overlap
returns-then-overlap c = (
  λ t. let o = c.overlap.ensures.0 c.if-overlap.true in
      (o.0, on_piece c.args.pieces.now c.loop-piece.piece-index c.piece-item.result o.0 c.loop-piece-test.true c.piece-item.is ((c.of_rect.ensures o.0).0 o.1), (o.2.across, o.2.up)),
  λ o. refl,
)

pub returns : goal.returns
returns c = (
  λ f. absurd (false≢true f),
  λ (h, on, is). absurd (c.loop-piece.invariant h (rw (take_all c.loop-piece.piece-index c.args.pieces.now c.loop-piece-test.false) on) is),
)
