use Rattle.std.proofs.Common.{sym, ◌∙◌, ◌≡◌, Some}
use Rattle.lists.proofs.Reading.{All-read, All-read_all}
use Rattle.near_index.proofs.IndexLaws.{label_is}
use Rattle.near_index.proofs.index.common_label.Goals as goal

pub loop-piece-preserved : goal.loop-piece-preserved
loop-piece-preserved g c =
    let label_of = g.T.Rectangular.label_of in
    All-read (λ piece. label_of piece ≡ Some c.in_ok-label.label) c.args.pieces.now c.loop-piece.piece-index c.piece-item.result c.loop-piece-test.true c.piece-item.is c.loop-piece.invariant
    (sym c.label-in-loop-piece.ensures ∙ label_is c.label-in-loop-piece.result c.in_ok-label.label (sym c.ne.ensures ∙ c.if-ne.false))

pub returns : goal.returns
returns g c = All-read_all (λ piece. g.T.Rectangular.label_of piece ≡ Some c.in_ok-label.label) c.args.pieces.now c.loop-piece.piece-index c.loop-piece-test.false c.loop-piece.invariant
