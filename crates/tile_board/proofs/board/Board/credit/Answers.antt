use Rattle.std.proofs.Common.{ap, ◌∙◌, ℕ, List}
use Rattle.tile_board.specs.declared.views.View.{View}
use Rattle.tile_board.specs.Counts.{times_credited}
use Rattle.tile_board.proofs.CountLaws.{times_credited-push}
use Rattle.tile_board.proofs.board.Board.credit.Goals as goal

pub returns-clause-credited : goal.returns-clause-credited
returns-clause-credited c = ap (λ (me : View × List (ℕ × ℕ)). me.0) c.add.ensures.view

pub returns-clause-counted : goal.returns-clause-counted
returns-clause-counted c t s =
    let view = ap (λ (me : View × List (ℕ × ℕ)). me.0) c.add.ensures.view in
    ap (λ (v : View). times_credited v t s) view ∙ times_credited-push c.args.hand.now.seat.me.0 (record { ticket = c.args.ticket; slot = c.args.slot; amount = c.args.amount }) t s
