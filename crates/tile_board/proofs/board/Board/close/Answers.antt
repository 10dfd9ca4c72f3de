use Rattle.std.proofs.Common.{◌≡◌, length, ap, subst, sym, ◌∙◌}
use Rattle.lists.proofs.Reading.{put_back}
use Rattle.tile_board.specs.declared.views.Limits.{Limits}
use Rattle.tile_board.proofs.ClosingLaws.{IsClosing, closing}
use Rattle.tile_board.proofs.board.Board.close.Goals as goal

pub returns : goal.returns
returns c =
    let board = c.args.self in
    let view = c.args.hand.seat.me.0 in
    let totals = c.read_totals.new.totals in
    let long : length totals ≡ c.in_ok-totals.totals.len = c.read_totals.auto.totals ∙ c.as_mut_slice.ensures.len in
    let one_each : length totals ≡ board.limits.slots = long ∙ c.in_ok-totals.ensures.len in
    let slots = one_each ∙ ap (λ (l : Limits). l.slots) board.key in
    let last = closing board.table.shared.key c.args.hand.seat.id view _ _ totals c.close_with-closed.ensures.values.2 slots c.read_totals.ensures in
    let closed = subst (λ (l : Limits). IsClosing l view totals) (sym board.key) last in
    rw (put_back _ totals c.in_ok-totals.totals.items (sym long))
    (record { one_each = one_each; sound = closed.final; at_least = closed.at_least; exact = closed.exact; all_tickets = closed.all_tickets })
