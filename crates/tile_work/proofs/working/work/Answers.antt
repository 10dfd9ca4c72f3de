use Rattle.std.proofs.Common.{ℕ, List, get_or, ap, sym, subst, arith}
use Rattle.tile_board.specs.Hands.{view_of}
use Rattle.tile_board.specs.declared.views.View.{View}
use Rattle.tile_work.proofs.WorkLaws.{has_draw, drawn, stopped, one_draw}
use Rattle.tile_work.proofs.working.work.Goals as goal

pub draw-requires-clause-draw_left : goal.draw-requires-clause-draw_left
draw-requires-clause-draw_left g c = has_draw (g.J.TileJob.tickets c.args.job.now) (view_of c.loop-ticket.hand) c.loop-ticket.hand.facts c.loop-ticket.invariant.working.drew

pub returns-in_err-amounts-clause-draws : goal.returns-in_err-amounts-clause-draws
returns-in_err-amounts-clause-draws g c =
    let tickets = g.J.TileJob.tickets c.args.job.now in
    one_draw tickets _ _ (view_of c.loop-ticket.hand) (view_of c.draw.new.hand) c.loop-ticket.hand.facts c.loop-ticket.invariant.working.drew c.in-Some.ensures.some.1

pub credit_all-requires-clause-in_order : goal.credit_all-requires-clause-in_order
credit_all-requires-clause-in_order g c slot small =
    subst (λ (items : List ℕ). g.J.TileJob.is_amount c.args.job.now c.in-Some.ticket slot (get_or items slot 0)) (sym c.as_slice.ensures.value) (c.in_ok-amounts.ensures.in_order slot small)

pub credit_all-requires-clause-drawn : goal.credit_all-requires-clause-drawn
credit_all-requires-clause-drawn g c =
    drawn (g.J.TileJob.tickets c.args.job.now) (g.J.TileJob.slots c.args.job.now) (g.J.TileJob.is_amount c.args.job.now) _ c.in-Some.ticket (view_of c.loop-ticket.hand) (view_of c.draw.new.hand)
    c.requires.made_for.tickets_are c.loop-ticket.hand.facts c.loop-ticket.invariant.working c.in-Some.ensures.some.0 c.in-Some.ensures.some.1 c.in-Some.ensures.uncredited

pub loop-ticket-smaller : goal.loop-ticket-smaller
loop-ticket-smaller g c =
    let some = has_draw (g.J.TileJob.tickets c.args.job.now) (view_of c.loop-ticket.hand) c.loop-ticket.hand.facts c.loop-ticket.invariant.working.drew in
    omega (arith, some, ap (λ (v : View). v.left) c.in-Some.ensures.some.1, c.credit_all.ensures.left)

pub returns-clause-draws : goal.returns-clause-draws
returns-clause-draws g c =
    let tickets = g.J.TileJob.tickets c.args.job.now in
    one_draw tickets _ _ (view_of c.loop-ticket.hand) (view_of c.draw.new.hand) c.loop-ticket.hand.facts c.loop-ticket.invariant.working.drew c.in_default.ensures.none.2

pub returns-clause-worked : goal.returns-clause-worked
returns-clause-worked g c =
    stopped (g.J.TileJob.tickets c.args.job.now) (g.J.TileJob.slots c.args.job.now) (g.J.TileJob.is_amount c.args.job.now) _ c.in_default.ensures.none.0 (view_of c.loop-ticket.hand)
    (view_of c.draw.new.hand)
    c.requires.made_for.tickets_are c.loop-ticket.invariant.working c.in_default.ensures.none.1 c.in_default.ensures.none.2
