use Rattle.std.proofs.Common.{ap, ℕ, List}
use Rattle.tile_board.specs.declared.views.View.{View}
use Rattle.tile_board.proofs.HandLaws.{just_drawn, answers_ticket, answers_none}
use Rattle.tile_board.proofs.board.Board.draw.Goals as goal

pub returns-then-number-self-clause-some : goal.returns-then-number-self-clause-some
returns-then-number-self-clause-some c = (c.if-number-self.true, ap (λ (me : View × List (ℕ × ℕ)). me.0) c.draw_number-number.ensures.view)

pub returns-then-number-self-clause-drawn : goal.returns-then-number-self-clause-drawn
returns-then-number-self-clause-drawn c =
    let view = ap (λ (me : View × List (ℕ × ℕ)). me.0) c.draw_number-number.ensures.view in
    let ready = just_drawn _ _ c.args.hand.now.seat.me.0 c.draw_number-number.new.seat.me.0 view c.if-number-self.true c.args.hand.now.facts c.draw_number-number.ensures.facts in
    ready.0

pub returns-then-number-self-clause-uncredited : goal.returns-then-number-self-clause-uncredited
returns-then-number-self-clause-uncredited c =
    let view = ap (λ (me : View × List (ℕ × ℕ)). me.0) c.draw_number-number.ensures.view in
    let ready = just_drawn _ _ c.args.hand.now.seat.me.0 c.draw_number-number.new.seat.me.0 view c.if-number-self.true c.args.hand.now.facts c.draw_number-number.ensures.facts in
    ready.1

pub returns-then-number-self-clause-step : goal.returns-then-number-self-clause-step
returns-then-number-self-clause-step c =
    let step = c.draw_number-number.ensures.step in (step.0, answers_ticket _ _ _ step.1 c.if-number-self.true)

pub returns-else-number-self-clause-step : goal.returns-else-number-self-clause-step
returns-else-number-self-clause-step c =
    let step = c.draw_number-number.ensures.step in (step.0, answers_none _ _ _ step.1 c.if-number-self.false)
