use Rattle.std.proofs.Common.{ap, arith, sym, subst, ◌∙◌, ℕ, List}
use Rattle.tile_board.specs.declared.views.View.{View}
use Rattle.tile_board.specs.HandFacts.{IsHandView}
use Rattle.tile_board.proofs.HandLaws.{fewer_draws}
use Rattle.tile_board.proofs.board.Board.split.Goals as goal

pub invariant_of-hand : goal.invariant_of-hand
invariant_of-hand c =
    let view = ap (λ (me : View × List (ℕ × ℕ)). me.0) c.cut-seat.ensures.kept in record {
      counted = omega (arith, ap (λ (v : View). v.left) view, c.args.hand.now.counted);
      no_places = ap (λ (me : View × List (ℕ × ℕ)). me.1) c.cut-seat.ensures.kept ∙ c.args.hand.now.no_places;
      facts = subst IsHandView (sym view) (fewer_draws c.args.draws c.args.hand.now.seat.me.0 c.args.hand.now.facts);
    }
