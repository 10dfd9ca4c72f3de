use Rattle.std.proofs.Common.{◌≡◌, ◌+ℤ◌, ◌∙◌, cond, pos, negsuc, w32, w64, to_z, of_z, FitsSigned, rules, sym, subst}
use Rattle.lists.proofs.Words.{to_z-of_z}
use Rattle.outlines.proofs.SweepLaws.{all_swept, amount_fits, still_fits, swept_none, turn_passed, turned_to}
use Rattle.outlines.proofs.sweep.sweep_up.Goals as goal

pub loop-turn-init : goal.loop-turn-init
loop-turn-init c = swept_none c.args.turns.now c.new-front.result c.new-front.ensures.pieces c.new-front.ensures.drawn c.new-front.ensures.filled

pub turn-requires-clause-fits : goal.turn-requires-clause-fits
turn-requires-clause-fits c =
    still_fits c.args.turns.now c.loop-turn.turn-index _ _ _ c.loop-turn.front c.loop-turn.invariant c.turn-item.result c.loop-turn-test.true
    (sym c.turn-item.is) c.requires.by_row c.requires.balanced c.requires.few

pub overflow_add-by : goal.overflow_add-by
overflow_add-by c =
    let amount : FitsSigned w64 c.amount-by.result = search rules in
    rw (to_z-of_z w64 c.amount-by.result amount) (subst (λ a. FitsSigned w64 (to_z w64 c.loop-turn.by-bits +ℤ a)) (sym c.amount-by.ensures)
    (amount_fits c.args.turns.now c.loop-turn.turn-index _ _ _ c.loop-turn.front c.loop-turn.invariant c.turn-item.result c.loop-turn-test.true
    (sym c.turn-item.is) c.requires.by_row c.requires.balanced c.requires.few))

pub loop-turn-preserved : goal.loop-turn-preserved
loop-turn-preserved c =
    let t = c.turn-item.result in
    let row : FitsSigned w32 t.row = search rules in
    let column : FitsSigned w32 t.column = search rules in
    let amount : FitsSigned w64 c.amount-by.result = search rules in
    let swept = c.loop-turn.invariant in
    let small = c.loop-turn-test.true in
    let is = sym c.turn-item.is in
    let turned = rw (to_z-of_z w32 t.column column) at c.in_ok-turn.ensures in
    let fits = amount_fits c.args.turns.now c.loop-turn.turn-index _ _ _ c.loop-turn.front swept t small is c.requires.by_row c.requires.balanced c.requires.few in
    let by = to_z w64 c.loop-turn.by-bits in
    let same : to_z w64 (of_z w64 c.amount-by.result) ≡ cond t.rises (pos 1) (negsuc 0) = to_z-of_z w64 c.amount-by.result amount ∙ c.amount-by.ensures in
    let sum : to_z w64 (of_z w64 (by +ℤ to_z w64 (of_z w64 c.amount-by.result))) ≡ by +ℤ cond t.rises (pos 1) (negsuc 0) = rw same (to_z-of_z w64 _ fits) in
    let state = turned_to c.args.turns.now c.loop-turn.turn-index _ _ _ c.loop-turn.front swept t small is c.requires.by_row c.requires.balanced c.turn.new.self turned in
    rw (to_z-of_z w32 t.row row, to_z-of_z w32 t.column column)
    (turn_passed c.args.turns.now c.loop-turn.turn-index _ _ _ c.loop-turn.front swept t small is c.requires.by_row c.requires.balanced c.turn.new.self state _ sum)

pub returns : goal.returns
returns c = rw c.finish.ensures (all_swept c.args.turns.now c.loop-turn.turn-index _ _ _ c.loop-turn.front c.loop-turn-test.false c.requires.balanced c.loop-turn.invariant)
