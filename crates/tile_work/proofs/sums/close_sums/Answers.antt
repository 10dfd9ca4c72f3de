use Rattle.std.proofs.Common.{◌<◌, length}
use Rattle.lists.proofs.Words.{IfOk-weaker}
use Rattle.tile_board.specs.Closing.{HasAllDraws, AreSums, DrewAll}
use Rattle.tile_board.specs.Hands.{limits_of, view_of}
use Rattle.tile_work.proofs.SumLaws.{closed_sums}
use Rattle.tile_work.proofs.sums.close_sums.Goals as goal

pub returns-clause-sums : goal.returns-clause-sums
returns-clause-sums g c =
    let limits = limits_of c.args.board in
    let v = view_of c.args.hand in
    let amount = g.J.TileJob.is_amount c.args.job.now in
    let made_for = c.requires.made_for in
    let sums = IfOk-weaker c.close.result (λ t. HasAllDraws limits v → AreSums limits v t.items) (λ t. AreSums limits v t.items) (λ t s. s c.requires.draws) c.close.ensures.exact in
    let all = IfOk-weaker c.close.result (λ _. HasAllDraws limits v → length v.tickets < v.made → DrewAll limits v) (λ _. DrewAll limits v)
    (λ t s. s c.requires.draws c.requires.none_left) c.close.ensures.all_tickets in
    rw (← made_for.tickets_are) (closed_sums c.close.result limits v (g.J.TileJob.slots c.args.job.now) amount c.args.hand.facts made_for.slots_are c.requires.credits sums all
    (λ slot amounts all each. c.all_tickets_are_summed.ensures limits v slot amounts c.args.hand.facts all each))
