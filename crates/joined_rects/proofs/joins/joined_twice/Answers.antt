use Rattle.lists.proofs.Words.{IfOk-weaker}
use Rattle.joined_rects.specs.inside.Joins.{IsJoined}
use Rattle.joined_rects.proofs.JoinLaws.{joined_again}
use Rattle.joined_rects.proofs.joins.joined_twice.Goals as goal

pub returns : goal.returns
returns c =
    IfOk-weaker c.joined_along-2.result (λ joined. IsJoined c.in_ok-columns.columns.items joined.items) (λ joined. IsJoined c.args.rects.items joined.items)
    (λ joined. joined_again c.args.rects.items c.in_ok-columns.columns.items joined.items c.in_ok-columns.ensures) c.joined_along-2.ensures
