use Rattle.std.proofs.Common.{subst, sym}
use Rattle.lists.proofs.Words.{IfOk-weaker, IsPermutation}
use Rattle.joined_rects.specs.inside.Joins.{IsJoined}
use Rattle.joined_rects.proofs.JoinLaws.{joined_again, joined_permuted}
use Rattle.joined_rects.proofs.joins.joined_along.Goals as goal

pub returns : goal.returns
returns c =
    let order = subst (IsPermutation c.args.rects.items) (sym c.as_slice.ensures.value) c.sort_unstable_by_key.ensures.permutation in
    IfOk-weaker c.joined_neighbours.result (λ joined. IsJoined c.as_slice.result.now joined.items) (λ joined. IsJoined c.args.rects.items joined.items)
    (λ joined. joined_again _ _ joined.items (joined_permuted _ _ order)) c.joined_neighbours.ensures
