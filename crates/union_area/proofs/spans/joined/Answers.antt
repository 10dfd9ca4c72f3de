use Rattle.std.proofs.Common.{subst, sym}
use Rattle.lists.proofs.Words.{IfOk-weaker, IsPermutation}
use Rattle.skyline_runs.specs.Runs.{HaveSameCells}
use Rattle.union_area.proofs.SpanLaws.{same_permuted}
use Rattle.union_area.proofs.spans.joined.Goals as goal

pub returns : goal.returns
returns c =
    let order = subst (IsPermutation c.args.rects.items) (sym c.as_slice-2.ensures.value) c.sort_unstable_by_key.ensures.permutation in
    IfOk-weaker c.joined_neighbours.result (λ joined. HaveSameCells c.as_slice-2.result.now joined.items) (λ joined. HaveSameCells c.args.rects.items joined.items) (λ joined. same_permuted _ _ joined.items order)
    c.joined_neighbours.ensures
