use Rattle.std.proofs.Common.{sym, subst, ◌∙◌}
use Rattle.lists.proofs.Words.{IsPermutation}
use Rattle.near_index.proofs.IndexLaws.{all_of, hull_permuted, labels_permuted}
use Rattle.near_index.proofs.index.Band.new.Goals as goal

pub invariant_of-result : goal.invariant_of-result
invariant_of-result g c =
    let pieces = c.args.pieces.now in
    let others = all_of c.in_ok-leaves.leaves.items in
    let copied = subst (λ xs. IsPermutation xs c.sort_unstable_by_key.new.self.items) c.in_ok-sorted.ensures.items c.sort_unstable_by_key.ensures.permutation in
    let order = subst (IsPermutation pieces) (sym (c.in_ok-leaves.ensures ∙ c.as_slice.ensures.value)) copied in
    record {
      round = hull_permuted g.T.Rectangular.rect_of pieces others c.hull_of-hull.result order c.hull_of-hull.ensures;
      labelled = labels_permuted g.T.Rectangular.rect_of g.T.Rectangular.label_of c.common_label-label.result pieces others order c.common_label-label.ensures;
    }
