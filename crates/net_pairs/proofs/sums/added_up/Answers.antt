use Rattle.std.proofs.Common.{sym, ◌∙◌}
use Rattle.lists.proofs.Words.{false≢true, get_or_default}
use Rattle.net_pairs.proofs.SumLaws.{sums_all, sums_begun, sums_next, sums_same}
use Rattle.net_pairs.proofs.sums.added_up.Goals as goal
use Rattle.net_pairs.proofs.sums.added_up.Goals.{then-are_of_one_pair, else-are_of_one_pair+in_ok-push_some}

pub loop-item-init : goal.loop-item-init
loop-item-init c = rw c.new-sums.ensures.items (sums_begun c.args.sorted.now)

pub loop-item-preserved : goal.loop-item-preserved
loop-item-preserved c =
    elim c.if-are_of_one_pair.branch [
      | then-are_of_one_pair w ↦ rw (w.sums-is, w.last-is)
          (sums_same _ _ _ _ c.loop-item.invariant _ c.loop-item-test.true (get_or_default _ _ _ _ c.loop-item-test.true) (c.are_of_one_pair.ensures.0 w.if-are_of_one_pair.true))
      | else-are_of_one_pair+in_ok-push_some w ↦ rw (w.sums-is, w.last-is)
          (sums_next _ _ _ _ c.loop-item.invariant _ c.loop-item-test.true (get_or_default _ _ _ _ c.loop-item-test.true) _ w.in_ok-push_some.ensures
          (λ same. false≢true (sym w.if-are_of_one_pair.false ∙ c.are_of_one_pair.ensures.1 same)) c.requires)
    ]

pub returns : goal.returns
returns c = sums_all c.args.sorted.now c.loop-item.item-index c.loop-item.sums.items _ c.loop-item.last c.loop-item-test.false c.loop-item.invariant c.in_ok-push_some-2.ensures
