use Rattle.std.proofs.Common.{AllPairs, List, subst, sym}
use Rattle.net_pairs.specs.inside.Sums.{AreSumsOf, IsNoLater, cells_for}
use Rattle.net_pairs.proofs.SumLaws.{Item, alike_sums, sums_alike}
use Rattle.net_pairs.proofs.RestLaws.{rest_refl}
use Rattle.net_pairs.proofs.sums.PairSums.shrink.Goals as goal

pub added_up-requires : goal.added_up-requires
added_up-requires c = subst (AllPairs IsNoLater) (sym c.as_slice.ensures.value) c.sort_by_pair.ensures.ordered

pub returns : goal.returns
returns c =
    let are = subst (λ (items : List Item). AreSumsOf items c.in_ok-sums.sums.items) c.as_slice.ensures.value c.in_ok-sums.ensures in
    alike_sums c.args.self.now.items.items c.in_ok-sums.sums.items (sums_alike c.args.self.now.items.items _ c.in_ok-sums.sums.items c.sort_by_pair.ensures.same are)

pub returns-then-len-self : goal.returns-then-len-self
returns-then-len-self c one other = rest_refl (cells_for one other c.args.self.now.items.items)
