use Rattle.std.proofs.Common.{AllPairs, Global, Vec, subst, sym}
use Rattle.lists.proofs.Words.{IfOk-weaker}
use Rattle.net_pairs.specs.inside.Sums.{AreAlike, IsNoLater}
use Rattle.net_pairs.proofs.SumLaws.{Item, sums_alike}
use Rattle.net_pairs.proofs.sums.PairSums.finish.Goals as goal

pub added_up-requires : goal.added_up-requires
added_up-requires c = subst (AllPairs IsNoLater) (sym c.as_slice.ensures.value) c.sort_by_pair.ensures.ordered

pub returns : goal.returns
returns c =
    let same = subst (AreAlike c.args.self.items.items) (sym c.as_slice.ensures.value) c.sort_by_pair.ensures.same in
    IfOk-weaker c.added_up.result _ _ (λ (sums : Vec Item Global) are. sums_alike c.args.self.items.items c.as_slice.result.now sums.items same are) c.added_up.ensures
