use Rattle.lists.proofs.Words.{on_ok_weaker}
use Rattle.net_pairs.proofs.CommonWeights.{common_gained}
use Rattle.net_pairs.proofs.dense.add_common.Goals as goal

pub returns : goal.returns
returns c = on_ok_weaker c.search-2.result (λ gains. common_gained c.args.window c.args.lessers.now c.args.greaters.now c.in_ok-search.ensures gains) c.search-2.ensures
