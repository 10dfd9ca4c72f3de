use Rattle.fault_model.proofs.ChainLaws.{chain_from_walk, walk_from_chain}
use Rattle.fault_model.proofs.walks.walks_are_chains.Goals as goal

pub returns : goal.returns
returns c rects i k p q on_p on_q = (chain_from_walk rects i k p q on_p on_q, walk_from_chain rects i k p q on_p on_q)
