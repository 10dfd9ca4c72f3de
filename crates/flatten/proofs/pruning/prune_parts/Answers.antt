use Rattle.std.proofs.Common.{rules}
use Rattle.flatten.proofs.PruningLaws.{left_by}
use Rattle.flatten.proofs.pruning.prune_parts.Goals as goal

pub returns : goal.returns
returns c nodes are_true = left_by nodes _ _ c.args.states.now are_true (λ part b f called. search rules) _ _ c.retain.ensures.filtered
