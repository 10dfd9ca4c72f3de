use Rattle.flatten.specs.inside.Prunings.{IsPrunedTo}
use Rattle.flatten.proofs.pruning.prune.Given as goal

abbrev pub invariant-loop-node : goal.invariant-loop-node
invariant-loop-node l = IsPrunedTo l.initial.nodes l.nodes l.node-index
