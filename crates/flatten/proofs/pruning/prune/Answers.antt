use Rattle.std.proofs.Common.{sym, subst, Vec}
use Rattle.lists.proofs.Words.{Global}
use Rattle.flatten.specs.inside.Surveys.{AreDone}
use Rattle.flatten.specs.declared.part.Part.{Part}
use Rattle.flatten.proofs.PruningLaws.{all_pruned, node_done, one_pruned}
use Rattle.flatten.proofs.pruning.prune.Goals as goal

pub loop-node-preserved : goal.loop-node-preserved
loop-node-preserved c =
    let nodes = c.args.nodes.now in
    let now = c.loop-node.nodes in
    let i = c.loop-node.node-index in
    let node = c.node-item.result in
    let done = node_done nodes now i node c.loop-node.auto.nodes c.loop-node-test.true c.node-item.is c.loop-node.invariant c.args.states.now c.requires.done in
    one_pruned nodes now i node c.loop-node.auto.nodes c.loop-node-test.true c.node-item.is c.loop-node.invariant c.prune_parts.new.parts
    (rw (sym c.node-item.is) at (c.prune_parts.ensures nodes c.requires.told (subst (λ (x : Vec Part Global). AreDone c.args.states.now x.items) c.node-item.is done)))

pub returns : goal.returns
returns c = all_pruned c.args.nodes.now c.loop-node.nodes c.loop-node.node-index c.loop-node.auto.nodes c.loop-node-test.false c.loop-node.invariant
