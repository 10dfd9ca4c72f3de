-- a change by one at each node of the cut
use Rattle.cover_tree.specs.CoverTrees.{count_of}
use Rattle.cover_tree.specs.TreeNodes.{is_in_cut}
use Rattle.cover_tree.proofs.RowLaws.{may_take}
use Rattle.cover_tree.proofs.tree.CoverTree.take.Goals as goal

pub change-requires : goal.change-requires
change-requires g c = λ node n. may_take (is_in_cut c.args.self.now.height c.args.low c.args.high node) (count_of c.args.self.now node) (c.requires.was_put node n)

pub returns-clause-taken : goal.returns-clause-taken
returns-clause-taken g c = record { keeps = c.change.ensures.keeps; counts = c.change.ensures.counts }

pub returns-clause-steps : goal.returns-clause-steps
returns-clause-steps g c = c.change.ensures.steps

pub returns-clause-some_steps : goal.returns-clause-some_steps
returns-clause-some_steps g c = c.change.ensures.some_steps
