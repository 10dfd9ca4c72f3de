use Rattle.lists.proofs.Words.{iter_rest, zip_first, zip_second}
use Rattle.outlines.specs.Outlines.{edges_of}
use Rattle.outlines.proofs.OutlineTurnLaws.{AreTurnsBut}
use Rattle.outlines.proofs.turns.turns_of.Given as goal

abbrev pub invariant-loop-from : goal.invariant-loop-from
invariant-loop-from l = AreTurnsBut (iter_rest (zip_first l.from-iterator)) (iter_rest (zip_second l.from-iterator)) (edges_of l.points) l.turns.items
