use Rattle.std.proofs.Common.{◌++◌, ◌≡◌, length}
use Rattle.lists.proofs.Words.{flat_map}
use Rattle.near_index.proofs.index.leaves_of.Given as goal

abbrev pub invariant-loop-rest : goal.invariant-loop-rest
invariant-loop-rest g l = flat_map (λ items. items) l.leaves.items ++ l.rest ≡ l.fn.pieces

abbrev pub decreases-loop-rest : goal.decreases-loop-rest
decreases-loop-rest g l = length l.rest
