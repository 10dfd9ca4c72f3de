use Rattle.std.proofs.Common.{◌++◌, length}
use Rattle.lists.proofs.Words.{flat_map, IsPermutation}
use Rattle.near_index.proofs.index.bands_of.Given as goal

abbrev pub invariant-loop-rest : goal.invariant-loop-rest
invariant-loop-rest g l = IsPermutation l.fn.pieces (flat_map (λ items. items) l.bands.items ++ l.rest)

abbrev pub decreases-loop-rest : goal.decreases-loop-rest
decreases-loop-rest g l = length l.rest
