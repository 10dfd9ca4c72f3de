use Rattle.std.proofs.Common.{take}
use Rattle.lists.proofs.Words.{AllZip, IsPermutation}
use Rattle.critical_areas.proofs.indexes.indexes_of.Given as goal

abbrev pub invariant-loop-list : goal.invariant-loop-list
invariant-loop-list g l = AllZip IsPermutation (take l.list-index l.lists) l.indexes.items
