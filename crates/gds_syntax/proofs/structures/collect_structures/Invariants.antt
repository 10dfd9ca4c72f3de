use Rattle.std.proofs.Common.{◌-◌, length}
use Rattle.gds_syntax.specs.inside.LibraryReaders.{ReadsStructuresSoFar}
use Rattle.gds_syntax.proofs.structures.collect_structures.Given as goal

abbrev pub invariant-loop-found : goal.invariant-loop-found
invariant-loop-found l = ReadsStructuresSoFar l.fn.records l.records l.structures.items l.names l.found

abbrev pub decreases-loop-found : goal.decreases-loop-found
decreases-loop-found l = length l.records.bytes - l.records.at
