use Rattle.std.proofs.Common.{◌-◌, length}
use Rattle.gds_syntax.specs.inside.LibraryReaders.{ReadsElementsSoFar}
use Rattle.gds_syntax.proofs.elements.read_elements.Given as goal

abbrev pub invariant-loop-found : goal.invariant-loop-found
invariant-loop-found l = ReadsElementsSoFar l.fn.records l.records l.elements.items l.found

abbrev pub decreases-loop-found : goal.decreases-loop-found
decreases-loop-found l = length l.records.bytes - l.records.at
