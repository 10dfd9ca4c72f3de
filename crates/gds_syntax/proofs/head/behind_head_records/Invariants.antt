use Rattle.std.proofs.Common.{◌-◌, length}
use Rattle.gds_syntax.specs.inside.LibraryReaders.{ReadsHeadSoFar}
use Rattle.gds_syntax.proofs.head.behind_head_records.Given as goal

abbrev pub invariant-loop-found : goal.invariant-loop-found
invariant-loop-found l = ReadsHeadSoFar l.kind l.fn.records l.records l.found

abbrev pub decreases-loop-found : goal.decreases-loop-found
decreases-loop-found l = length l.records.bytes - l.records.at
