use Rattle.std.proofs.Common.{◌-◌, length}
use Rattle.gds_syntax.specs.ElementKinds.{form_for}
use Rattle.gds_syntax.specs.inside.LibraryReaders.{ReadsOwnSoFar}
use Rattle.gds_syntax.proofs.elements.read_own.Given as goal

abbrev pub invariant-loop-own : goal.invariant-loop-own
invariant-loop-own l = ReadsOwnSoFar l.fn.records l.records (form_for l.kind) l.own l.found

abbrev pub decreases-loop-own : goal.decreases-loop-own
decreases-loop-own l = length l.records.bytes - l.records.at
