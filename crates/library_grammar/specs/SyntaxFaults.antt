-- a fault as two numbers: one for what is wrong, which is this project's own, and the offset at which it shows
use Rattle.std.specs.Prelude.{ℕ}
use Rattle.gds_records.specs.RecordFaults as record_faults
use Rattle.library_grammar.specs.declared.fault.SyntaxFault.{SyntaxFault}
use Rattle.library_grammar.specs.declared.fault.SyntaxFault.TheVariants.{Record, Unexpected, Missing, RepeatedStructure, PointCount}
use Rattle.library_grammar.specs.declared.fault.SyntaxFault.TheVariants.{NotClosed, Magnified, BadAngle, AbsoluteAngle, EmptyArray}
use Rattle.library_grammar.specs.declared.fault.SyntaxFault.TheVariants.{UnevenArray, Memory}

-- the fault's number
abbrev pub number_of : SyntaxFault → ℕ
number_of (Record fault) = record_faults.number_of fault
number_of (Unexpected at kind) = 14
number_of (Missing at kind) = 15
number_of (RepeatedStructure at) = 16
number_of (PointCount at) = 17
number_of (NotClosed at) = 18
number_of (Magnified at) = 19
number_of (BadAngle at) = 20
number_of (AbsoluteAngle at) = 21
number_of (EmptyArray at) = 22
number_of (UnevenArray at) = 23
number_of Memory = 0

-- the offset, in bytes, at which it shows
abbrev pub place_of : SyntaxFault → ℕ
place_of (Record fault) = record_faults.place_of fault
place_of (Unexpected at kind) = at
place_of (Missing at kind) = at
place_of (RepeatedStructure at) = at
place_of (PointCount at) = at
place_of (NotClosed at) = at
place_of (Magnified at) = at
place_of (BadAngle at) = at
place_of (AbsoluteAngle at) = at
place_of (EmptyArray at) = at
place_of (UnevenArray at) = at
place_of Memory = 0
