-- A fault as two numbers: one for what is wrong, which is this project's own, and the offset of the record at fault.
use Rattle.std.specs.Prelude.{ℕ}
use Rattle.gds_records.specs.declared.fault.RecordFault.{RecordFault}
use Rattle.gds_records.specs.declared.fault.RecordFault.TheVariants.{Truncated, BadLength, BadRecord, BadSize}

-- the fault's number
abbrev pub number_of : RecordFault → ℕ
number_of (Truncated at) = 10
number_of (BadLength at len) = 11
number_of (BadRecord at kind form) = 12
number_of (BadSize at) = 13

-- the offset, in bytes, of the record that is at fault
abbrev pub place_of : RecordFault → ℕ
place_of (Truncated at) = at
place_of (BadLength at len) = at
place_of (BadRecord at kind form) = at
place_of (BadSize at) = at
