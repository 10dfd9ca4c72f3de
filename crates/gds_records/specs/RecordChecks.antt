-- What is checked of bytes that are to begin with a record, one check after the other, and their fault.
use Rattle.std.specs.Prelude.{◌≡◌, ℕ, ◌-◌, ◌%◌, ◌≤◌, List, [], ◌∷◌, length, slice_index}
use Rattle.byteorder.specs.Endian.{big_number}
use Rattle.first_refusal.specs.Checks.{IsRefusalOfFirst}
use Rattle.gds_records.specs.declared.fault.RecordFault.{RecordFault}
use Rattle.gds_records.specs.declared.fault.RecordFault.TheVariants.{Truncated, BadLength, BadRecord, BadSize}
use Rattle.gds_records.specs.Table.{IsListed, IsPermitted}

-- the length in the first two bytes, the higher first: of a record it counts the head's four bytes too
abbrev pub length_field : List ℕ → ℕ
length_field rest = big_number 2 rest

-- the kind and the form, which stand behind the length
abbrev pub kind_field : List ℕ → ℕ
kind_field rest = slice_index rest 2

abbrev pub form_field : List ℕ → ℕ
form_field rest = slice_index rest 3

-- what is checked
pub data RecordCheck : Type 0 where
  head_is_there : RecordCheck
  length_counts_head : RecordCheck
  length_is_even : RecordCheck
  body_is_there : RecordCheck
  form_is_listed : RecordCheck
  size_is_permitted : RecordCheck

-- the checks in their order
abbrev pub record_checks : List RecordCheck
record_checks = head_is_there ∷ length_counts_head ∷ length_is_even ∷ body_is_there ∷ form_is_listed ∷ size_is_permitted ∷ []

-- what each demands of the bytes
abbrev pub Holds : List ℕ → RecordCheck → Type 0
Holds rest head_is_there = 4 ≤ length rest
Holds rest length_counts_head = 4 ≤ length_field rest
Holds rest length_is_even = length_field rest % 2 ≡ 0
Holds rest body_is_there = length_field rest ≤ length rest
Holds rest form_is_listed = IsListed (kind_field rest) (form_field rest)
Holds rest size_is_permitted = IsPermitted (kind_field rest) (form_field rest) (length_field rest - 4)

-- the fault that each gives where it fails, at the offset of the first byte
abbrev pub fault_at : ℕ → List ℕ → RecordCheck → RecordFault
fault_at offset rest head_is_there = Truncated offset
fault_at offset rest length_counts_head = BadLength offset (length_field rest)
fault_at offset rest length_is_even = BadLength offset (length_field rest)
fault_at offset rest body_is_there = Truncated offset
fault_at offset rest form_is_listed = BadRecord offset (kind_field rest) (form_field rest)
fault_at offset rest size_is_permitted = BadSize offset

-- the fault of bytes that begin at this offset is that of the first check that fails
abbrev pub IsFaultOf : ℕ → List ℕ → RecordFault → Type 0
IsFaultOf offset rest = IsRefusalOfFirst (Holds rest) record_checks (fault_at offset rest)
