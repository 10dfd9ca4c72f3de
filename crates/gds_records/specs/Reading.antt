-- What a reader of records sees, and what its answers give of the split.
use Rattle.std.specs.Prelude.{◌≡◌, ◌↔◌, ℕ, ◌+◌, ◌≤◌, Bool, false, IsTrue, MatchBool, List, [], ◌∷◌, ◌++◌, length, drop, Option, Some, None}
use Rattle.std.specs.Prelude.{Result, Ok, Err}
use Rattle.gds_records.specs.declared.fault.RecordFault.{RecordFault}
use Rattle.gds_records.specs.declared.record.Record.{Record}
use Rattle.gds_records.specs.RecordSpelling.{Entry, IsEndlib, spelling}
use Rattle.gds_records.specs.Profile.{IsInProfile}
use Rattle.gds_records.specs.Split.{End, whole, stops, Splits}

-- the bytes, the offset of the next record, and whether ENDLIB was given
pub record Reading : Type 0 where
  pub bytes : List ℕ
  pub at : ℕ
  pub ended : Bool

-- a reader that has given nothing yet
abbrev pub start_of : List ℕ → Reading
start_of bytes = record { bytes = bytes; at = 0; ended = false }

-- the bytes from the next record on
abbrev pub left_in : Reading → List ℕ
left_in reading = drop reading.at reading.bytes

-- These records and this end are still to come: after ENDLIB none, before it the split of the bytes that are left.
abbrev pub IsLeft : Reading → List Entry → End → Type 0
IsLeft reading entries end =
    MatchBool reading.ended ((entries ≡ []) × (end ≡ whole)) (Splits reading.at (left_in reading) entries end)

-- the contents of a record, without the place where it lies
abbrev pub entry_of : Record → Entry
entry_of r = record { kind = r.kind; form = r.form; body = r.body.now }

-- the bytes, the first of which has this offset, begin with the record
pub record BeginsWith (offset : ℕ) (rest : List ℕ) (r : Record) : Type 0 where
  pub place : r.at ≡ offset
  pub in_profile : IsInProfile (entry_of r)
  pub after : List ℕ
  pub parts : rest ≡ spelling (entry_of r) ++ after

-- The reader moved past the record, which lies where the reader stood: it stands behind the record now, within the same
-- bytes, and has ended exactly where the record is ENDLIB.
pub record MovesPast (old new : Reading) (r : Record) : Type 0 where
  pub bytes : new.bytes ≡ old.bytes
  pub place : r.at ≡ old.at
  pub moves : new.at ≡ old.at + length (spelling (entry_of r))
  pub within : new.at ≤ length new.bytes
  pub ends : IsTrue new.ended ↔ IsEndlib (entry_of r)

-- These records and this end are what an answer gave and what is still to come after it.
abbrev pub IsGivenOrLeft : Result (Option Record) RecordFault → Reading → List Entry → End → Type 0
IsGivenOrLeft (Ok (Some r)) reading entries end =
    (others : List Entry) × (entries ≡ entry_of r ∷ others) × IsLeft reading others end
IsGivenOrLeft (Ok None) reading entries end = (entries ≡ []) × (end ≡ whole)
IsGivenOrLeft (Err fault) reading entries end = (entries ≡ []) × (end ≡ stops fault)
