-- How a string of bytes splits into records, and how the split ends.
use Rattle.std.specs.Prelude.{◌≡◌, ℕ, ◌+◌, List, [], ◌∷◌, ◌++◌, length, All}
use Rattle.gds_records.specs.declared.fault.RecordFault.{RecordFault}
use Rattle.gds_records.specs.RecordSpelling.{Entry, IsEndlib, IsNoEndlib, spellings}
use Rattle.gds_records.specs.Profile.{IsInProfile}
use Rattle.gds_records.specs.RecordChecks.{IsFaultOf}

-- how a split ends: with ENDLIB, or with a fault
pub data End : Type 0 where
  whole : End
  stops : RecordFault → End

-- the last record is ENDLIB, and no other is
pub record EndsWithEndlib (entries : List Entry) : Type 0 where
  pub before : List Entry
  pub last : Entry
  pub parts : entries ≡ before ++ last ∷ []
  pub none_before : All IsNoEndlib before
  pub is_endlib : IsEndlib last

-- the end of these records, after which bytes are left that begin at this offset: behind ENDLIB these may be any bytes
abbrev pub IsEnd : List Entry → ℕ → List ℕ → End → Type 0
IsEnd entries offset rest whole = EndsWithEndlib entries
IsEnd entries offset rest (stops fault) = All IsNoEndlib entries × IsFaultOf offset rest fault

-- the bytes, the first of which has this offset, are the spellings of these records of the profile, and then a
-- rest that gives the end
pub record Splits (offset : ℕ) (bytes : List ℕ) (entries : List Entry) (end : End) : Type 0 where
  pub rest : List ℕ
  pub joined : bytes ≡ spellings entries ++ rest
  pub each : All IsInProfile entries
  pub ends : IsEnd entries (offset + length (spellings entries)) rest end

-- two splits of the same bytes are one
abbrev pub SplitsAgree : ℕ → List ℕ → Type 0
SplitsAgree offset bytes =
    (entries others : List Entry) (end other : End) → Splits offset bytes entries end → Splits offset bytes others other
    → (entries ≡ others) × (end ≡ other)

-- a string of bytes has a split
abbrev pub HasSplit : ℕ → List ℕ → Type 0
HasSplit offset bytes = (entries : List Entry) × (end : End) × Splits offset bytes entries end
