-- What a record contains, and its one spelling in a stream.
use Rattle.std.specs.Prelude.{◌≡◌, ◌≢◌, ℕ, ◌+◌, ◌%◌, ◌^◌, ◌<◌, List, ◌∷◌, ◌++◌, length, flat_map}
use Rattle.byteorder.specs.Endian.{big_bytes}
use Rattle.lists.specs.ByteLists.{IsByte, AreBytes}
use Rattle.gds_records.specs.declared.kinds.TheConstants as kind

-- the contents of a record, wherever it lies: its kind, the form of its data, and its body
pub record Entry : Type 0 where
  pub kind : ℕ
  pub form : ℕ
  pub body : List ℕ

-- how the record is spelled: two bytes for its length in bytes, the higher first, then the kind, the form and the body.
-- The length counts the head, which is these two bytes, the kind and the form.
abbrev pub spelling : Entry → List ℕ
spelling e = big_bytes 2 (length e.body + 4) ++ e.kind ∷ e.form ∷ e.body

-- the spellings of records, one after the other
abbrev pub spellings : List Entry → List ℕ
spellings entries = flat_map spelling entries

-- the record has a spelling: it is of bytes, of which the body has an even number, and two bytes can hold its length
pub record HasSpelling (e : Entry) : Type 0 where
  pub kind : IsByte e.kind
  pub form : IsByte e.form
  pub body : AreBytes e.body
  pub even : length e.body % 2 ≡ 0
  pub fits : length e.body + 4 < 2 ^ 16

-- the record ends a library
abbrev pub IsEndlib : Entry → Type 0
IsEndlib e = e.kind ≡ kind.ENDLIB

-- the record is of any other kind
abbrev pub IsNoEndlib : Entry → Type 0
IsNoEndlib e = e.kind ≢ kind.ENDLIB
