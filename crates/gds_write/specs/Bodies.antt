-- Records by what they hold.
use Rattle.std.specs.Prelude.{ℕ, ℤ, pos, Bool, not, if◌then◌else◌, List, [], ◌∷◌, ◌++◌, length, replicate, ◌%◌, ◌==◌, flat_map}
use Rattle.lists.specs.Words.{w16, w32}
use Rattle.std.specs.Int.{cast_unsigned}
use Rattle.std.specs.Ordering.{int_eq}
use Rattle.byteorder.specs.Endian.{big_bytes}
use Rattle.geo_core.specs.declared.plane.Point.{Point}
use Rattle.gds_records.specs.declared.forms.TheConstants as form
use Rattle.gds_records.specs.declared.kinds.TheConstants as kind
use Rattle.library_grammar.specs.GrammarNames.{Entry}

-- the record of this kind, whose data has this form
abbrev pub entry : ℕ → ℕ → List ℕ → Entry
entry k f body = record { kind = k; form = f; body = body }

-- a record without data
abbrev pub bare : ℕ → Entry
bare k = entry k form.NO_DATA []

-- a text, which gets a zero byte where its length is odd
abbrev pub padded : List ℕ → List ℕ
padded text = if length text % 2 == 0 then text else text ++ 0 ∷ []

-- a record of a text
abbrev pub text_entry : ℕ → List ℕ → Entry
text_entry k text = entry k form.TEXT (padded text)

-- a record of one number of two bytes, without sign
abbrev pub unsigned_entry : ℕ → ℕ → Entry
unsigned_entry k n = entry k form.TWO_BYTE_NUMBERS (big_bytes 2 n)

-- the same with sign
abbrev pub short_entry : ℕ → ℤ → Entry
short_entry k z = unsigned_entry k (cast_unsigned w16 z)

-- a number of four bytes, with sign
abbrev pub long_bytes : ℤ → List ℕ
long_bytes z = big_bytes 4 (cast_unsigned w32 z)

-- a record of one such number
abbrev pub long_entry : ℕ → ℤ → Entry
long_entry k z = entry k form.FOUR_BYTE_NUMBERS (long_bytes z)

-- the date of a library or a structure: twelve numbers that are 0
abbrev pub date_entry : ℕ → Entry
date_entry k = entry k form.TWO_BYTE_NUMBERS (replicate 24 0)

-- a point: how far across and how far up
abbrev pub point_bytes : Point → List ℕ
point_bytes p = long_bytes p.x ++ long_bytes p.y

-- the record of an element's points
abbrev pub points_entry : List Point → Entry
points_entry points = entry kind.XY form.FOUR_BYTE_NUMBERS (flat_map point_bytes points)

-- the record of how many columns and rows an array has
abbrev pub counts_entry : ℕ → ℕ → Entry
counts_entry columns rows = entry kind.COLROW form.TWO_BYTE_NUMBERS (big_bytes 2 columns ++ big_bytes 2 rows)

-- the record where it is to be written, or none
abbrev pub entry_if : Bool → Entry → List Entry
entry_if b e = if b then e ∷ [] else []

-- the number is another than 0
abbrev pub is_not_zero : ℤ → Bool
is_not_zero z = not (int_eq z (pos 0))
