-- lists of bytes
use Rattle.std.specs.Prelude.{ℕ, ◌<◌, List, All}

-- the number fits a byte
abbrev pub IsByte : ℕ → Type 0
IsByte b = b < 256

-- a string of bytes
abbrev pub AreBytes : List ℕ → Type 0
AreBytes bytes = All IsByte bytes
