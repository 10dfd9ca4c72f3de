-- the names of layers
use Rattle.std.specs.Prelude.{ℕ, Bool, ◌||◌, ◌==◌, ◌≤◌, List, length, All, IsTrue}
use Rattle.std.specs.Char.{is_ascii_alphanumeric}

-- the byte is an ASCII letter, a digit, or the code of '_'
abbrev pub is_name_byte : ℕ → Bool
is_name_byte b = is_ascii_alphanumeric b || (b == 95)

-- the bytes are the name of a layer: 1 to 32 of them, each a letter, a digit or '_'
pub record IsLayerName (name : List ℕ) : Type 0 where
  pub some : 1 ≤ length name
  pub few : length name ≤ 32
  pub each : All (λ b. IsTrue (is_name_byte b)) name
