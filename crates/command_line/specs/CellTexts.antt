-- texts that are cells
use Rattle.std.specs.Prelude.{ℕ, ℤ, pos, neg_ℤ, ◌++◌, ◌≡◌, ◌≢◌, All, codes}
use Rattle.geo_core.specs.declared.plane.Cell.{Cell}
use Rattle.command_line.specs.Numbers.{IsNumber}
use Rattle.command_line.specs.OptionNames.{Text}

-- the text is 1 to 10 decimal digits, perhaps with a dash in front, and this is their number: from -1,000,000,000 to 999,999,999
pub data IsCoordinate (text : Text) : ℤ → Type 0 where
  from_0 : {n : ℕ} → IsNumber 0 999999999 text n → IsCoordinate text (pos n)
  to_0 : {digits : Text} {n : ℕ} → text ≡ codes "-" ++ digits → IsNumber 0 1000000000 digits n → IsCoordinate text (neg_ℤ (pos n))

-- the text is that of the cell's column, a comma, and that of its row
pub record IsCellText (text : Text) (cell : Cell) : Type 0 where
  pub column : Text
  pub row : Text
  pub whole : text ≡ column ++ codes "," ++ row
  pub is_column : IsCoordinate column cell.i
  pub is_row : IsCoordinate row cell.j

-- the text has no comma
abbrev pub HasNoComma : Text → Type 0
HasNoComma text = All (λ byte. byte ≢ 44) text

-- the text has one comma, which stands between these two parts
pub record HasParts (text column row : Text) : Type 0 where
  pub whole : text ≡ column ++ codes "," ++ row
  pub one_before : HasNoComma column
  pub one_behind : HasNoComma row
