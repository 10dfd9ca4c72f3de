-- texts that are numbers
use Rattle.std.specs.Prelude.{ℕ, ◌≡◌, ◌≤◌, length}
use Rattle.std.specs.Str.Parse.{IsNumeral, digits_value}
use Rattle.command_line.specs.OptionNames.{Text}

-- the text is 1 to 10 decimal digits, and this is their number, which lies within these bounds
pub record IsNumber (low high : ℕ) (text : Text) (n : ℕ) : Type 0 where
  pub digits : IsNumeral 10 text
  pub few : length text ≤ 10
  pub value : digits_value 10 text ≡ n
  pub least : low ≤ n
  pub most : n ≤ high
