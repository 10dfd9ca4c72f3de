-- inside this crate: what its readers of texts answer. No definition above rests on it.
use Rattle.std.specs.Prelude.{ℕ, List, [], ◌∷◌, ◌++◌, ◌≡◌, ◌≢◌, All, Option, option_map, option_to_list}
use Rattle.lists.specs.Words.{Bor}
use Rattle.command_line.specs.declared.option_name.OptionName.{OptionName}
use Rattle.command_line.specs.declared.option_name.OptionName.TheVariants.{Layer, Datatype, Radius, Generate}
use Rattle.command_line.specs.OptionNames.{Text}
use Rattle.command_line.specs.Requests.{IsNumberOnce, permitted}
use Rattle.command_line.specs.WordsCauses.{metal_options, task_options}

-- the texts of an option that was found or not
abbrev pub texts_of : Option (Bor Text) → List Text
texts_of found = option_to_list (option_map (λ text. text.now) found)

-- the three options of one metal are given once each, with these numbers
pub record AreNumbers (values : OptionName → List Text) (numbers : ℕ × ℕ × ℕ) : Type 0 where
  pub layer : IsNumberOnce 0 65535 (values Layer) numbers.0
  pub datatype : IsNumberOnce 0 65535 (values Datatype) numbers.1
  pub radius : IsNumberOnce 1 1000000 (values Radius) numbers.2

-- the option is the first of these that is given, and these stand behind it
pub record IsFirstGiven (values : OptionName → List Text) (names : List OptionName) (name : OptionName) (behind : List OptionName) : Type 0 where
  pub before : List OptionName
  pub are : names ≡ before ++ name ∷ behind
  pub none_before : All (λ other. values other ≡ []) before
  pub given : values name ≢ []

-- the option is the only one of these that is given
pub record IsGivenAlone (values : OptionName → List Text) (names : List OptionName) (name : OptionName) : Type 0 where
  pub behind : List OptionName
  pub first : IsFirstGiven values names name behind
  pub none_behind : All (λ other. values other ≡ []) behind

-- of the options beside those of a layout and a map, this one, which asks for something other than a report, is given alone
pub record AskOne (values : OptionName → List Text) (asked : OptionName) : Type 0 where
  pub no_columns : values Generate ≡ []
  pub no_metal : All (λ name. values name ≡ []) metal_options
  pub no_work : All (λ name. values name ≡ []) permitted
  pub alone : IsGivenAlone values task_options asked
