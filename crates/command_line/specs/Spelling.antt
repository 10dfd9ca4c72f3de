-- how options and positional words are spelled in the words of a command line
use Rattle.std.specs.Prelude.{List, [], ◌∷◌, ◌++◌, ◌≡◌, Option, Some, None, All, codes, slice_get, unwrap_or, flat_map}
use Rattle.command_line.specs.declared.option_name.OptionName.{OptionName}
use Rattle.command_line.specs.OptionNames.{Text, name_of}

-- an argument: an option with its value, in one word or in two, or a positional word
pub data Argument : Type 0 where
  in_one_word : OptionName → Text → Argument
  in_two_words : OptionName → Text → Argument
  positional : Text → Argument

-- the word of an option without its value
abbrev pub name_word : OptionName → Text
name_word name = codes "--" ++ name_of name

-- the option and its value in one word. No name has an equals sign, so the word splits at its first one
abbrev pub whole_word : OptionName → Text → Text
whole_word name value = name_word name ++ codes "=" ++ value

-- the words of an argument
abbrev pub words_of : Argument → List Text
words_of (in_one_word name value) = whole_word name value ∷ []
words_of (in_two_words name value) = name_word name ∷ value ∷ []
words_of (positional word) = word ∷ []

-- the word is not taken for an option: if it begins with a dash, it is the dash alone
abbrev pub IsPlain : Text → Type 0
IsPlain word = slice_get word 0 ≡ Some 45 → word ≡ codes "-"

-- a value in a word of its own and a positional word are plain; behind an equals sign a value may be any text
abbrev pub IsClearlySpelled : Argument → Type 0
IsClearlySpelled (in_one_word name value) = Unit {0}
IsClearlySpelled (in_two_words name value) = IsPlain value
IsClearlySpelled (positional word) = IsPlain word

-- what words give: options with their values, and positional words, each in the order of the words
pub record Given : Type 0 where
  pub options : List (OptionName × Text)
  pub positions : List Text

-- the option that the argument is, with its value
abbrev pub options_in : Argument → List (OptionName × Text)
options_in (in_one_word name value) = (name, value) ∷ []
options_in (in_two_words name value) = (name, value) ∷ []
options_in (positional word) = []

-- the positional word that the argument is
abbrev pub positions_in : Argument → List Text
positions_in (in_one_word name value) = []
positions_in (in_two_words name value) = []
positions_in (positional word) = word ∷ []

-- the words after all arguments: none, or a word of two dashes, and behind it positional words of any form
abbrev pub last_words : Option (List Text) → List Text
last_words None = []
last_words (Some positions) = codes "--" ∷ positions

-- what the arguments give, and behind them the last words
abbrev pub given_of : List Argument → Option (List Text) → Given
given_of arguments last = record {
  options = flat_map options_in arguments;
  positions = flat_map positions_in arguments ++ unwrap_or last [];
}

-- the words are those of arguments, one after the other, and then the last words, and this is what they give
pub record AreSpelled (words : List Text) (given : Given) : Type 0 where
  pub arguments : List Argument
  pub last : Option (List Text)
  pub words_are : words ≡ flat_map words_of arguments ++ last_words last
  pub clear : All IsClearlySpelled arguments
  pub given_is : given ≡ given_of arguments last
