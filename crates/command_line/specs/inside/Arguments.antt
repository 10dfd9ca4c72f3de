-- inside this crate: what its readers of arguments answer. No definition above rests on it.
use Rattle.std.specs.Prelude.{List, [], ◌∷◌, ◌++◌, ◌≡◌, ◌≤◌, Option, Some, None, length, map, codes, All, flat_map}
use Rattle.command_line.specs.declared.argument.ReadArgument.{ReadArgument}
use Rattle.command_line.specs.declared.argument.ReadArgument.TheVariants.{Setting, Position}
use Rattle.command_line.specs.declared.arguments.Arguments.{Arguments}
use Rattle.command_line.specs.declared.option_name.OptionName.{OptionName}
use Rattle.command_line.specs.OptionNames.{Text}
use Rattle.command_line.specs.Requests.{values_of}
use Rattle.command_line.specs.Spelling.{Argument, Given, words_of, name_word, whole_word, last_words, IsClearlySpelled, options_in, positions_in}

-- the word of an option, with its value where it has one
abbrev pub option_word : OptionName → Option Text → Text
option_word name None = name_word name
option_word name (Some value) = whole_word name value

-- the option that was read, with its value
abbrev pub options_read : ReadArgument → List (OptionName × Text)
options_read (Setting name value) = (name, value.now) ∷ []
options_read (Position word) = []

-- the positional word that was read
abbrev pub positions_read : ReadArgument → List Text
positions_read (Setting name value) = []
positions_read (Position word) = word.now ∷ []

-- the words begin with the argument that was read, and these are the words after it
pub record BeginWith (words : List Text) (read : ReadArgument) (rest : List Text) : Type 0 where
  pub argument : Argument
  pub words_are : words ≡ words_of argument ++ rest
  pub clear : IsClearlySpelled argument
  pub options : options_read read ≡ options_in argument
  pub positions : positions_read read ≡ positions_in argument

-- what was read, without where it lies in memory
abbrev pub given_by : Arguments → Given
given_by arguments = record {
  options = map (λ option. (option.0, option.1.now)) arguments.options.items;
  positions = map (λ word. word.now) arguments.positions.items;
}

-- the words are those behind all arguments
abbrev pub AreLast : List Text → Type 0
AreLast words = (last : Option (List Text)) × (words ≡ last_words last)

-- the words begin with arguments that give this, and these are the words after them
pub record HasRead (words : List Text) (given : Given) (rest : List Text) : Type 0 where
  pub arguments : List Argument
  pub words_are : words ≡ flat_map words_of arguments ++ rest
  pub clear : All IsClearlySpelled arguments
  pub options : given.options ≡ flat_map options_in arguments
  pub positions : given.positions ≡ flat_map positions_in arguments

-- each option and the positional word are given once at most
pub record AreSingle (given : Given) : Type 0 where
  pub options : (name : OptionName) → length (values_of given.options name) ≤ 1
  pub positions : length given.positions ≤ 1

-- the positional words, where there are any, behind two dashes
abbrev pub position_words : List Text → List Text
position_words [] = []
position_words (word ∷ words) = codes "--" ∷ word ∷ words

-- the options, each in one word
abbrev pub words_of_options : List (OptionName × Text) → List Text
words_of_options = map (λ option. whole_word option.0 option.1)

-- the one form in which the same is said for `clap`: each option in one word, and then the positional words
abbrev pub one_form : Given → List Text
one_form given = words_of_options given.options ++ position_words given.positions
