-- why the words of a command ask for nothing
use Rattle.std.specs.Prelude.{ℕ, ℤ, List, [], ◌∷◌, ◌++◌, ◌≡◌, ◌≢◌, ◌<◌, ◌≤◌, All, Contains, Some, codes, flat_map, length}
use Rattle.geo_core.specs.declared.axis.Axis.TheVariants.{X, Y}
use Rattle.map_model.specs.LayerNames.{IsLayerName}
use Rattle.questions.specs.KindTexts.{kind_text}
use Rattle.questions.specs.declared.kind.Kind.{Kind}
use Rattle.command_line.specs.declared.cause.WordsCause.{WordsCause}
use Rattle.command_line.specs.declared.cause.WordsCause.TheVariants.{NoWords, NoOption, NoValue, DashedValue, EmptyValue, EmptyLayout, Twice}
use Rattle.command_line.specs.declared.cause.WordsCause.TheVariants.{TwoLayouts, BadNumber, NoCell, BadCoordinate, NoRegion, BadKind, BadLayerName}
use Rattle.command_line.specs.declared.cause.WordsCause.TheVariants.{BadSizeNumber, NoLayout, LayoutBesideGenerate, BesideGenerate, BesideMap}
use Rattle.command_line.specs.declared.cause.WordsCause.TheVariants.{NoMap, TwoTasks, BesideTask, Missing, NoMetals}
use Rattle.command_line.specs.declared.option_name.OptionName.{OptionName}
use Rattle.command_line.specs.declared.option_name.OptionName.TheVariants.{Map, Top, Layer, Datatype, Radius, Generate, Pairs, Probe, Regions}
use Rattle.command_line.specs.declared.range.NumberRange.{NumberRange}
use Rattle.command_line.specs.CellTexts.{HasParts, IsCoordinate}
use Rattle.command_line.specs.Numbers.{IsNumber}
use Rattle.command_line.specs.OptionNames.{Text, range_of}
use Rattle.command_line.specs.RegionTexts.{HasThreeParts}
use Rattle.command_line.specs.Requests.{permitted, values_of}
use Rattle.command_line.specs.Spelling.{Argument, Given, AreSpelled, IsClearlySpelled, IsPlain, name_word, whole_word, words_of}

-- ---- words that are not spelled

-- the word begins with a dash, is neither the dash alone nor two dashes, and is the word of no option
pub record IsNoOption (word : Text) : Type 0 where
  pub not_plain : IsPlain word → ⊥
  pub not_last : word ≢ codes "--"
  pub no_name : (name : OptionName) → word ≢ name_word name
  pub no_setting : (name : OptionName) (value : Text) → word ≢ whole_word name value

-- why words begin with no argument, where there are words and the first is not the two dashes behind all arguments
pub data BeginWithNone (words : List Text) : WordsCause → Type 0 where
  no_option : {word : Text} {rest : List Text} → words ≡ word ∷ rest → IsNoOption word → BeginWithNone words (NoOption word)
  no_value : {name : OptionName} → words ≡ name_word name ∷ [] → BeginWithNone words (NoValue name)
  dashed_value : {name : OptionName} {value : Text} {rest : List Text} → words ≡ name_word name ∷ value ∷ rest → (IsPlain value → ⊥)
      → BeginWithNone words (DashedValue name value)

-- the words are those of arguments up to some that begin with none, for this cause
pub record StopFor (words : List Text) (cause : WordsCause) : Type 0 where
  pub arguments : List Argument
  pub clear : All IsClearlySpelled arguments
  pub rest : List Text
  pub words_are : words ≡ flat_map words_of arguments ++ rest
  pub stop : BeginWithNone rest cause

-- ---- words that are spelled

-- the options of one metal, those that ask for something other than a report, and all that are about files
abbrev pub metal_options : List OptionName
metal_options = Layer ∷ Datatype ∷ Radius ∷ []

abbrev pub task_options : List OptionName
task_options = Pairs ∷ Probe ∷ Regions ∷ []

abbrev pub file_options : List OptionName
file_options = Map ∷ Top ∷ metal_options ++ task_options

-- one of these options is given
pub record IsOneGiven (values : OptionName → List Text) (names : List OptionName) : Type 0 where
  pub name : OptionName
  pub listed : Contains names name
  pub given : values name ≢ []

-- why options with these values and these positional words ask for no request
pub data IsCauseOf (values : OptionName → List Text) (positions : List Text) : WordsCause → Type 0 where
  bad_number : {name : OptionName} {value : Text} {range : NumberRange} → range_of name ≡ Some range → values name ≡ value ∷ []
      → ((n : ℕ) → IsNumber range.least range.most value n → ⊥) → IsCauseOf values positions (BadNumber name value)
  no_cell : {value : Text} → values Probe ≡ value ∷ [] → ((column row : Text) → HasParts value column row → ⊥) → IsCauseOf values positions (NoCell value)
  bad_column : {value column row : Text} → values Probe ≡ value ∷ [] → HasParts value column row → ((i : ℤ) → IsCoordinate column i → ⊥)
      → IsCauseOf values positions (BadCoordinate X column)
  bad_row : {value column row : Text} {i : ℤ} → values Probe ≡ value ∷ [] → HasParts value column row → IsCoordinate column i
      → ((j : ℤ) → IsCoordinate row j → ⊥) → IsCauseOf values positions (BadCoordinate Y row)
  no_region : {value : Text} → values Regions ≡ value ∷ [] → ((first second third : Text) → HasThreeParts value first second third → ⊥)
      → IsCauseOf values positions (NoRegion value)
  bad_kind : {value first second third : Text} → values Regions ≡ value ∷ [] → HasThreeParts value first second third
      → ((kind : Kind) → first ≢ kind_text kind) → IsCauseOf values positions (BadKind first)
  bad_layer_name : {value second third : Text} (kind : Kind) → values Regions ≡ value ∷ [] → HasThreeParts value (kind_text kind) second third
      → (IsLayerName second → ⊥) → IsCauseOf values positions (BadLayerName second)
  bad_size_number : {value second third : Text} (kind : Kind) → values Regions ≡ value ∷ [] → HasThreeParts value (kind_text kind) second third
      → IsLayerName second → ((n : ℕ) → IsNumber 1 32 third n → ⊥) → IsCauseOf values positions (BadSizeNumber third)
  no_layout : positions ≡ [] → values Generate ≡ [] → IsCauseOf values positions NoLayout
  layout_beside_generate : {layout : Text} → positions ≡ layout ∷ [] → values Generate ≢ [] → IsCauseOf values positions (LayoutBesideGenerate layout)
  beside_generate : {name : OptionName} → values Generate ≢ [] → Contains file_options name → values name ≢ [] → IsCauseOf values positions (BesideGenerate name)
  beside_map : {name : OptionName} → values Map ≢ [] → Contains metal_options name → values name ≢ [] → IsCauseOf values positions (BesideMap name)
  no_map : {name : OptionName} → values Map ≡ [] → Contains task_options name → values name ≢ [] → IsCauseOf values positions (NoMap name)
  two_tasks : {asked also : OptionName} (before behind : List OptionName) → task_options ≡ before ++ asked ∷ behind → Contains behind also
      → values asked ≢ [] → values also ≢ [] → IsCauseOf values positions (TwoTasks asked also)
  beside_task : {asked name : OptionName} → Contains task_options asked → values asked ≢ [] → Contains permitted name → values name ≢ []
      → IsCauseOf values positions (BesideTask asked name)
  missing : {name : OptionName} → values Map ≡ [] → values Generate ≡ [] → Contains metal_options name → values name ≡ [] → IsOneGiven values metal_options
      → IsCauseOf values positions (Missing name)
  no_metals : values Map ≡ [] → values Generate ≡ [] → All (λ name. values name ≡ []) metal_options → IsCauseOf values positions NoMetals

-- why what is given asks for no request
pub data IsCauseIn (given : Given) : WordsCause → Type 0 where
  empty_value : {name : OptionName} → Contains given.options (name, []) → IsCauseIn given (EmptyValue name)
  empty_layout : Contains given.positions [] → IsCauseIn given EmptyLayout
  twice : {name : OptionName} → 1 < length (values_of given.options name) → IsCauseIn given (Twice name)
  two_layouts : {one other : Text} {more : List Text} → given.positions ≡ one ∷ other ∷ more → IsCauseIn given (TwoLayouts one other)
  of_values : {cause : WordsCause} → IsCauseOf (values_of given.options) given.positions cause → IsCauseIn given cause

-- ---- words

-- why the words ask for nothing
pub data IsCause (words : List Text) : WordsCause → Type 0 where
  no_words : words ≡ [] → IsCause words NoWords
  not_spelled : {cause : WordsCause} → StopFor words cause → IsCause words cause
  as_given : {given : Given} {cause : WordsCause} → words ≢ [] → AreSpelled words given → IsCauseIn given cause → IsCause words cause

-- ---- which of several causes is told

-- the order in which kinds of causes are told: first that words are not spelled, then what is empty or given more than once, then
-- what a form lacks or does not have, and last a value that is not of its option's form. Of those of order 0 words have one at most.
abbrev pub order_of : WordsCause → ℕ
order_of NoWords = 0
order_of (NoOption word) = 0
order_of (NoValue name) = 0
order_of (DashedValue name value) = 0
order_of (EmptyValue name) = 1
order_of EmptyLayout = 2
order_of (Twice name) = 3
order_of (TwoLayouts one other) = 4
order_of NoLayout = 5
order_of (LayoutBesideGenerate layout) = 6
order_of (BesideGenerate name) = 7
order_of (BesideMap name) = 8
order_of (NoMap name) = 9
order_of (TwoTasks asked also) = 10
order_of (BesideTask asked name) = 11
order_of NoMetals = 12
order_of (Missing name) = 13
order_of (BadNumber name value) = 14
order_of (NoCell value) = 14
order_of (BadCoordinate axis part) = 14
order_of (NoRegion value) = 14
order_of (BadKind part) = 14
order_of (BadLayerName part) = 14
order_of (BadSizeNumber part) = 14

-- none of these causes is of a kind that is told before this one's
abbrev pub IsOfFirstKind : (WordsCause → Type 0) → WordsCause → Type 0
IsOfFirstKind Is told = (other : WordsCause) → Is other → order_of told ≤ order_of other
