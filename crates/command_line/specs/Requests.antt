-- what the words of a command ask for
use Rattle.std.specs.Prelude.{ℕ, Bool, false, List, [], ◌∷◌, ◌≡◌, ◌<◌, All, Option, length, map, filter, option_to_list}
use Rattle.lists.specs.Words.{list_any, bytes_eq}
use Rattle.geo_core.specs.declared.plane.Cell.{Cell}
use Rattle.questions.specs.declared.kind.Kind.{Kind}
use Rattle.command_line.specs.declared.option_name.OptionName.{OptionName}
use Rattle.command_line.specs.declared.option_name.OptionName.TheVariants.{Map, Top, Tile, Workers, Layer, Datatype, Radius, Generate, Pairs, Probe}
use Rattle.command_line.specs.declared.option_name.OptionName.TheVariants.{Regions}
use Rattle.command_line.specs.declared.request.Request.{Request}
use Rattle.command_line.specs.declared.task.Task.{Task}
use Rattle.command_line.specs.declared.task.Task.TheVariants.{OneMetal, Mapped, Pairs as PairsOf, Probe as ProbeOf, Regions as RegionsOf, Generated}
use Rattle.command_line.specs.CellTexts.{IsCellText}
use Rattle.command_line.specs.Numbers.{IsNumber}
use Rattle.command_line.specs.OptionNames.{Text, name_of}
use Rattle.command_line.specs.RegionTexts.{IsRegionText}
use Rattle.command_line.specs.Spelling.{Given, AreSpelled}

-- the values that the option is given, in the order of the words: an option is known by its name
abbrev pub values_of : List (OptionName × Text) → OptionName → List Text
values_of options name = map (λ option. option.1) (filter (λ option. bytes_eq (name_of option.0) (name_of name)) options)

-- Below, an option or a positional word is given once where its values are a list of one, and left out where they are
-- none. So one that is given twice fits nothing.

-- the option is given once, and its value is this number, which lies within these bounds
pub record IsNumberOnce (low high : ℕ) (values : List Text) (n : ℕ) : Type 0 where
  pub text : Text
  pub once : values ≡ text ∷ []
  pub number : IsNumber low high text n

-- the same, or the option is left out and the number is its default
pub data IsNumberOrDefault (low high default : ℕ) (values : List Text) : ℕ → Type 0 where
  as_given : {n : ℕ} → IsNumberOnce low high values n → IsNumberOrDefault low high default values n
  left_out : values ≡ [] → IsNumberOrDefault low high default values default

-- the option is given once, and its value is the text of this cell
pub record IsCellOnce (values : List Text) (cell : Cell) : Type 0 where
  pub text : Text
  pub once : values ≡ text ∷ []
  pub is_cell : IsCellText text cell

-- the option is given once, and its value asks for the regions of this kind, on the layer of this name, at the size of this number
pub record AreRegionsOnce (values : List Text) (kind : Kind) (layer : Text) (size : ℕ) : Type 0 where
  pub text : Text
  pub once : values ≡ text ∷ []
  pub is_region : IsRegionText text kind layer size

-- the option is given once and this is its value, or it is left out and there is none
abbrev pub IsTextIfGiven : List Text → Option Text → Type 0
IsTextIfGiven values text = values ≡ option_to_list text

-- the task of options with these values and of these positional words: the areas of one metal, those of a layer map, those of
-- pairs of nets at one size of a map, the nets of a map nearest to one cell, the regions of one kind of fault on one layer at one
-- size of a map, or the areas of a generated layout
pub data IsTask (values : OptionName → List Text) (positions : List Text) : Task → Type 0 where
  of_one_metal : {layout : Text} {layer datatype radius : ℕ} {top : Option Text}
      → positions ≡ layout ∷ []
      → IsNumberOnce 0 65535 (values Layer) layer
      → IsNumberOnce 0 65535 (values Datatype) datatype
      → IsNumberOnce 1 1000000 (values Radius) radius
      → IsTextIfGiven (values Top) top
      → IsTask values positions (OneMetal layout layer datatype radius top)
  of_map : {layout map : Text} {top : Option Text}
      → positions ≡ layout ∷ []
      → values Map ≡ map ∷ []
      → IsTextIfGiven (values Top) top
      → IsTask values positions (Mapped layout map top)
  of_pairs : {layout map : Text} {top : Option Text} {size : ℕ}
      → positions ≡ layout ∷ []
      → values Map ≡ map ∷ []
      → IsNumberOnce 1 32 (values Pairs) size
      → IsTextIfGiven (values Top) top
      → IsTask values positions (PairsOf layout map top size)
  of_probe : {layout map : Text} {top : Option Text} {cell : Cell}
      → positions ≡ layout ∷ []
      → values Map ≡ map ∷ []
      → IsCellOnce (values Probe) cell
      → IsTextIfGiven (values Top) top
      → IsTask values positions (ProbeOf layout map top cell)
  of_regions : {layout map : Text} {top : Option Text} {kind : Kind} {layer : Text} {size : ℕ}
      → positions ≡ layout ∷ []
      → values Map ≡ map ∷ []
      → AreRegionsOnce (values Regions) kind layer size
      → IsTextIfGiven (values Top) top
      → IsTask values positions (RegionsOf layout map top kind layer size)
  of_generator : {columns : ℕ}
      → positions ≡ []
      → IsNumberOnce 1 500 (values Generate) columns
      → IsTask values positions (Generated columns)

-- the options that may be given with each task that gives a report, and those that may with such a task on a file
abbrev pub permitted : List OptionName
permitted = Tile ∷ Workers ∷ []

abbrev pub permitted_on_files : List OptionName
permitted_on_files = Top ∷ permitted

-- all options that may be given for the task: those that it requires, and those. A task that gives no report
-- is not shared out by tiles and workers.
abbrev pub options_for : Task → List OptionName
options_for (OneMetal layout layer datatype radius top) = Layer ∷ Datatype ∷ Radius ∷ permitted_on_files
options_for (Mapped layout map top) = Map ∷ permitted_on_files
options_for (PairsOf layout map top size) = Map ∷ Pairs ∷ Top ∷ []
options_for (ProbeOf layout map top cell) = Map ∷ Probe ∷ Top ∷ []
options_for (RegionsOf layout map top kind layer size) = Map ∷ Regions ∷ Top ∷ []
options_for (Generated columns) = Generate ∷ permitted

-- whether the option is one of these
abbrev pub is_one_of : List OptionName → OptionName → Bool
is_one_of names name = list_any (λ other. bytes_eq (name_of other) (name_of name)) names

-- each option that is none of these is left out
abbrev pub GiveNoOther : (OptionName → List Text) → List OptionName → Type 0
GiveNoOther values names = (name : OptionName) → is_one_of names name ≡ false → values name ≡ []

-- options with these values and these positional words ask for this request
pub record IsRequestOf (values : OptionName → List Text) (positions : List Text) (request : Request) : Type 0 where
  pub task : IsTask values positions request.task
  pub edge : IsNumberOrDefault 1 1000000000 65536 (values Tile) request.edge
  pub workers : IsNumberOrDefault 1 64 4 (values Workers) request.workers
  pub no_other : GiveNoOther values (options_for request.task)

-- the text has a first byte
abbrev pub IsNotEmpty : Text → Type 0
IsNotEmpty text = 0 < length text

-- no text that is given is empty
pub record HasNoEmptyText (given : Given) : Type 0 where
  pub values : All (λ option. IsNotEmpty option.1) given.options
  pub positions : All IsNotEmpty given.positions

-- the words ask for this
pub record Ask (words : List Text) (request : Request) : Type 0 where
  pub given : Given
  pub spelled : AreSpelled words given
  pub texts : HasNoEmptyText given
  pub asked : IsRequestOf (values_of given.options) given.positions request
