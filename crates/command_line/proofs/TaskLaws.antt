-- tasks and requests of texts
use Rattle.std.proofs.Common.{Bor, ℕ, ℤ, Bool, true, false, List, [], ◌∷◌, ◌≡◌, ◌≢◌, ◌∙◌, sym, ap, refl, arith, Option, Some, None, All, Contains, MatchOption, subst, unwrap_or}
use Rattle.lists.proofs.Words.{bytes_eq, or-true, All-cons, All-contains, All-nil}
use Rattle.geo_core.specs.declared.axis.Axis.TheVariants.{X, Y}
use Rattle.geo_core.specs.declared.plane.Cell.{Cell}
use Rattle.map_model.specs.MapNames.{IsLayerName}
use Rattle.questions.specs.KindTexts.{kind_text}
use Rattle.questions.specs.declared.kind.Kind.{Kind}
use Rattle.command_line.specs.declared.cause.WordsCause.{WordsCause}
use Rattle.command_line.specs.declared.cause.WordsCause.TheVariants.{BadNumber, NoCell, BadCoordinate, NoRegion, BadKind, BadLayerName, BadSizeNumber}
use Rattle.command_line.specs.declared.option_name.OptionName.{OptionName}
use Rattle.command_line.specs.declared.option_name.OptionName.TheVariants.{Map, Top, Tile, Workers, Layer, Datatype, Radius, Generate, Pairs, Probe}
use Rattle.command_line.specs.declared.option_name.OptionName.TheVariants.{Regions}
use Rattle.command_line.specs.declared.range.NumberRange.{NumberRange}
use Rattle.command_line.specs.declared.task.Task.TheVariants.{OneMetal}
use Rattle.command_line.specs.CellTexts.{HasParts, IsCoordinate}
use Rattle.command_line.specs.Numbers.{IsNumber}
use Rattle.command_line.specs.OptionNames.{Text, name_of, range_of}
use Rattle.command_line.specs.RegionTexts.{HasThreeParts}
use Rattle.command_line.specs.inside.Readings.{AreNumbers, AskOne, texts_of}
use Rattle.command_line.specs.Requests.{AreRegionsOnce, GiveNoOther, IsCellOnce, IsNumberOnce, IsNumberOrDefault, as_given, left_out, IsTask}
use Rattle.command_line.specs.Requests.{IsTextIfGiven, of_one_metal, is_one_of, permitted, permitted_on_files}
use Rattle.command_line.specs.WordsCauses.{IsCauseOf, bad_number, no_cell, bad_column, bad_row, no_region, bad_kind, bad_layer_name}
use Rattle.command_line.specs.WordsCauses.{bad_size_number, file_options, metal_options, task_options}
use Rattle.command_line.proofs.AloneLaws.{others_left_out}

-- ---- texts that are found or not

module _ (found : Option (Bor Text)) (values : List Text) (same : texts_of found ≡ values) where
  pub one_text : (text : Bor Text) → found ≡ Some text → values ≡ text.now ∷ []
  one_text text is = sym same ∙ ap texts_of is

  pub no_text : found ≡ None → values ≡ []
  no_text is = sym same ∙ ap texts_of is

  -- the number of a text that is found
  pub once : (low high : ℕ) (text : Bor Text) (n : ℕ) → found ≡ Some text → IsNumber low high text.now n → IsNumberOnce low high values n
  once low high text n is number = record { text = text.now; once = one_text text is; number = number }

pub one_is_some : (texts : List Text) (text : Text) → texts ≡ text ∷ [] → texts ≢ []
one_is_some texts text one none = let s = sym one ∙ none in cc s

-- the number of an option that may be left out
pub number_or_default : (low high default : ℕ) (values : List Text) (given : Option ℕ) (n : ℕ) → MatchOption given (values ≡ []) (IsNumberOnce low high values) → n ≡ unwrap_or given default
    → IsNumberOrDefault low high default values n
number_or_default low high default values None n none e = rw e (left_out none)
number_or_default low high default values (Some m) n once e = rw e (as_given once)

-- the cause where it is no number
pub number_cause : (values : OptionName → List Text) (positions : List Text) (name : OptionName) (range : NumberRange) (found : Option (Bor Text)) (text : Bor Text) (value : Text)
    → range_of name ≡ Some range → texts_of found ≡ values name → found ≡ Some text → ((n : ℕ) → IsNumber range.least range.most text.now n → ⊥) → value ≡ text.now
    → IsCauseOf values positions (BadNumber name value)
number_cause values positions name range found text value within same is none e =
    bad_number within (one_text found (values name) same text is ∙ ap (λ t. t ∷ []) (sym e)) (λ n number. none n (subst (λ t. IsNumber range.least range.most t n) e number))

-- the causes where it is no cell
module _ (values : OptionName → List Text) (positions : List Text) (found : Option (Bor Text)) (text : Bor Text)
    (same : texts_of found ≡ values Probe) (is : found ≡ Some text) where
  pub cell_cause : (told : Text) → ((column row : Text) → HasParts text.now column row → ⊥) → told ≡ text.now → IsCauseOf values positions (NoCell told)
  cell_cause told none e = subst (λ t. IsCauseOf values positions (NoCell t)) (sym e) (no_cell (one_text found (values Probe) same text is) none)

  pub column_cause : (column row told : Text) → HasParts text.now column row → ((i : ℤ) → IsCoordinate column i → ⊥) → told ≡ column
      → IsCauseOf values positions (BadCoordinate X told)
  column_cause column row told parts none e =
      subst (λ t. IsCauseOf values positions (BadCoordinate X t)) (sym e) (bad_column (one_text found (values Probe) same text is) parts none)

  pub row_cause : (column row told : Text) (i : ℤ) → HasParts text.now column row → IsCoordinate column i → ((j : ℤ) → IsCoordinate row j → ⊥) → told ≡ row
      → IsCauseOf values positions (BadCoordinate Y told)
  row_cause column row told i parts is_i none e =
      subst (λ t. IsCauseOf values positions (BadCoordinate Y t)) (sym e) (bad_row (one_text found (values Probe) same text is) parts is_i none)

  -- and the cell where it is one
  pub cell_once : (column row : Text) (cell : Cell) → HasParts text.now column row → IsCoordinate column cell.i → IsCoordinate row cell.j → IsCellOnce (values Probe) cell
  cell_once column row cell parts is_i is_j = record {
    text = text.now;
    once = one_text found (values Probe) same text is;
    is_cell = record { column = column; row = row; whole = parts.whole; is_column = is_i; is_row = is_j };
  }

-- the causes where it asks for no regions
module _ (values : OptionName → List Text) (positions : List Text) (found : Option (Bor Text)) (text : Bor Text)
    (same : texts_of found ≡ values Regions) (is : found ≡ Some text) where
  abbrev Is : WordsCause → Type 0
  Is = IsCauseOf values positions

  pub region_cause : (told : Text) → ((first second third : Text) → HasThreeParts text.now first second third → ⊥) → told ≡ text.now
      → Is (NoRegion told)
  region_cause told none e = subst (λ t. Is (NoRegion t)) (sym e) (no_region (one_text found (values Regions) same text is) none)

  module _ (first second third : Text) (parts : HasThreeParts text.now first second third) where
    pub kind_cause : (told : Text) → ((kind : Kind) → first ≢ kind_text kind) → told ≡ first → Is (BadKind told)
    kind_cause told none e = subst (λ t. Is (BadKind t)) (sym e) (bad_kind (one_text found (values Regions) same text is) parts none)

    module _ (kind : Kind) (named : first ≡ kind_text kind) where
      parts_of_kind : HasThreeParts text.now (kind_text kind) second third
      parts_of_kind = subst (λ t. HasThreeParts text.now t second third) named parts

      pub layer_name_cause : (told : Text) → (IsLayerName second → ⊥) → told ≡ second → Is (BadLayerName told)
      layer_name_cause told none e =
          subst (λ t. Is (BadLayerName t)) (sym e) (bad_layer_name kind (one_text found (values Regions) same text is) parts_of_kind none)

      pub size_number_cause : (told : Text) → IsLayerName second → ((n : ℕ) → IsNumber 1 32 third n → ⊥) → told ≡ third → Is (BadSizeNumber told)
      size_number_cause told name none e =
          subst (λ t. Is (BadSizeNumber t)) (sym e) (bad_size_number kind (one_text found (values Regions) same text is) parts_of_kind name none)

      -- and the regions where it asks for some
      pub regions_once : (layer : Text) (size : ℕ) → layer ≡ second → IsLayerName second → IsNumber 1 32 third size
          → AreRegionsOnce (values Regions) kind layer size
      regions_once layer size e name number = subst (λ l. AreRegionsOnce (values Regions) kind l size) (sym e) (record {
        text = text.now;
        once = one_text found (values Regions) same text is;
        is_region = record { digits = third; whole = parts_of_kind.whole; is_layer = name; is_size = number };
      })

-- ---- options that are left out

listed : (b : Bool) → b ≡ false → true ≡ b → ⊥
listed b e f = cc (e, f)

module _ (values : OptionName → List Text) where
  pub metal_no_other : values Map ≡ [] → values Generate ≡ [] → All (λ name. values name ≡ []) task_options → GiveNoOther values (Layer ∷ Datatype ∷ Radius ∷ permitted_on_files)
  metal_no_other none not no_task Map other = none
  metal_no_other none not no_task Generate other = not
  metal_no_other none not no_task Pairs other = no_task 0 Map (omega arith)
  metal_no_other none not no_task Probe other = no_task 1 Map (omega arith)
  metal_no_other none not no_task Regions other = no_task 2 Map (omega arith)
  metal_no_other none not no_task name other = absurd (listed true other refl)

  pub mapped_no_other : values Generate ≡ [] → All (λ name. values name ≡ []) metal_options → All (λ name. values name ≡ []) task_options
      → GiveNoOther values (Map ∷ permitted_on_files)
  mapped_no_other not none no_task Generate other = not
  mapped_no_other not none no_task Pairs other = no_task 0 Map (omega arith)
  mapped_no_other not none no_task Probe other = no_task 1 Map (omega arith)
  mapped_no_other not none no_task Regions other = no_task 2 Map (omega arith)
  mapped_no_other not none no_task Layer other = none 0 Map (omega arith)
  mapped_no_other not none no_task Datatype other = none 1 Map (omega arith)
  mapped_no_other not none no_task Radius other = none 2 Map (omega arith)
  mapped_no_other not none no_task name other = absurd (listed true other refl)

  -- where this option alone asks for something other than a report
  module _ (asked : OptionName) (one : AskOne values asked) where
    differs : (name : OptionName) → is_one_of (Map ∷ asked ∷ Top ∷ []) name ≡ false → is_one_of (Map ∷ name ∷ Top ∷ []) name ≡ true → name ≢ asked
    differs name other is e =
        listed (is_one_of (Map ∷ asked ∷ Top ∷ []) name) other (sym (subst (λ n. is_one_of (Map ∷ n ∷ Top ∷ []) name ≡ true) e is))

    pub asked_no_other : GiveNoOther values (Map ∷ asked ∷ Top ∷ [])
    asked_no_other Generate other = one.no_columns
    asked_no_other Layer other = one.no_metal 0 Map (omega arith)
    asked_no_other Datatype other = one.no_metal 1 Map (omega arith)
    asked_no_other Radius other = one.no_metal 2 Map (omega arith)
    asked_no_other Tile other = one.no_work 0 Map (omega arith)
    asked_no_other Workers other = one.no_work 1 Map (omega arith)
    asked_no_other Pairs other = others_left_out values task_options asked one.alone Pairs (0, omega arith, refl) (differs Pairs other refl)
    asked_no_other Probe other = others_left_out values task_options asked one.alone Probe (1, omega arith, refl) (differs Probe other refl)
    asked_no_other Regions other = others_left_out values task_options asked one.alone Regions (2, omega arith, refl) (differs Regions other refl)
    asked_no_other Map other = absurd (listed true other refl)
    asked_no_other Top other = absurd (listed (is_one_of (Map ∷ asked ∷ Top ∷ []) Top) other (sym (or-true (bytes_eq (name_of asked) (name_of Top)))))

  pub generated_no_other : All (λ name. values name ≡ []) file_options → GiveNoOther values (Generate ∷ permitted)
  generated_no_other none Map other = none 0 Map (omega arith)
  generated_no_other none Top other = none 1 Map (omega arith)
  generated_no_other none Layer other = none 2 Map (omega arith)
  generated_no_other none Datatype other = none 3 Map (omega arith)
  generated_no_other none Radius other = none 4 Map (omega arith)
  generated_no_other none Pairs other = none 5 Map (omega arith)
  generated_no_other none Probe other = none 6 Map (omega arith)
  generated_no_other none Regions other = none 7 Map (omega arith)
  generated_no_other none name other = absurd (listed true other refl)

-- no other option asks for something other than a report
pub no_task_option : (name : OptionName) → is_one_of task_options name ≡ false → Contains task_options name → ⊥
no_task_option name other is =
    let Is : OptionName → Type 0 = λ option. is_one_of task_options option ≡ true in
    listed (is_one_of task_options name) other (sym (All-contains Is task_options name
    (All-cons Is Pairs (Probe ∷ Regions ∷ []) refl (All-cons Is Probe (Regions ∷ []) refl (All-cons Is Regions [] refl (All-nil Is)))) is))

-- and one that does is one of the three
pub one_of_three : (name : OptionName) → Contains task_options name → name ≢ Pairs → name ≢ Probe → name ≢ Regions → ⊥
one_of_three Pairs is pairs probe regions = pairs refl
one_of_three Probe is pairs probe regions = probe refl
one_of_three Regions is pairs probe regions = regions refl
one_of_three name is pairs probe regions = no_task_option name refl is

-- ---- tasks

module _ (values : OptionName → List Text) (positions : List Text) (layout : Text) (at : positions ≡ layout ∷ []) where
  pub metal_task : (name : Text) (numbers : ℕ × ℕ × ℕ) (top : Option Text) → name ≡ layout → AreNumbers values numbers
      → IsTextIfGiven (values Top) top → IsTask values positions (OneMetal name numbers.0 numbers.1 numbers.2 top)
  metal_task name numbers top named are wanted = of_one_metal (at ∙ ap (λ t. t ∷ []) (sym named)) are.layer are.datatype are.radius wanted
