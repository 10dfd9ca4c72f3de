-- words that ask for nothing have a cause, and those that are not spelled have one
use Rattle.std.proofs.Common.{ℕ, ◌≤◌, ◌<◌, List, [], ◌∷◌, ◌++◌, ◌≡◌, ◌≢◌, ap, refl, arith, All, Contains, Some, None, Option, codes, length, lit≤}
use Rattle.std.proofs.Common.{subst, ◌⊎◌, inl, inr}
use Rattle.lists.proofs.Containing.{all_of_each}
use Rattle.first_refusal.specs.Laws.{CannotLack}
use Rattle.geo_core.specs.declared.axis.Axis.TheVariants.{X, Y}
use Rattle.map_model.specs.MapNames.{IsLayerName}
use Rattle.questions.specs.declared.kind.Kind.{Kind}
use Rattle.command_line.specs.declared.cause.WordsCause.{WordsCause}
use Rattle.command_line.specs.declared.cause.WordsCause.TheVariants.{NoWords, NoOption, NoValue, DashedValue, EmptyValue, EmptyLayout, Twice}
use Rattle.command_line.specs.declared.cause.WordsCause.TheVariants.{TwoLayouts, BadNumber, NoCell, BadCoordinate, NoRegion, BadKind, BadLayerName}
use Rattle.command_line.specs.declared.cause.WordsCause.TheVariants.{BadSizeNumber, NoLayout, LayoutBesideGenerate, BesideGenerate, BesideMap}
use Rattle.command_line.specs.declared.cause.WordsCause.TheVariants.{NoMap, TwoTasks, BesideTask, Missing, NoMetals}
use Rattle.command_line.specs.declared.option_name.OptionName.{OptionName}
use Rattle.command_line.specs.declared.option_name.OptionName.TheVariants.{Map, Top, Tile, Workers, Layer, Datatype, Radius, Generate, Pairs, Probe}
use Rattle.command_line.specs.declared.option_name.OptionName.TheVariants.{Regions}
use Rattle.command_line.specs.declared.request.Request.{Request}
use Rattle.command_line.specs.declared.task.Task.{Task}
use Rattle.command_line.specs.declared.task.Task.TheVariants.{OneMetal, Mapped, Pairs as PairsOf, Probe as ProbeOf, Regions as RegionsOf, Generated}
use Rattle.command_line.specs.inside.Arguments.{HasRead}
use Rattle.command_line.specs.inside.Readings.{AskOne, IsFirstGiven}
use Rattle.command_line.specs.OptionNames.{Text, range_of}
use Rattle.command_line.specs.RegionTexts.{HasThreeParts}
use Rattle.command_line.specs.Requests.{AreRegionsOnce, Ask, GiveNoOther, HasNoEmptyText, IsNotEmpty, IsCellOnce, IsNumberOnce, IsNumberOrDefault}
use Rattle.command_line.specs.Requests.{as_given as number_given, left_out, IsTask, IsTextIfGiven, of_one_metal, of_map, of_pairs, of_probe}
use Rattle.command_line.specs.Requests.{of_regions, of_generator, options_for, IsRequestOf, permitted, values_of}
use Rattle.command_line.specs.Spelling.{Argument, in_one_word, in_two_words, positional, Given, AreSpelled, IsPlain, name_word, options_in, positions_in, whole_word}
use Rattle.command_line.specs.WordsCauses.{no_option, no_value, dashed_value, StopFor, IsCauseOf, bad_number, no_cell, bad_column, bad_row}
use Rattle.command_line.specs.WordsCauses.{no_region, bad_kind, bad_layer_name, bad_size_number, no_layout, layout_beside_generate, beside_generate}
use Rattle.command_line.specs.WordsCauses.{beside_map, no_map, two_tasks, beside_task, missing, no_metals, IsCauseIn, empty_value, empty_layout}
use Rattle.command_line.specs.WordsCauses.{twice, two_layouts, of_values, IsCause, no_words, not_spelled, as_given, file_options, metal_options}
use Rattle.command_line.specs.WordsCauses.{task_options}
use Rattle.command_line.proofs.AloneLaws.{first_is_listed, none_or_first}
use Rattle.command_line.proofs.AskLaws.{ask}
use Rattle.command_line.proofs.LimitLaws.{count_within, task_within}
use Rattle.command_line.proofs.ReadingLaws.{all_read, argument_read, last_read, nothing_read, stop_for}
use Rattle.command_line.proofs.TaskLaws.{asked_no_other, generated_no_other, mapped_no_other, metal_no_other, no_task_option, one_is_some}

-- what does not hold and cannot fail to hold is contradictory
either : (P : Type 0) → (P → ⊥) → ((P → ⊥) → ⊥) → ⊥
either P not never = never not

-- ---- words are spelled, or they stop

module _ (words : List Text) (unspelled : (given : Given) → AreSpelled words given → ⊥) (never : (cause : WordsCause) → StopFor words cause → ⊥) where
  -- no rest of them is left, and none behind an option's name
  abbrev IsNoRest : List Text → Type 0
  IsNoRest rest = (given : Given) → HasRead words given rest → ⊥

  abbrev IsBehindNoName : List Text → Type 0
  IsBehindNoName rest = (name : OptionName) (given : Given) → HasRead words given (name_word name ∷ rest) → ⊥

  abbrev with_argument : Given → Argument → Given
  with_argument given this = record { options = given.options ++ options_in this; positions = given.positions ++ positions_in this }

  -- where none is left behind the word
  module _ (word : Text) (rest : List Text) (no_rest : IsNoRest rest) where
    as_position : IsPlain word → IsNoRest (word ∷ rest)
    as_position plain given read = no_rest (with_argument given (positional word)) (argument_read words (word ∷ rest) rest given (with_argument given (positional word)) (positional word) read refl plain refl refl)

    as_setting : (name : OptionName) (value : Text) → word ≡ whole_word name value → IsNoRest (word ∷ rest)
    as_setting name value is given read =
        no_rest (with_argument given (in_one_word name value)) (argument_read words (word ∷ rest) rest given (with_argument given (in_one_word name value)) (in_one_word name value) read (ap (λ w. w ∷ rest) is) tt refl refl)

    as_last : word ≡ codes "--" → IsNoRest (word ∷ rest)
    as_last is given read =
        let whole : Given = record { options = given.options; positions = given.positions ++ rest } in
        unspelled whole (last_read words (word ∷ rest) rest given whole read (ap (λ w. w ∷ rest) is) refl)

    as_value : IsBehindNoName (word ∷ rest)
    as_value name given read = either (IsPlain word)
        (λ plain. no_rest (with_argument given (in_two_words name word)) (argument_read words (name_word name ∷ word ∷ rest) rest given (with_argument given (in_two_words name word)) (in_two_words name word) read refl plain refl refl))
        (λ dashed. never (DashedValue name word) (stop_for words (name_word name ∷ word ∷ rest) given (DashedValue name word) read (dashed_value refl dashed)))

    as_any : IsBehindNoName rest → IsNoRest (word ∷ rest)
    as_any behind given read = either (IsPlain word) (λ plain. as_position plain given read)
        (λ not_plain. either (word ≡ codes "--") (λ is. as_last is given read)
        (λ not_last. never (NoOption word) (stop_for words (word ∷ rest) given (NoOption word) read (no_option refl (record {
          not_plain = not_plain;
          not_last = not_last;
          no_name = λ name is. behind name given (subst (λ (w : Text). HasRead words given (w ∷ rest)) is read);
          no_setting = λ name value is. as_setting name value is given read;
        })))))

  none_left : (rest : List Text) → IsNoRest rest × IsBehindNoName rest
  none_left [] = (
    λ given read. unspelled given (all_read words given read),
    λ name given read. never (NoValue name) (stop_for words (name_word name ∷ []) given (NoValue name) read (no_value refl)),
  )
  none_left (word ∷ rest) = let next = none_left rest in (as_any word rest next.0 next.1, as_value word rest next.0)

  pub spelled_or_stopped : ⊥
  spelled_or_stopped = (none_left words).0 (record { options = []; positions = [] }) (nothing_read words)

-- ---- options and positional words ask for a request, or have a cause

empty_unless : (xs : List Text) → (xs ≢ [] → ⊥) → xs ≡ []
empty_unless [] never = refl
empty_unless (x ∷ xs) never = absurd (never (λ e. cc e))

module _ (values : OptionName → List Text) (positions : List Text) (few : (name : OptionName) → length (values name) ≤ 1) (one_layout : length positions ≤ 1)
    (never : (cause : WordsCause) → IsCauseOf values positions cause → ⊥) (nothing : (request : Request) → IsRequestOf values positions request → ⊥) where
  -- numbers and texts
  module _ (name : OptionName) where
    number_there : (low high : ℕ) → range_of name ≡ Some (record { least = low; most = high }) → (text : Text) → values name ≡ text ∷ [] → CannotLack (IsNumberOnce low high (values name))
    number_there low high within text is none = never (BadNumber name text) (bad_number within is (λ n number. none n (record { text = text; once = is; number = number })))

    once_there : (low high : ℕ) → range_of name ≡ Some (record { least = low; most = high }) → values name ≢ [] → CannotLack (IsNumberOnce low high (values name))
    once_there low high within some none = go (values name) refl where
      go : (texts : List Text) → values name ≡ texts → ⊥
      go [] is = some is
      go (text ∷ []) is = number_there low high within text is none
      go (text ∷ other ∷ more) is = let least = few name in absurd (omega (arith, least, ap length is))

    default_there : (low high default : ℕ) → range_of name ≡ Some (record { least = low; most = high }) → CannotLack (IsNumberOrDefault low high default (values name))
    default_there low high default within none = go (values name) refl where
      go : (texts : List Text) → values name ≡ texts → ⊥
      go [] is = none default (left_out is)
      go (text ∷ []) is = number_there low high within text is (λ n once. none n (number_given once))
      go (text ∷ other ∷ more) is = let least = few name in absurd (omega (arith, least, ap length is))

    text_there : (text : Option Text) × IsTextIfGiven (values name) text
    text_there = go (values name) refl where
      go : (texts : List Text) → values name ≡ texts → (text : Option Text) × IsTextIfGiven (values name) text
      go [] is = (None, is)
      go (text ∷ []) is = (Some text, is)
      go (text ∷ other ∷ more) is = let least = few name in absurd (omega (arith, least, ap length is))

  cell_there : values Probe ≢ [] → CannotLack (IsCellOnce (values Probe))
  cell_there some none = go (values Probe) refl where
    go : (texts : List Text) → values Probe ≡ texts → ⊥
    go [] is = some is
    go (text ∷ []) is = never (NoCell text) (no_cell is (λ column row parts. never (BadCoordinate X column) (bad_column is parts (λ i is_i.
        never (BadCoordinate Y row) (bad_row is parts is_i (λ j is_j. none (record { i = i; j = j })
        (record { text = text; once = is; is_cell = record { column = column; row = row; whole = parts.whole; is_column = is_i; is_row = is_j } })))))))
    go (text ∷ other ∷ more) is = let least = few Probe in absurd (omega (arith, least, ap length is))

  abbrev AreAnyRegions : Kind × Text × ℕ → Type 0
  AreAnyRegions of = AreRegionsOnce (values Regions) of.0 of.1 of.2

  regions_there : values Regions ≢ [] → CannotLack AreAnyRegions
  regions_there some none = go (values Regions) refl where
    go : (texts : List Text) → values Regions ≡ texts → ⊥
    go [] is = some is
    go (text ∷ []) is = never (NoRegion text) (no_region is (λ first second third parts. never (BadKind first) (bad_kind is parts (λ kind named.
        let cut = subst (λ t. HasThreeParts text t second third) named parts in
        either (IsLayerName second)
        (λ name. never (BadSizeNumber third) (bad_size_number kind is cut name (λ size number. none (kind, second, size)
        (record { text = text; once = is; is_region = record { digits = third; whole = cut.whole; is_layer = name; is_size = number } }))))
        (λ no_name. never (BadLayerName second) (bad_layer_name kind is cut no_name))))))
    go (text ∷ other ∷ more) is = let least = few Regions in absurd (omega (arith, least, ap length is))

  -- a task leads to a request
  with_task : (task : Task) → IsTask values positions task → GiveNoOther values (options_for task) → ⊥
  with_task task is others =
      default_there Tile 1 1000000000 65536 refl (λ edge is_edge. default_there Workers 1 64 4 refl (λ workers are. nothing
      (record {
        task = task;
        edge = edge;
        workers = workers;
        task_limits = task_within values positions task is;
        edge_limits = count_within 1 1000000000 65536 (values Tile) edge (record { least = lit≤ tt; most = lit≤ tt }) is_edge;
        worker_limits = count_within 1 64 4 (values Workers) workers (record { least = lit≤ tt; most = lit≤ tt }) are;
      })
      (record { task = is; edge = is_edge; workers = are; no_other = others })))

  -- no layout is named
  generated_there : positions ≡ [] → ⊥
  generated_there none = once_there Generate 1 500 refl columns (λ n once. with_task (Generated n) (of_generator none once) (generated_no_other values files)) where
    columns : values Generate ≢ []
    columns no_columns = never NoLayout (no_layout none no_columns)

    files : All (λ name. values name ≡ []) file_options
    files = all_of_each (λ name. values name ≡ []) file_options (λ name listed. empty_unless (values name) (λ some. never (BesideGenerate name) (beside_generate columns listed some)))

  -- one is named
  module _ (layout : Text) (at : positions ≡ layout ∷ []) where
    no_columns : values Generate ≡ []
    no_columns = empty_unless (values Generate) (λ columns. never (LayoutBesideGenerate layout) (layout_beside_generate at columns))

    mapped_there : (map : Text) → values Map ≡ map ∷ [] → ⊥
    mapped_there map is = go (none_or_first values task_options) where
      top : (text : Option Text) × IsTextIfGiven (values Top) text
      top = text_there Top

      metals : All (λ name. values name ≡ []) metal_options
      metals = all_of_each (λ name. values name ≡ []) metal_options
          (λ name listed. empty_unless (values name) (λ some. never (BesideMap name) (beside_map (one_is_some (values Map) map is) listed some)))

      ask_one : (asked : OptionName) (behind : List OptionName) → IsFirstGiven values task_options asked behind → AskOne values asked
      ask_one asked behind first = record {
        no_columns = no_columns;
        no_metal = metals;
        no_work = all_of_each (λ name. values name ≡ []) permitted (λ name also. empty_unless (values name)
            (λ some. never (BesideTask asked name) (beside_task (first_is_listed values task_options asked behind first) first.given also some)));
        alone = record {
          behind = behind;
          first = first;
          none_behind = all_of_each (λ name. values name ≡ []) behind (λ name listed. empty_unless (values name)
              (λ some. never (TwoTasks asked name) (two_tasks first.before behind first.are listed first.given some)));
        };
      }

      asked_there : (asked : OptionName) → Contains task_options asked → values asked ≢ [] → AskOne values asked → ⊥
      asked_there Pairs listed given one =
          once_there Pairs 1 32 refl given
          (λ size is_size. with_task (PairsOf layout map top.0 size) (of_pairs at is is_size top.1) (asked_no_other values Pairs one))
      asked_there Probe listed given one =
          cell_there given
          (λ cell is_cell. with_task (ProbeOf layout map top.0 cell) (of_probe at is is_cell top.1) (asked_no_other values Probe one))
      asked_there Regions listed given one =
          regions_there given
          (λ of are. with_task (RegionsOf layout map top.0 of.0 of.1 of.2) (of_regions at is are top.1) (asked_no_other values Regions one))
      asked_there name listed given one = no_task_option name refl listed

      go : All (λ name. values name ≡ []) task_options
          ⊎ ((asked : OptionName) × (behind : List OptionName) × IsFirstGiven values task_options asked behind) → ⊥
      go (inl none) = with_task (Mapped layout map top.0) (of_map at is top.1) (mapped_no_other values no_columns metals none)
      go (inr (asked, behind, first)) =
          asked_there asked (first_is_listed values task_options asked behind first) first.given (ask_one asked behind first)

    metal_there : values Map ≡ [] → ⊥
    metal_there unmapped =
        let top = text_there Top in
        once_there Layer 0 65535 refl (each Layer (0, omega arith, refl)) (λ layer is_layer.
        once_there Datatype 0 65535 refl (each Datatype (1, omega arith, refl)) (λ datatype is_datatype.
        once_there Radius 1 1000000 refl (each Radius (2, omega arith, refl)) (λ radius is_radius.
        with_task (OneMetal layout layer datatype radius top.0) (of_one_metal at is_layer is_datatype is_radius top.1) (metal_no_other values unmapped no_columns no_task)))) where
          no_task : All (λ name. values name ≡ []) task_options
          no_task = all_of_each (λ name. values name ≡ []) task_options
              (λ name listed. empty_unless (values name) (λ some. never (NoMap name) (no_map unmapped listed some)))

          each : (name : OptionName) → Contains metal_options name → values name ≢ []
          each name listed none = never NoMetals (no_metals unmapped no_columns (all_of_each (λ other. values other ≡ []) metal_options (λ other also. empty_unless (values other)
              (λ some. never (Missing name) (missing unmapped no_columns listed none (record { name = other; listed = also; given = some }))))))

    named_there : ⊥
    named_there = go (values Map) refl where
      go : (texts : List Text) → values Map ≡ texts → ⊥
      go [] is = metal_there is
      go (map ∷ []) is = mapped_there map is
      go (map ∷ other ∷ more) is = let least = few Map in absurd (omega (arith, least, ap length is))

  pub request_or_cause : ⊥
  request_or_cause = go positions refl where
    go : (texts : List Text) → positions ≡ texts → ⊥
    go [] is = generated_there is
    go (layout ∷ []) is = named_there layout is
    go (layout ∷ other ∷ more) is = absurd (omega (arith, one_layout, ap length is))

-- ---- words ask for a request, or have a cause

module _ (words : List Text) (nothing : (request : Request) → Ask words request → ⊥) (never : (cause : WordsCause) → IsCause words cause → ⊥) where
  module _ (given : Given) (spelled : AreSpelled words given) where
    never_in : (cause : WordsCause) → IsCauseIn given cause → ⊥
    never_in cause is = never cause (as_given (λ none. never NoWords (no_words none)) spelled is)

    few_values : (name : OptionName) → length (values_of given.options name) ≤ 1
    few_values name = let once : 1 < length (values_of given.options name) → ⊥ = λ more. never_in (Twice name) (twice more) in omega (arith, once)

    few_positions : length given.positions ≤ 1
    few_positions = go given.positions refl where
      go : (texts : List Text) → given.positions ≡ texts → length given.positions ≤ 1
      go [] is = omega (arith, ap length is)
      go (one ∷ []) is = omega (arith, ap length is)
      go (one ∷ other ∷ more) is = absurd (never_in (TwoLayouts one other) (two_layouts is))

    full : (text : Text) → text ≢ [] → IsNotEmpty text
    full [] some = absurd (some refl)
    full (c ∷ cs) some = omega arith

    texts : HasNoEmptyText given
    texts = record {
      values = all_of_each (λ option. IsNotEmpty option.1) given.options
          (λ option listed. full option.1 (λ none. never_in (EmptyValue option.0) (empty_value (subst (λ (text : Text). Contains given.options (option.0, text)) none listed))));
      positions = all_of_each IsNotEmpty given.positions (λ word listed. full word (λ none. never_in EmptyLayout (empty_layout (subst (Contains given.positions) none listed))));
    }

    unspelled : ⊥
    unspelled = request_or_cause (values_of given.options) given.positions few_values few_positions (λ cause is. never_in cause (of_values is))
        (λ request asked. nothing request (ask words given spelled request texts asked))

  pub requests_or_causes : ⊥
  requests_or_causes = spelled_or_stopped words unspelled (λ cause stops. never cause (not_spelled stops))
