-- words that have a cause why they ask for nothing ask for nothing, and which of several causes is told
use Rattle.std.proofs.Common.{ℕ, ◌≤◌, ◌<◌, List, [], ◌∷◌, ◌++◌, ◌≡◌, ◌≢◌, ◌∙◌, sym, ap, refl, arith, All, Contains, Some, None, Option, codes, drop, length, lit<, subst, append_assoc, Bool, true, false, ◌||◌}
use Rattle.lists.proofs.Words.{flat_map, list_any, All-cons, All-contains, All-head, All-nil, All-tail, All-weaker}
use Rattle.first_refusal.specs.Laws.{IsUnique}
use Rattle.geo_core.specs.declared.plane.Cell.{Cell}
use Rattle.questions.specs.KindTexts.{kind_text}
use Rattle.questions.specs.declared.kind.Kind.{Kind}
use Rattle.command_line.specs.declared.cause.Refusal.{Refusal}
use Rattle.command_line.specs.declared.cause.Refusal.TheVariants.{Words, Memory}
use Rattle.command_line.specs.declared.cause.WordsCause.{WordsCause}
use Rattle.command_line.specs.declared.cause.WordsCause.TheVariants.{NoWords, NoOption, NoValue, NoLayout}
use Rattle.command_line.specs.declared.option_name.OptionName.{OptionName}
use Rattle.command_line.specs.declared.option_name.OptionName.TheVariants.{Map, Top, Tile, Workers, Layer, Datatype, Radius, Generate, Pairs, Probe}
use Rattle.command_line.specs.declared.option_name.OptionName.TheVariants.{Regions}
use Rattle.command_line.specs.declared.range.NumberRange.{NumberRange}
use Rattle.command_line.specs.declared.request.Request.{Request}
use Rattle.command_line.specs.declared.task.Task.{Task}
use Rattle.command_line.specs.inside.Arguments.{AreSingle, HasRead}
use Rattle.command_line.specs.inside.Readings.{IsGivenAlone}
use Rattle.command_line.specs.inside.WordsRefusals.{HasCause, IsFirstCause, IsOfForm}
use Rattle.command_line.specs.CellTexts.{IsCellText}
use Rattle.command_line.specs.Numbers.{IsNumber}
use Rattle.command_line.specs.OptionNames.{Text, range_of}
use Rattle.command_line.specs.RegionTexts.{IsRegionText}
use Rattle.command_line.specs.Requests.{AreRegionsOnce, Ask, GiveNoOther, HasNoEmptyText, IsNotEmpty, IsCellOnce, IsNumberOnce, IsNumberOrDefault}
use Rattle.command_line.specs.Requests.{as_given as number_given, left_out, IsTask, of_one_metal, of_map, of_pairs, of_probe, of_regions}
use Rattle.command_line.specs.Requests.{of_generator, options_for, IsRequestOf, is_one_of, permitted, permitted_on_files, values_of}
use Rattle.command_line.specs.Spelling.{Argument, in_one_word, in_two_words, positional, Given, AreSpelled, IsClearlySpelled, IsPlain, last_words, name_word, whole_word, words_of}
use Rattle.command_line.specs.WordsCauses.{BeginWithNone, no_option, no_value, dashed_value, StopFor, IsCauseOf, bad_number, no_cell, bad_column}
use Rattle.command_line.specs.WordsCauses.{bad_row, no_region, bad_kind, bad_layer_name, bad_size_number, no_layout, layout_beside_generate}
use Rattle.command_line.specs.WordsCauses.{beside_generate, beside_map, no_map, two_tasks, beside_task, missing, no_metals, IsCauseIn, empty_value}
use Rattle.command_line.specs.WordsCauses.{empty_layout, twice, two_layouts, of_values, IsCause, no_words, not_spelled, as_given, file_options}
use Rattle.command_line.specs.WordsCauses.{metal_options, order_of, task_options}
use Rattle.command_line.proofs.AloneLaws.{no_two}
use Rattle.command_line.proofs.AskLaws.{asks_by_texts, asks_for, asks_once}
use Rattle.command_line.proofs.ReadingLaws.{all_read, nothing_read}
use Rattle.command_line.proofs.TaskLaws.{one_is_some}
use Rattle.command_line.proofs.CellLaws.{has_parts, parts_of_cell}
use Rattle.command_line.proofs.OrderLaws.{checked, none_before}
use Rattle.command_line.proofs.RegionLaws.{has_three, parts_of_region}
use Rattle.command_line.proofs.SpellingLaws.{plain_has_no_dashes, whole_is_no_name, no_nameless, first_is_one, name_word_is, Follows, follow, spellings_agree}

-- ---- words that are not spelled

-- words that begin with no argument are not the last words
not_last : (rest : List Text) (cause : WordsCause) → BeginWithNone rest cause → (last : Option (List Text)) → rest ≡ last_words last → ⊥
not_last rest cause (no_option e none) None r = let s = sym e ∙ r in cc s
not_last rest cause (no_option {word = word} e none) (Some ws) r = let dashes : word ≡ codes "--" = let s = sym e ∙ r in cc s in none.not_last dashes
not_last rest cause (no_value e) None r = let s = sym e ∙ r in cc s
not_last rest cause (no_value {name = name} e) (Some ws) r =
    let dashes : name_word name ≡ codes "--" = let s = sym e ∙ r in cc s in no_nameless name (ap (drop 2) dashes)
not_last rest cause (dashed_value e dashed) None r = let s = sym e ∙ r in cc s
not_last rest cause (dashed_value {name = name} e dashed) (Some ws) r =
    let dashes : name_word name ≡ codes "--" = let s = sym e ∙ r in cc s in no_nameless name (ap (drop 2) dashes)

-- and they begin with none
no_first : (rest more : List Text) (cause : WordsCause) → BeginWithNone rest cause → (argument : Argument) → IsClearlySpelled argument → rest ≡ words_of argument ++ more → ⊥
no_first rest more cause (no_option {word = word} e none) (in_one_word n v) clear f = let w : word ≡ whole_word n v = let s = sym e ∙ f in cc s in none.no_setting n v w
no_first rest more cause (no_option {word = word} e none) (in_two_words n v) clear f = let w : word ≡ name_word n = let s = sym e ∙ f in cc s in none.no_name n w
no_first rest more cause (no_option {word = word} e none) (positional t) clear f = let w : t ≡ word = let s = sym e ∙ f in cc s in none.not_plain (subst IsPlain w clear)
no_first rest more cause (no_value {name = name} e) (in_one_word n v) clear f = let w : whole_word n v ≡ name_word name = let s = sym e ∙ f in cc s in whole_is_no_name n name v w
no_first rest more cause (no_value e) (in_two_words n v) clear f = let s = sym e ∙ f in cc s
no_first rest more cause (no_value {name = name} e) (positional t) clear f = let w : t ≡ name_word name = let s = sym e ∙ f in cc s in plain_has_no_dashes t _ clear w
no_first rest more cause (dashed_value {name = name} e dashed) (in_one_word n v) clear f =
    let w : whole_word n v ≡ name_word name = let s = sym e ∙ f in cc s in whole_is_no_name n name v w
no_first rest more cause (dashed_value {value = value} e dashed) (in_two_words n v) clear f = let w : v ≡ value = let s = sym e ∙ f in cc s in dashed (subst IsPlain w clear)
no_first rest more cause (dashed_value {name = name} e dashed) (positional t) clear f = let w : t ≡ name_word name = let s = sym e ∙ f in cc s in plain_has_no_dashes t _ clear w

-- words that stop are not spelled
stop_unspelled : (words : List Text) (cause : WordsCause) → StopFor words cause → (given : Given) → AreSpelled words given → ⊥
stop_unspelled words cause stops given spelled = go f.more f.clear f.rest_is where
  f : Follows stops.rest stops.arguments spelled.arguments spelled.last
  f = follow stops.arguments spelled.arguments stops.rest spelled.last stops.clear spelled.clear (sym stops.words_are ∙ spelled.words_are)

  go : (arguments : List Argument) → All IsClearlySpelled arguments → stops.rest ≡ flat_map words_of arguments ++ last_words spelled.last → ⊥
  go [] clear r = not_last stops.rest cause stops.stop spelled.last r
  go (a ∷ others) clear r =
      no_first stops.rest (flat_map words_of others ++ last_words spelled.last) cause stops.stop a (All-head IsClearlySpelled a others clear)
      (r ∙ append_assoc (words_of a) (flat_map words_of others) (last_words spelled.last))

-- where words begin with no argument, there is one cause
begin_one : (rest : List Text) (one other : WordsCause) → BeginWithNone rest one → BeginWithNone rest other → one ≡ other
begin_one rest one other (no_option {word = w} e none) (no_option {word = v} f too) = let same : w ≡ v = let s = sym e ∙ f in cc s in ap (λ t. NoOption t) same
begin_one rest one other (no_option {word = w} e none) (no_value {name = m} f) = let same : w ≡ name_word m = let s = sym e ∙ f in cc s in absurd (none.no_name m same)
begin_one rest one other (no_option {word = w} e none) (dashed_value {name = m} f dashed) = let same : w ≡ name_word m = let s = sym e ∙ f in cc s in absurd (none.no_name m same)
begin_one rest one other (no_value {name = n} e) (no_option {word = v} f none) = let same : v ≡ name_word n = let s = sym f ∙ e in cc s in absurd (none.no_name n same)
begin_one rest one other (no_value {name = n} e) (no_value {name = m} f) =
    let same : name_word n ≡ name_word m = let s = sym e ∙ f in cc s in ap (λ (name : OptionName). NoValue name) (name_word_is n m same)
begin_one rest one other (no_value e) (dashed_value f dashed) = let s = sym e ∙ f in cc s
begin_one rest one other (dashed_value {name = n} e dashed) (no_option {word = v} f none) = let same : v ≡ name_word n = let s = sym f ∙ e in cc s in absurd (none.no_name n same)
begin_one rest one other (dashed_value e dashed) (no_value f) = let s = sym e ∙ f in cc s
begin_one rest one other (dashed_value {name = n} {value = v} e dashed) (dashed_value {name = m} {value = w} f too) =
    let word : name_word n ≡ name_word m = let s = sym e ∙ f in cc s in
    let names : n ≡ m = name_word_is n m word in
    let values : v ≡ w = let s = sym e ∙ f in cc s in
    cc (names, values)

-- words stop for one cause at most
module _ (one other : WordsCause) where
  one_stop : (read also : List Argument) → All IsClearlySpelled read → All IsClearlySpelled also → (rest more : List Text) → flat_map words_of read ++ rest ≡ flat_map words_of also ++ more
      → BeginWithNone rest one → BeginWithNone more other → one ≡ other
  one_stop [] [] p q rest more e a b = begin_one more one other (subst (λ r. BeginWithNone r one) e a) b
  one_stop [] (y ∷ ys) p q rest more e a b =
      absurd (no_first rest (flat_map words_of ys ++ more) one a y (All-head IsClearlySpelled y ys q) (e ∙ append_assoc (words_of y) (flat_map words_of ys) more))
  one_stop (x ∷ xs) [] p q rest more e a b =
      absurd (no_first more (flat_map words_of xs ++ rest) other b x (All-head IsClearlySpelled x xs p) (sym e ∙ append_assoc (words_of x) (flat_map words_of xs) rest))
  one_stop (x ∷ xs) (y ∷ ys) p q rest more e a b =
      let first = first_is_one x y (flat_map words_of xs ++ rest) (flat_map words_of ys ++ more) (All-head IsClearlySpelled x xs p) (All-head IsClearlySpelled y ys q)
      (sym (append_assoc (words_of x) (flat_map words_of xs) rest) ∙ e ∙ append_assoc (words_of y) (flat_map words_of ys) more) in
      one_stop xs ys (All-tail IsClearlySpelled x xs p) (All-tail IsClearlySpelled y ys q) rest more first.1 a b

pub stops_agree : (words : List Text) → IsUnique (StopFor words)
stops_agree words one other a b = one_stop one other a.arguments b.arguments a.clear b.clear a.rest b.rest (sym a.words_are ∙ b.words_are) a.stop b.stop

-- ---- what options with these values and these positional words ask for

-- of a value that is no number of the range there is no number
module _ (range : NumberRange) (texts : List Text) (value : Text) (one : texts ≡ value ∷ []) (none : (n : ℕ) → IsNumber range.least range.most value n → ⊥) where
  not_once : (low high n : ℕ) → Some (record { least = low; most = high }) ≡ Some range → IsNumberOnce low high texts n → ⊥
  not_once low high n within once =
      let made : NumberRange = record { least = low; most = high } in
      let same : made ≡ range = cc within in
      let text : once.text ≡ value = let s = sym once.once ∙ one in cc s in
      none n (subst (λ (r : NumberRange). IsNumber r.least r.most value n) same (subst (λ t. IsNumber low high t n) text once.number))

  not_or_default : (low high default n : ℕ) → Some (record { least = low; most = high }) ≡ Some range → IsNumberOrDefault low high default texts n → ⊥
  not_or_default low high default n within (number_given once) = not_once low high n within once
  not_or_default low high default n within (left_out e) = one_is_some texts value one e

-- of two lists of options without a common name, those of the one are none of the other
none_of : (names others : List OptionName) → list_any (is_one_of names) others ≡ false → All (λ name. is_one_of names name ≡ false) others
none_of names [] none = All-nil (λ name. is_one_of names name ≡ false)
none_of names (other ∷ more) none = go (is_one_of names other) refl none (none_of names more) where
  go : (b : Bool) → is_one_of names other ≡ b → (b || list_any (is_one_of names) more) ≡ false → (list_any (is_one_of names) more ≡ false → All (λ name. is_one_of names name ≡ false) more)
      → All (λ name. is_one_of names name ≡ false) (other ∷ more)
  go true _ none _ = cc none
  go false is none rest = All-cons (λ name. is_one_of names name ≡ false) other more is (rest none)

is_none_of : (names others : List OptionName) → list_any (is_one_of names) others ≡ false → (name : OptionName) → Contains others name → is_one_of names name ≡ false
is_none_of names others none name = All-contains (λ other. is_one_of names other ≡ false) others name (none_of names others none)

module _ (values : OptionName → List Text) (positions : List Text) where
  -- the task of one metal gives each of its options
  metal_given : (layer datatype radius : ℕ) → IsNumberOnce 0 65535 (values Layer) layer → IsNumberOnce 0 65535 (values Datatype) datatype → IsNumberOnce 1 1000000 (values Radius) radius
      → (name : OptionName) → Contains metal_options name → values name ≢ []
  metal_given layer datatype radius a b c name listed =
      let IsSome : OptionName → Type 0 = λ other. values other ≢ [] in
      All-contains IsSome metal_options name
      (All-cons IsSome Layer (Datatype ∷ Radius ∷ []) (one_is_some _ a.text a.once) (All-cons IsSome Datatype (Radius ∷ []) (one_is_some _ b.text b.once) (All-cons IsSome Radius [] (one_is_some _ c.text c.once) (All-nil IsSome)))) listed

  -- a value of an option is a number that it takes
  fits : (request : Request) → IsRequestOf values positions request → (task : Task) → IsTask values positions task → GiveNoOther values (options_for task) → (name : OptionName)
      → (range : NumberRange) (value : Text) → range_of name ≡ Some range → values name ≡ value ∷ [] → ((n : ℕ) → IsNumber range.least range.most value n → ⊥) → ⊥
  fits request asked task is others Map range value within one none = cc within
  fits request asked task is others Top range value within one none = cc within
  fits request asked task is others Probe range value within one none = cc within
  fits request asked task is others Regions range value within one none = cc within
  fits request asked task (of_pairs {size = n} _ _ size _) others Pairs range value within one none = not_once range (values Pairs) value one none 1 32 n within size
  fits request asked task is others Tile range value within one none = not_or_default range (values Tile) value one none 1 1000000000 65536 request.edge within asked.edge
  fits request asked task is others Workers range value within one none = not_or_default range (values Workers) value one none 1 64 4 request.workers within asked.workers
  fits request asked task (of_one_metal {layer = n} _ layer _ _ _) others Layer range value within one none = not_once range (values Layer) value one none 0 65535 n within layer
  fits request asked task (of_one_metal {datatype = n} _ _ datatype _ _) others Datatype range value within one none = not_once range (values Datatype) value one none 0 65535 n within datatype
  fits request asked task (of_one_metal {radius = n} _ _ _ radius _) others Radius range value within one none = not_once range (values Radius) value one none 1 1000000 n within radius
  fits request asked task (of_generator {columns = n} _ columns) others Generate range value within one none = not_once range (values Generate) value one none 1 500 n within columns
  fits request asked task is others name range value within one none = one_is_some (values name) value one (others name refl)

  -- the options of a list that has none of the task's are left out
  are_left_out : (names : List OptionName) → GiveNoOther values names → (others : List OptionName) → list_any (is_one_of names) others ≡ false
      → All (λ name. values name ≡ []) others
  are_left_out names no_other others none =
      All-weaker (λ name. is_one_of names name ≡ false) (λ name. values name ≡ []) no_other others (none_of names others none)

  -- and so a task that gives one option that asks for something other than a report gives that one alone
  alone : (names : List OptionName) → GiveNoOther values names → (asked : OptionName) (before behind : List OptionName)
      → task_options ≡ before ++ asked ∷ behind
      → list_any (is_one_of names) before ≡ false → list_any (is_one_of names) behind ≡ false → values asked ≢ []
      → IsGivenAlone values task_options asked
  alone names no_other asked before behind are front back given = record {
    behind = behind;
    first = record { before = before; are = are; none_before = are_left_out names no_other before front; given = given };
    none_behind = are_left_out names no_other behind back;
  }

  -- what a task gives that asks for something other than a report
  pairs_alone : (size : ℕ) → IsNumberOnce 1 32 (values Pairs) size → GiveNoOther values (Map ∷ Pairs ∷ Top ∷ [])
      → IsGivenAlone values task_options Pairs
  pairs_alone n size others =
      alone (Map ∷ Pairs ∷ Top ∷ []) others Pairs [] (Probe ∷ Regions ∷ []) refl refl refl (one_is_some (values Pairs) size.text size.once)

  probe_alone : (cell : Cell) → IsCellOnce (values Probe) cell → GiveNoOther values (Map ∷ Probe ∷ Top ∷ []) → IsGivenAlone values task_options Probe
  probe_alone c cell others =
      alone (Map ∷ Probe ∷ Top ∷ []) others Probe (Pairs ∷ []) (Regions ∷ []) refl refl refl (one_is_some (values Probe) cell.text cell.once)

  regions_alone : (kind : Kind) (layer : Text) (size : ℕ) → AreRegionsOnce (values Regions) kind layer size
      → GiveNoOther values (Map ∷ Regions ∷ Top ∷ [])
      → IsGivenAlone values task_options Regions
  regions_alone k l n regions others =
      alone (Map ∷ Regions ∷ Top ∷ []) others Regions (Pairs ∷ Probe ∷ []) [] refl refl refl (one_is_some (values Regions) regions.text regions.once)

  -- such a task has no cause but a value that is not of its option's form
  no_form : (cause : WordsCause) → IsCauseOf values positions cause → order_of cause < 14 → (task : Task) → IsTask values positions task → GiveNoOther values (options_for task) → ⊥
  no_form cause (bad_number _ _ _) early task is others = absurd (omega arith)
  no_form cause (no_cell _ _) early task is others = absurd (omega arith)
  no_form cause (bad_column _ _ _) early task is others = absurd (omega arith)
  no_form cause (bad_row _ _ _ _) early task is others = absurd (omega arith)
  no_form cause (no_region _ _) early task is others = absurd (omega arith)
  no_form cause (bad_kind _ _ _) early task is others = absurd (omega arith)
  no_form cause (bad_layer_name _ _ _ _) early task is others = absurd (omega arith)
  no_form cause (bad_size_number _ _ _ _ _) early task is others = absurd (omega arith)
  no_form cause (no_layout none no_columns) early task (of_one_metal at _ _ _ _) others = let s = sym none ∙ at in cc s
  no_form cause (no_layout none no_columns) early task (of_map at _ _) others = let s = sym none ∙ at in cc s
  no_form cause (no_layout none no_columns) early task (of_pairs at _ _ _) others = let s = sym none ∙ at in cc s
  no_form cause (no_layout none no_columns) early task (of_probe at _ _ _) others = let s = sym none ∙ at in cc s
  no_form cause (no_layout none no_columns) early task (of_regions at _ _ _) others = let s = sym none ∙ at in cc s
  no_form cause (no_layout none no_columns) early task (of_generator _ columns) others = one_is_some (values Generate) columns.text columns.once no_columns
  no_form cause (layout_beside_generate one columns) early task (of_generator none _) others = let s = sym one ∙ none in cc s
  no_form cause (layout_beside_generate one columns) early task is others = columns (others Generate refl)
  no_form cause (beside_generate {name = name} columns listed some) early task (of_generator _ _) others = some (others name (is_none_of (Generate ∷ permitted) file_options refl name listed))
  no_form cause (beside_generate columns listed some) early task is others = columns (others Generate refl)
  no_form cause (beside_map {name = name} map listed some) early task (of_map _ _ _) others = some (others name (is_none_of (Map ∷ permitted_on_files) metal_options refl name listed))
  no_form cause (beside_map {name = name} map listed some) early task (of_pairs _ _ _ _) others = some (others name (is_none_of (Map ∷ Pairs ∷ Top ∷ []) metal_options refl name listed))
  no_form cause (beside_map {name = name} map listed some) early task (of_probe _ _ _ _) others = some (others name (is_none_of (Map ∷ Probe ∷ Top ∷ []) metal_options refl name listed))
  no_form cause (beside_map {name = name} map listed some) early task (of_regions _ _ _ _) others =
      some (others name (is_none_of (Map ∷ Regions ∷ Top ∷ []) metal_options refl name listed))
  no_form cause (beside_map map listed some) early task is others = map (others Map refl)
  no_form cause (no_map none listed some) early task (of_map {map = map} _ is _) others = one_is_some (values Map) map is none
  no_form cause (no_map none listed some) early task (of_pairs {map = map} _ is _ _) others = one_is_some (values Map) map is none
  no_form cause (no_map none listed some) early task (of_probe {map = map} _ is _ _) others = one_is_some (values Map) map is none
  no_form cause (no_map none listed some) early task (of_regions {map = map} _ is _ _) others = one_is_some (values Map) map is none
  no_form cause (no_map {name = name} none listed some) early task is others =
      some (others name (is_none_of (options_for task) task_options refl name listed))
  no_form cause (two_tasks {asked = a} {also = b} c d are listed one other) early task (of_pairs {size = n} _ _ size _) others =
      no_two values task_options Pairs (pairs_alone n size others) a b c d are listed one other
  no_form cause (two_tasks {asked = a} {also = b} c d are listed one other) early task (of_probe {cell = e} _ _ cell _) others =
      no_two values task_options Probe (probe_alone e cell others) a b c d are listed one other
  no_form cause (two_tasks {asked = a} {also = b} c d are in_it one other) early task (of_regions {kind = k} {layer = l} {size = n} _ _ it _) others =
      no_two values task_options Regions (regions_alone k l n it others) a b c d are in_it one other
  no_form cause (two_tasks {asked = a} c d are _ one _) early task is others =
      none_before values positions (are_left_out (options_for task) others task_options refl) a c d are one
  no_form cause (beside_task {name = name} _ _ beside also) early task (of_pairs _ _ _ _) others = also (others name (is_none_of (Map ∷ Pairs ∷ Top ∷ []) permitted refl name beside))
  no_form cause (beside_task {name = name} _ _ beside also) early task (of_probe _ _ _ _) others = also (others name (is_none_of (Map ∷ Probe ∷ Top ∷ []) permitted refl name beside))
  no_form cause (beside_task {name = name} _ _ beside also) early task (of_regions _ _ _ _) others =
      also (others name (is_none_of (Map ∷ Regions ∷ Top ∷ []) permitted refl name beside))
  no_form cause (beside_task {asked = name} listed some _ _) early task is others =
      some (others name (is_none_of (options_for task) task_options refl name listed))
  no_form cause (missing {name = name} unmapped no_columns listed none _) early task (of_one_metal {layer = a} {datatype = b} {radius = c} _ layer datatype radius _) others =
      metal_given a b c layer datatype radius name listed none
  no_form cause (missing unmapped no_columns listed none _) early task (of_map {map = map} _ is _) others = one_is_some (values Map) map is unmapped
  no_form cause (missing unmapped no_columns listed none _) early task (of_pairs {map = map} _ is _ _) others = one_is_some (values Map) map is unmapped
  no_form cause (missing unmapped no_columns listed none _) early task (of_probe {map = map} _ is _ _) others = one_is_some (values Map) map is unmapped
  no_form cause (missing unmapped no_columns listed none _) early task (of_regions {map = map} _ is _ _) others =
      one_is_some (values Map) map is unmapped
  no_form cause (missing unmapped no_columns listed none _) early task (of_generator _ columns) others = one_is_some (values Generate) columns.text columns.once no_columns
  no_form cause (no_metals unmapped no_columns none) early task (of_one_metal _ layer _ _ _) others = one_is_some (values Layer) layer.text layer.once (none 0 Layer (omega arith))
  no_form cause (no_metals unmapped no_columns none) early task (of_map {map = map} _ is _) others = one_is_some (values Map) map is unmapped
  no_form cause (no_metals unmapped no_columns none) early task (of_pairs {map = map} _ is _ _) others = one_is_some (values Map) map is unmapped
  no_form cause (no_metals unmapped no_columns none) early task (of_probe {map = map} _ is _ _) others = one_is_some (values Map) map is unmapped
  no_form cause (no_metals unmapped no_columns none) early task (of_regions {map = map} _ is _ _) others = one_is_some (values Map) map is unmapped
  no_form cause (no_metals unmapped no_columns none) early task (of_generator _ columns) others = one_is_some (values Generate) columns.text columns.once no_columns

  pub task_form : (task : Task) → IsTask values positions task → GiveNoOther values (options_for task) → IsOfForm values positions
  task_form task is others cause has = let late : order_of cause < 14 → ⊥ = λ early. no_form cause has early task is others in omega (arith, late)

  -- where the option of a probe has a value, that is a cell
  cell_of : (task : Task) → IsTask values positions task → GiveNoOther values (options_for task) → (value : Text) → values Probe ≡ value ∷ [] → (cell : Cell) × IsCellText value cell
  cell_of task (of_probe {cell = cell} _ _ once _) others value one =
      (cell, subst (λ t. IsCellText t cell) (let same : once.text ≡ value = let s = sym once.once ∙ one in cc s in same) once.is_cell)
  cell_of task is others value one = absurd (one_is_some (values Probe) value one (others Probe refl))

  -- where the option of regions has a value, that asks for regions
  region_of : (task : Task) → IsTask values positions task → GiveNoOther values (options_for task) → (value : Text) → values Regions ≡ value ∷ []
      → (kind : Kind) × (layer : Text) × (size : ℕ) × IsRegionText value kind layer size
  region_of task (of_regions {kind = kind} {layer = layer} {size = size} _ _ once _) others value one =
      let same : once.text ≡ value = let s = sym once.once ∙ one in cc s in
      (kind, layer, size, subst (λ t. IsRegionText t kind layer size) same once.is_region)
  region_of task is others value one = absurd (one_is_some (values Regions) value one (others Regions refl))

  -- and none at all where it is that of a request
  no_task : (cause : WordsCause) → IsCauseOf values positions cause → (request : Request) → IsRequestOf values positions request → (task : Task) → IsTask values positions task
      → GiveNoOther values (options_for task) → ⊥
  no_task cause (bad_number {name = name} {value = value} {range = range} within one none) request asked task is others = fits request asked task is others name range value within one none
  no_task cause (no_cell {value = value} one none) request asked task is others =
      let found = cell_of task is others value one in none found.1.column found.1.row (has_parts value found.0 found.1)
  no_task cause (bad_column {value = value} {column = column} {row = row} one parts none) request asked task is others =
      let found = cell_of task is others value one in none found.0.i (parts_of_cell value column row found.0 parts found.1).0
  no_task cause (bad_row {value = value} {column = column} {row = row} one parts _ none) request asked task is others =
      let found = cell_of task is others value one in none found.0.j (parts_of_cell value column row found.0 parts found.1).1
  no_task cause (no_region {value = value} one none) request asked task is others =
      let found = region_of task is others value one in none _ _ _ (has_three value found.0 found.1 found.2 found.3)
  no_task cause (bad_kind {value = value} {first = first} {second = second} {third = third} one parts none) request asked task is others =
      let found = region_of task is others value one in
      none found.0 (parts_of_region value found.0 found.1 found.2 found.3 first second third parts).0
  no_task cause (bad_layer_name {value = value} {second = second} {third = third} word one parts none) request asked task is others =
      let found = region_of task is others value one in
      none (parts_of_region value found.0 found.1 found.2 found.3 (kind_text word) second third parts).1
  no_task cause (bad_size_number {value = value} {second = second} {third = third} word one parts name none) request asked task is others =
      let found = region_of task is others value one in
      none found.2 (parts_of_region value found.0 found.1 found.2 found.3 (kind_text word) second third parts).2
  no_task cause has request asked task is others = no_form cause has (lit< tt) task is others

-- ---- what words ask for

module _ (words : List Text) (request : Request) (asks : Ask words request) where
  given_refuses : (given : Given) → AreSpelled words given → (cause : WordsCause) → IsCauseIn given cause → ⊥
  given_refuses given spelled cause (empty_value {name = name} listed) =
      let full : IsNotEmpty [] = All-contains (λ option. IsNotEmpty option.1) given.options (name, []) (asks_by_texts words given spelled request asks).values listed in absurd (omega arith)
  given_refuses given spelled cause (empty_layout listed) =
      let full : IsNotEmpty [] = All-contains IsNotEmpty given.positions [] (asks_by_texts words given spelled request asks).positions listed in absurd (omega arith)
  given_refuses given spelled cause (twice {name = name} more) = let few = (asks_once words given spelled request asks).options name in absurd (omega (arith, few, more))
  given_refuses given spelled cause (two_layouts two) = let few = (asks_once words given spelled request asks).positions in absurd (omega (arith, few, ap length two))
  given_refuses given spelled cause (of_values is) =
      let asked = asks_for words given spelled request asks in
      no_task (values_of given.options) given.positions cause is request asked request.task asked.task asked.no_other

  pub refuses : (cause : WordsCause) → IsCause words cause → ⊥
  refuses cause (no_words none) =
      let empty : Given = record { options = []; positions = [] } in
      given_refuses empty (all_read words empty (subst (HasRead words empty) none (nothing_read words))) NoLayout (of_values (no_layout refl refl))
  refuses cause (not_spelled stops) = stop_unspelled words cause stops asks.given asks.spelled
  refuses cause (as_given {given = given} _ spelled is) = given_refuses given spelled cause is

-- ---- which of several causes of words is told

module _ (words : List Text) where
  stop_first : (rest : List Text) (cause : WordsCause) → BeginWithNone rest cause → order_of cause ≡ 0
  stop_first rest cause (no_option _ _) = refl
  stop_first rest cause (no_value _) = refl
  stop_first rest cause (dashed_value _ _) = refl

  -- where no words are there
  pub no_words_told : words ≡ [] → IsFirstCause (IsCause words) NoWords
  no_words_told none = record { is = no_words none; first = λ other is. omega arith }

  -- where words are not spelled
  pub stop_told : (refusal : Refusal) → HasCause (StopFor words) refusal → HasCause (IsFirstCause (IsCause words)) refusal
  stop_told (Words cause) stops = let least = stop_first stops.rest cause stops.stop in record { is = not_spelled stops; first = λ other is. omega (arith, least) }
  stop_told Memory stops = tt

  -- where they are
  module _ (some : words ≢ []) (given : Given) (spelled : AreSpelled words given) where
    given_first : (cause : WordsCause) → IsFirstCause (IsCauseIn given) cause → IsFirstCause (IsCause words) cause
    given_first cause told = record { is = as_given some spelled told.is; first = first } where
      first : (other : WordsCause) → IsCause words other → order_of cause ≤ order_of other
      first other (no_words none) = absurd (some none)
      first other (not_spelled stops) = absurd (stop_unspelled words other stops given spelled)
      first other (as_given {given = also} _ spelled_too is) = told.first other (subst (λ (g : Given). IsCauseIn g other) (spellings_agree words also given spelled_too spelled) is)

    pub given_told : (refusal : Refusal) → HasCause (IsFirstCause (IsCauseIn given)) refusal → HasCause (IsFirstCause (IsCause words)) refusal
    given_told (Words cause) told = given_first cause told
    given_told Memory told = tt

    pub values_told : HasNoEmptyText given → AreSingle given
        → (refusal : Refusal) → HasCause (IsFirstCause (IsCauseOf (values_of given.options) given.positions)) refusal → HasCause (IsFirstCause (IsCause words)) refusal
    values_told texts single (Words cause) told = given_first cause (checked given texts single cause told)
    values_told texts single Memory told = tt
