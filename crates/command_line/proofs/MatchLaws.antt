-- what `clap` makes of the one form
use Rattle.std.proofs.Common.{ℕ, suc, ◌+◌, ◌<◌, ◌≤◌, List, [], ◌∷◌, ◌++◌, ◌≡◌, ◌∙◌, sym, ap, ap₂, refl, arith, Some, None, Bool, true, false, ◌&&◌, ◌||◌, codes, length, take, get_or, map, fold, append_assoc, if◌then◌else◌, filter, option_to_list, is_some, find, subst, length-append, option_and_then, slice_get}
use Rattle.lists.proofs.Words.{append-nil, map-append, filter-append, list_all, bytes_eq, bytes_eq-Decides}
use Rattle.std.proofs.lemmas.List.Sums.{fold_more}
use Rattle.clap.specs.Walk.{Row, Walk, walk, walked, walk_from, with_values, with_default, default_rows, without, at_row, has_row, more_values, nothing_held, finished, reading_by}
use Rattle.clap.specs.Simple.{Shape, built, entered, is_simple}
use Rattle.clap.specs.Takes.{default_passes, entered_passes, is_valid, settle_passes, turn_passes, walk_passes}
use Rattle.clap.specs.Words.{App, Rule, first_of, found_of, matches_of, rows_of, takes, with_rule}
use Rattle.clap.proofs.WalkLemmas.{first_value-rows}
use Rattle.clap.specs.declared.parser.matches.ArgMatches.{ArgMatches}
use Rattle.clap.specs.declared.builder.value_parser.Reading.TheVariants.{AsWritten}
use Rattle.clap.specs.declared.parser.matches.ValueSource.TheVariants.{CommandLine}
use Rattle.clap.proofs.OnLiterals.{clap_on_literals}
use Rattle.command_line.specs.declared.option_name.OptionName.{OptionName}
use Rattle.command_line.specs.declared.option_name.OptionName.TheVariants.{Map, Top, Tile, Workers, Layer, Datatype, Radius, Generate, Pairs, Probe}
use Rattle.command_line.specs.declared.option_name.OptionName.TheVariants.{Regions}
use Rattle.command_line.specs.OptionNames.{Text, name_of}
use Rattle.command_line.specs.Requests.{values_of}
use Rattle.command_line.specs.Spelling.{Given, whole_word}
use Rattle.command_line.specs.inside.Arguments.{AreSingle, one_form, position_words, words_of_options}
use Rattle.command_line.specs.inside.Command.{HasWhatIsGiven, whole_command, command_without_options, rule_of_option, with_options}

-- a command with one option more
pub one_option_more : (options : List OptionName) (i : ℕ) (d : OptionName) (old new : App) (rule : Rule) → i < length options → old ≡ with_options (take i options)
    → rule ≡ rule_of_option (get_or options i d) → new ≡ with_rule old rule → new ≡ with_options (take (i + 1) options)
one_option_more options i d old new rule within before is made =
    made ∙ ap₂ with_rule before is ∙ sym (fold_more (λ a name. with_rule a (rule_of_option name)) command_without_options options i d within)

abbrev Options : Type 0
Options = List (OptionName × Text)

-- ---- rows of matches

-- the row of a text
abbrev row : Text → Text → Row
row id value = record { id = id; values = value ∷ []; count = None; source = Some CommandLine; reading = AsWritten }

-- the rows of options
abbrev rows_of_options : Options → List Row
rows_of_options = map (λ option. row (name_of option.0) option.1)

-- what is put where no row has this name comes last
put_last : (id : Text) (change : Row → List Row) (missing rows : List Row) → has_row id rows ≡ false → at_row id change missing rows ≡ rows ++ missing
put_last id change missing [] h = refl
put_last id change missing (r ∷ rs) h = go (bytes_eq r.id id) h (put_last id change missing rs) where
  go : (b : Bool) → (b || has_row id rs) ≡ false → (has_row id rs ≡ false → at_row id change missing rs ≡ rs ++ missing)
      → (if b then change r ++ rs else r ∷ at_row id change missing rs) ≡ (r ∷ rs) ++ missing
  go true e _ = cc
  go false e ih = ap (λ t. r ∷ t) (ih e)

-- a new row comes last
new_row : (id value : Text) (rows : List Row) → has_row id rows ≡ false → with_values id AsWritten CommandLine (value ∷ []) (without id rows) ≡ rows ++ row id value ∷ []
new_row id value rows h =
    let same : without id rows ≡ rows = put_last id (λ _. []) [] rows h ∙ append-nil rows in
    rw same (put_last id (more_values CommandLine (value ∷ [])) (row id value ∷ []) rows h)

-- ---- one word of the walk

-- the walk between two words, with these rows
abbrev walk_with : List Row → Walk
walk_with rows = walk_from (record nothing_held { rows = rows })

-- the arguments of the command, built
abbrev top : Shape
top = (built whole_command).top

abbrev rules : List Rule
rules = top.rules

met : (name : OptionName) (value : Text) (rows : List Row) → walked rules [] (walk_with rows) (whole_word name value) ≡ walk_with
    (with_values (name_of name) AsWritten CommandLine (value ∷ []) (without (name_of name) rows))
unfolding clap_on_literals
met name value rows =
    elim name as (λ n. walked rules [] (walk_with rows) (whole_word n value) ≡ walk_with
    (with_values (name_of n) AsWritten CommandLine (value ∷ []) (without (name_of n) rows))) [
      | Map ↦ refl
      | Top ↦ refl
      | Tile ↦ refl
      | Workers ↦ refl
      | Layer ↦ refl
      | Datatype ↦ refl
      | Radius ↦ refl
      | Generate ↦ refl
      | Pairs ↦ refl
      | Probe ↦ refl
      | Regions ↦ refl
    ]

passes : (name : OptionName) (value : Text) (rows : List Row) → has_row (name_of name) rows ≡ false → turn_passes top [] (walk_with rows) (whole_word name value) ≡ true
unfolding clap_on_literals
passes Map value rows h = rw h refl
passes other value rows h = rw h refl

-- ---- an option that is given once

bytes_eq-same : (text : Text) → bytes_eq text text ≡ true
bytes_eq-same text = (bytes_eq-Decides text text).1 refl

-- an option that is not given has no row
no_row : (done : Options) (name : OptionName) → length (values_of done name) ≡ 0 → has_row (name_of name) (rows_of_options done) ≡ false
no_row [] name h = refl
no_row (o ∷ os) name h = go (bytes_eq (name_of o.0) (name_of name)) h (no_row os name) where
  go : (b : Bool) → length (map (λ option. option.1) (if b then o ∷ filter (λ option. bytes_eq (name_of option.0) (name_of name)) os else filter (λ option. bytes_eq (name_of option.0) (name_of name))
      os)) ≡ 0 → (length (values_of os name) ≡ 0 → has_row (name_of name) (rows_of_options os) ≡ false) → (b || has_row (name_of name) (rows_of_options os)) ≡ false
  go true e _ = cc
  go false e ih = ih e

-- ---- the words of options

-- what an option is given, among options of which it is one
given_among : (done : Options) (name : OptionName) (value : Text) (rest : Options) → values_of (done ++ (name, value) ∷ rest) name ≡ values_of done name ++ value ∷ values_of rest name
given_among done name value rest =
    let is_name : OptionName × Text → Bool = λ option. bytes_eq (name_of option.0) (name_of name) in
    let here : filter is_name ((name, value) ∷ rest) ≡ (name, value) ∷ filter is_name rest = rw (bytes_eq-same (name_of name)) refl in
    ap (map (λ option. option.1)) (filter-append is_name done ((name, value) ∷ rest) ∙ ap (λ t. filter is_name done ++ t) here)
    ∙ map-append (λ option. option.1) (filter is_name done) ((name, value) ∷ filter is_name rest)

-- an option that is given once at most is not given before
not_before : (done : Options) (name : OptionName) (value : Text) (rest : Options) → length (values_of (done ++ (name, value) ∷ rest) name) ≤ 1 → has_row (name_of name) (rows_of_options done) ≡ false
not_before done name value rest h =
    no_row done name (omega (arith, ap length (given_among done name value rest), length-append (values_of done name) (value ∷ values_of rest name)))

-- each option is given once at most
abbrev AreOnce : Options → Type 0
AreOnce options = (name : OptionName) → length (values_of options name) ≤ 1

-- an option that is given for the first time gives a row
one_step : (done : Options) (o : OptionName × Text) (rest : Options) → AreOnce (done ++ o ∷ rest)
    → walked rules [] (walk_with (rows_of_options done)) (whole_word o.0 o.1) ≡ walk_with (rows_of_options (done ++ o ∷ []))
one_step done o rest once =
    met o.0 o.1 (rows_of_options done) ∙ ap walk_with (new_row (name_of o.0) o.1 (rows_of_options done) (not_before done o.0 o.1 rest (once o.0))
    ∙ sym (map-append (λ option. row (name_of option.0) option.1) done (o ∷ [])))

step_passes : (done : Options) (o : OptionName × Text) (rest : Options) → AreOnce (done ++ o ∷ rest) → turn_passes top [] (walk_with (rows_of_options done)) (whole_word o.0 o.1) ≡ true
step_passes done o rest once = passes o.0 o.1 (rows_of_options done) (not_before done o.0 o.1 rest (once o.0))

-- a word that passes is passed over
one_passes : (s : Shape) (w next : Walk) (word : Text) (rest : List Text) → turn_passes s [] w word ≡ true → walked s.rules [] w word ≡ next
    → walk_passes s [] w (word ∷ rest) ≡ walk_passes s [] next rest
unfolding walk_passes
one_passes s w next word rest h e = rw (h, e) refl

-- what each word of an option takes from the walk, all words of options do: there is a row for each
over_options : {X : Type 0} (after : Walk → List Text → X) → ((w next : Walk) (word : Text) (rest : List Text) → turn_passes top [] w word ≡ true → walked rules [] w word ≡ next
    → after w (word ∷ rest) ≡ after next rest) → (done options : Options) (rest : List Text) → AreOnce (done ++ options)
    → after (walk_with (rows_of_options done)) (words_of_options options ++ rest) ≡ after (walk_with (rows_of_options (done ++ options))) rest
over_options after step done [] rest once = ap (λ d. after (walk_with (rows_of_options d)) rest) (sym (append-nil done))
over_options after step done (o ∷ os) rest once =
    let more : (done ++ o ∷ []) ++ os ≡ done ++ o ∷ os = append_assoc done (o ∷ []) os in
    step (walk_with (rows_of_options done)) (walk_with (rows_of_options (done ++ o ∷ []))) (whole_word o.0 o.1) (words_of_options os ++ rest) (step_passes done o os once) (one_step done o os once)
    ∙ over_options after step (done ++ o ∷ []) os rest (subst AreOnce (sym more) once) ∙ ap (λ d. after (walk_with (rows_of_options d)) rest) more

-- ---- the end of the walk

not_layout : (name : OptionName) → bytes_eq (name_of name) (codes "layout") ≡ false
not_layout name =
    elim name as (λ n. bytes_eq (name_of n) (codes "layout") ≡ false) [
      | Map ↦ refl
      | Top ↦ refl
      | Tile ↦ refl
      | Workers ↦ refl
      | Layer ↦ refl
      | Datatype ↦ refl
      | Radius ↦ refl
      | Generate ↦ refl
      | Pairs ↦ refl
      | Probe ↦ refl
      | Regions ↦ refl
    ]

-- no option has the row of the positional word
no_layout : (options : Options) → has_row (codes "layout") (rows_of_options options) ≡ false
no_layout [] = refl
no_layout (o ∷ os) = rw (not_layout o.0) (no_layout os)

-- an argument with no defaults adds no row at the end
no_default : (a : Rule) (rows : List Row) → a.defaults ≡ [] → with_default rows a ≡ rows
no_default a rows e = go (has_row a.id rows) where
  go : (b : Bool) → (if b then rows else default_rows a.id (reading_by a) a.defaults rows) ≡ rows
  go true = refl
  go false = rw e refl

abbrev HaveNoDefaults : List Rule → Type 0
HaveNoDefaults [] = Unit {0}
HaveNoDefaults (a ∷ others) = (a.defaults ≡ []) × HaveNoDefaults others

no_defaults : (arguments : List Rule) (rows : List Row) → HaveNoDefaults arguments → fold with_default rows arguments ≡ rows
no_defaults [] rows none = refl
no_defaults (a ∷ others) rows none = ap (λ r. fold with_default r others) (no_default a rows none.0) ∙ no_defaults others rows none.1

-- the row of the positional word, if there is one
abbrev layout_rows : List Text → List Row
layout_rows [] = []
layout_rows (word ∷ words) = row (codes "layout") word ∷ []

-- the walk ends without a subcommand and with these rows
pub record EndsWith (w : Walk) (rows : List Row) : Type 0 where
  pub stopped : w.stopped ≡ None
  pub settles : settle_passes rules false w.held ≡ true
  pub finished_rows : finished rules w.held ≡ rows

rules_have_no_defaults : HaveNoDefaults rules
rules_have_no_defaults = (refl, (refl, (refl, (refl, (refl, (refl, (refl, (refl, (refl, (refl, (refl, (refl, (refl, tt)))))))))))))

module _ (rows : List Row) (fresh : has_row (codes "layout") rows ≡ false) where
  ends : (positions : List Text) → length positions ≤ 1 → EndsWith (fold (walked rules []) (walk_with rows) (position_words positions)) (rows ++ layout_rows positions)
  unfolding clap_on_literals
  ends [] few = record {
    stopped = refl;
    settles = refl;
    finished_rows = no_defaults rules rows rules_have_no_defaults ∙ sym (append-nil rows);
  }
  ends (word ∷ []) few = record {
    stopped = refl;
    settles = rw fresh refl;
    finished_rows = no_defaults rules _ rules_have_no_defaults ∙ new_row (codes "layout") word rows fresh;
  }
  ends (word ∷ other ∷ more) few = absurd (omega arith)

  passes_end : (positions : List Text) → length positions ≤ 1 → walk_passes top [] (walk_with rows) (position_words positions) ≡ true
  unfolding clap_on_literals
  passes_end [] few = refl
  passes_end (word ∷ []) few = refl
  passes_end (word ∷ other ∷ more) few = absurd (omega arith)

-- ---- what is given

-- the walk over the one form ends with a row for each option and for the positional word
walk_ends : (given : Given) → AreSingle given → EndsWith (walk rules [] nothing_held (one_form given)) (rows_of_options given.options ++ layout_rows given.positions)
walk_ends given single =
    let rows = rows_of_options given.options in
    let over : fold (walked rules []) (walk_with []) (one_form given) ≡ fold (walked rules []) (walk_with rows) (position_words given.positions) =
    over_options (fold (walked rules [])) (λ w next word rest passed is. ap (λ v. fold (walked rules []) v rest) is) [] given.options (position_words given.positions) single.options in
    subst (λ (w : Walk). EndsWith w (rows ++ layout_rows given.positions)) (sym over) (ends rows (no_layout given.options) given.positions single.positions)

all_pass : (given : Given) → AreSingle given → walk_passes top [] (walk_with []) (one_form given) ≡ true
all_pass given single =
    over_options (walk_passes top []) (one_passes top) [] given.options (position_words given.positions) single.options
    ∙ passes_end (rows_of_options given.options) (no_layout given.options) given.positions single.positions

pub simple : is_simple whole_command ≡ true
simple = refl

-- the matches of the one form
pub matches : (given : Given) → AreSingle given → matches_of whole_command (one_form given) ≡ rows_of_options given.options ++ layout_rows given.positions
matches given single = (walk_ends given single).finished_rows

-- a parse passes by how its walk ends
abbrev pass_with : Walk → Bool → Bool
pass_with w each =
    let command = built whole_command in
    entered_passes command w.stopped && (each && (settle_passes rules false w.held && (list_all default_passes rules && is_valid top (finished rules w.held) (is_some (entered command w.stopped)))))

passes_with : (w : Walk) (rows : List Row) → EndsWith w rows → pass_with w true ≡ true
passes_with w rows e = rw (e.stopped, e.settles) refl

-- the one form is taken, so that a parse of it can only be out of memory
pub taken : (given : Given) → AreSingle given → takes whole_command (one_form given) ≡ true
taken given single =
    let w = walk rules [] nothing_held (one_form given) in
    ap (pass_with w) (all_pass given single) ∙ passes_with w _ (walk_ends given single)

not_option : (name : OptionName) → bytes_eq (codes "layout") (name_of name) ≡ false
not_option name =
    elim name as (λ n. bytes_eq (codes "layout") (name_of n) ≡ false) [
      | Map ↦ refl
      | Top ↦ refl
      | Tile ↦ refl
      | Workers ↦ refl
      | Layer ↦ refl
      | Datatype ↦ refl
      | Radius ↦ refl
      | Generate ↦ refl
      | Pairs ↦ refl
      | Probe ↦ refl
      | Regions ↦ refl
    ]

-- the texts that the matches have under this id: one or none
abbrev found : Text → List Row → List Text
found id rows = option_to_list (first_of id rows)

-- the positional word is found under no name of an option
no_value : (name : OptionName) (positions : List Text) → found (name_of name) (layout_rows positions) ≡ []
no_value name [] = refl
no_value name (word ∷ words) = rw (not_option name) refl

no_more : (texts : List Text) → suc (length texts) ≤ 1 → texts ≡ []
no_more [] few = refl
no_more (text ∷ texts) few = absurd (omega arith)

-- under the name of an option its value is found
value_found : (name : OptionName) (options : Options) (positions : List Text) → length (values_of options name) ≤ 1
    → found (name_of name) (rows_of_options options ++ layout_rows positions) ≡ values_of options name
value_found name [] positions few = no_value name positions
value_found name (o ∷ os) positions few = go (bytes_eq (name_of o.0) (name_of name)) few (value_found name os positions) where
  rest : List Row
  rest = rows_of_options os ++ layout_rows positions

  others : Options
  others = filter (λ option. bytes_eq (name_of option.0) (name_of name)) os

  go : (b : Bool) → length (map (λ option. option.1) (if b then o ∷ others else others)) ≤ 1 → (length (values_of os name) ≤ 1 → found (name_of name) rest ≡ values_of os name)
      → option_to_list (option_and_then (λ r. slice_get r.values 0) (if b then Some (row (name_of o.0) o.1) else find (λ r. bytes_eq r.id (name_of name)) rest)) ≡ map (λ option. option.1)
      (if b then o ∷ others else others)
  go true few _ = ap (λ t. o.1 ∷ t) (sym (no_more (map (λ option. option.1) others) few))
  go false few ih = ih few

-- under the id of the positional word it is found
layout_found : (options : Options) (positions : List Text) → length positions ≤ 1 → found (codes "layout") (rows_of_options options ++ layout_rows positions) ≡ positions
layout_found [] [] few = refl
layout_found [] (word ∷ []) few = refl
layout_found [] (word ∷ other ∷ more) few = absurd (omega arith)
layout_found (o ∷ os) positions few = rw (not_layout o.0) (layout_found os positions few)

-- matches with these rows have what is given
pub have : (m : ArgMatches) (given : Given) → AreSingle given → rows_of (found_of m) ≡ matches_of whole_command (one_form given) → HasWhatIsGiven given m
have m given single e = record {
  values = λ name. ap option_to_list (first_value-rows (found_of m) (name_of name)) ∙ ap (found (name_of name)) (e ∙ matches given single)
      ∙ value_found name given.options given.positions (single.options name);
  positions = ap option_to_list (first_value-rows (found_of m) (codes "layout")) ∙ ap (found (codes "layout")) (e ∙ matches given single) ∙ layout_found given.options given.positions single.positions;
}
