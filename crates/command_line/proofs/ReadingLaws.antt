-- what readers of texts and of words answer
use Rattle.std.proofs.Common.{Bor, List, [], ◌∷◌, ◌++◌, ◌≡◌, ◌≢◌, ◌∙◌, sym, ap, refl, arith, Option, Some, None, subst, true, codes, append_assoc, length, ◌<◌}
use Rattle.lists.proofs.Words.{flat_map, bytes_eq, bytes_eq-Decides, append-nil, All-append, All-cons, All-nil, flat_map-append}
use Rattle.command_line.specs.declared.argument.ReadArgument.{ReadArgument}
use Rattle.command_line.specs.declared.argument.ReadArgument.TheVariants.{Setting, Position}
use Rattle.command_line.specs.declared.cause.WordsCause.{WordsCause}
use Rattle.command_line.specs.declared.cause.WordsCause.TheVariants.{NoOption, NoValue, DashedValue}
use Rattle.command_line.specs.declared.option_name.OptionName.{OptionName}
use Rattle.command_line.specs.inside.Arguments.{AreLast, BeginWith, HasRead, option_word, options_read, positions_read}
use Rattle.command_line.specs.OptionNames.{Text}
use Rattle.command_line.specs.Spelling.{Argument, in_one_word, in_two_words, positional, name_word, whole_word, words_of, IsPlain, IsClearlySpelled, Given, AreSpelled, options_in}
use Rattle.command_line.specs.Spelling.{positions_in}
use Rattle.command_line.specs.WordsCauses.{BeginWithNone, no_option, no_value, dashed_value, IsNoOption, StopFor}

-- ---- the first argument of words

pub position_first : (words rest : List Text) (word : Bor Text) → words ≡ word.now ∷ rest → IsPlain word.now → BeginWith words (Position word) rest
position_first words rest word e plain = record { argument = positional word.now; words_are = e; clear = plain; options = refl; positions = refl }

pub whole_first : (words rest : List Text) (word : Text) (name : OptionName) (value : Bor Text) → words ≡ word ∷ rest → word ≡ whole_word name value.now → BeginWith words (Setting name value) rest
whole_first words rest word name value e is = record { argument = in_one_word name value.now; words_are = e ∙ ap (λ w. w ∷ rest) is; clear = tt; options = refl; positions = refl }

pub name_first : (words rest more : List Text) (word : Text) (name : OptionName) (value : Bor Text) → words ≡ word ∷ rest → rest ≡ value.now ∷ more → word ≡ name_word name → IsPlain value.now
    → BeginWith words (Setting name value) more
name_first words rest more word name value e next is plain = record {
  argument = in_two_words name value.now;
  words_are = e ∙ ap (λ w. w ∷ rest) is ∙ ap (λ r. name_word name ∷ r) next;
  clear = plain;
  options = refl;
  positions = refl;
}

-- the words after the first argument are fewer
pub fewer : (words rest : List Text) (read : ReadArgument) → BeginWith words read rest → length rest < length words
fewer words rest read first = go first.argument first.words_are where
  go : (a : Argument) → words ≡ words_of a ++ rest → length rest < length words
  go (in_one_word n v) e = omega (arith, ap length e)
  go other e = omega (arith, ap length e)

-- the two dashes behind all arguments
pub dashes_are_last : (words rest : List Text) (word : Text) → words ≡ word ∷ rest → true ≡ bytes_eq word (codes "--") → AreLast words
dashes_are_last words rest word e is = (Some rest, e ∙ ap (λ w. w ∷ rest) ((bytes_eq-Decides word (codes "--")).0 (sym is)))

pub no_option_first : (words rest : List Text) (word told : Text) → words ≡ word ∷ rest → (IsPlain word → ⊥) → word ≢ codes "--"
    → ((name : OptionName) (value : Option Text) → word ≢ option_word name value) → told ≡ word → BeginWithNone words (NoOption told)
no_option_first words rest word told e not_plain not_dashes none same =
    let no : IsNoOption word = record {
      not_plain = not_plain;
      not_last = not_dashes;
      no_name = λ name. none name None;
      no_setting = λ name value. none name (Some value);
    } in
    subst (λ t. BeginWithNone words (NoOption t)) (sym same) (no_option e no)

pub no_value_first : (words rest : List Text) (word : Text) (name : OptionName) → words ≡ word ∷ rest → length rest ≡ 0 → word ≡ name_word name → BeginWithNone words (NoValue name)
no_value_first words [] word name e none is = no_value (e ∙ ap (λ w. w ∷ []) is)
no_value_first words (value ∷ more) word name e none is = absurd (omega arith)

pub dashed_first : (words rest more : List Text) (word value told : Text) (name : OptionName) → words ≡ word ∷ rest → rest ≡ value ∷ more → word ≡ name_word name → (IsPlain value → ⊥) → told ≡ value
    → BeginWithNone words (DashedValue name told)
dashed_first words rest more word value told name e next is dashed same =
    subst (λ t. BeginWithNone words (DashedValue name t)) (sym same) (dashed_value (e ∙ ap (λ w. w ∷ rest) is ∙ ap (λ r. name_word name ∷ r) next) dashed)

-- ---- arguments one after the other

pub nothing_read : (words : List Text) → HasRead words (record { options = []; positions = [] }) words
nothing_read words = record { arguments = []; words_are = refl; clear = All-nil IsClearlySpelled; options = refl; positions = refl }

flat_map-last : {A : Type 0} (f : Argument → List A) (xs : List Argument) (x : Argument) → flat_map f (xs ++ x ∷ []) ≡ flat_map f xs ++ f x
flat_map-last f xs x = flat_map-append f xs (x ∷ []) ∙ ap (λ t. flat_map f xs ++ t) (append-nil (f x))

-- one argument more
pub argument_read : (words rest after : List Text) (given next : Given) (this : Argument) → HasRead words given rest → rest ≡ words_of this ++ after → IsClearlySpelled this
    → next.options ≡ given.options ++ options_in this → next.positions ≡ given.positions ++ positions_in this → HasRead words next after
argument_read words rest after given next this so_far is clear options positions =
    let before = so_far.arguments in
    record {
      arguments = before ++ this ∷ [];
      words_are = so_far.words_are ∙ ap (λ r. flat_map words_of before ++ r) is ∙ sym (append_assoc (flat_map words_of before) (words_of this) after)
          ∙ ap (λ t. t ++ after) (sym (flat_map-last words_of before this));
      clear = All-append IsClearlySpelled before (this ∷ []) so_far.clear (All-cons IsClearlySpelled this [] clear (All-nil IsClearlySpelled));
      options = options ∙ ap (λ o. o ++ options_in this) so_far.options ∙ sym (flat_map-last options_in before this);
      positions = positions ∙ ap (λ p. p ++ positions_in this) so_far.positions ∙ sym (flat_map-last positions_in before this);
    }

pub one_more_read : (words rest after : List Text) (given next : Given) (read : ReadArgument) → HasRead words given rest → BeginWith rest read after
    → next ≡ record { options = given.options ++ options_read read; positions = given.positions ++ positions_read read } → HasRead words next after
one_more_read words rest after given next read so_far first e =
    argument_read words rest after given next first.argument so_far first.words_are first.clear
    (ap (λ (g : Given). g.options) e ∙ ap (λ o. given.options ++ o) first.options) (ap (λ (g : Given). g.positions) e ∙ ap (λ p. given.positions ++ p) first.positions)

same_given : (given : Given) (options : List (OptionName × Text)) (positions : List Text) → given.options ≡ options → given.positions ≡ positions
    → given ≡ record { options = options; positions = positions }
same_given given options positions p q = let made : List (OptionName × Text) → List Text → Given = λ o w. record { options = o; positions = w } in ap (λ o. made o given.positions) p
    ∙ ap (made options) q

pub all_read : (words : List Text) (given : Given) → HasRead words given [] → AreSpelled words given
all_read words given read = record {
  arguments = read.arguments;
  last = None;
  words_are = read.words_are;
  clear = read.clear;
  given_is = same_given given (flat_map options_in read.arguments) (flat_map positions_in read.arguments ++ []) read.options (read.positions ∙ sym (append-nil (flat_map positions_in read.arguments)));
}

pub last_read : (words rest positions : List Text) (given whole : Given) → HasRead words given rest → rest ≡ codes "--" ∷ positions
    → whole ≡ record { options = given.options; positions = given.positions ++ positions } → AreSpelled words whole
last_read words rest positions given whole read e is = record {
  arguments = read.arguments;
  last = Some positions;
  words_are = read.words_are ∙ ap (λ r. flat_map words_of read.arguments ++ r) e;
  clear = read.clear;
  given_is = is ∙ cc (read.options, read.positions);
}

-- words that begin with none stop there
pub stop_for : (words rest : List Text) (given : Given) (cause : WordsCause) → HasRead words given rest → BeginWithNone rest cause → StopFor words cause
stop_for words rest given cause read none = record { arguments = read.arguments; clear = read.clear; rest = rest; words_are = read.words_are; stop = none }

-- the last words where there are none, and where there are some
pub nothing_last : (words rest : List Text) (given : Given) → HasRead words given rest → length rest ≡ 0 → AreSpelled words given
nothing_last words [] given read e = all_read words given read
nothing_last words (word ∷ rest) given read e = absurd (omega arith)

pub dashes_last : (words rest more : List Text) (word : Text) (given whole : Given) → HasRead words given rest → AreLast rest → rest ≡ word ∷ more
    → whole ≡ record { options = given.options; positions = given.positions ++ more } → AreSpelled words whole
dashes_last words rest more word given whole read (None, none) e is = let s = sym none ∙ e in cc s
dashes_last words rest more word given whole read (Some positions, last) e is =
    let same : positions ≡ more = let s = sym last ∙ e in cc s in
    last_read words rest positions given whole read last (is ∙ ap (λ p. record { options = given.options; positions = given.positions ++ p }) (sym same))
