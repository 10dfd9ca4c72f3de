-- how words are read, and that they are read in one way
use Rattle.std.proofs.Common.{ℕ, ◌==◌, List, [], ◌∷◌, ◌++◌, ◌≡◌, ◌≢◌, ◌∙◌, sym, ap, refl, Option, Some, None, Bool, true, false, All, codes, drop, slice_get, append_assoc, if◌then◌else◌}
use Rattle.lists.proofs.Words.{flat_map, list_any, bytes_eq, append-nil, All-head, All-tail}
use Rattle.std.specs.List.{before_first, after_first}
use Rattle.first_refusal.specs.Laws.{IsUnique}
use Rattle.command_line.specs.declared.option_name.OptionName.{OptionName}
use Rattle.command_line.specs.declared.option_name.OptionName.TheVariants.{Map, Top, Tile, Workers, Layer, Datatype, Radius, Generate, Pairs, Probe}
use Rattle.command_line.specs.declared.option_name.OptionName.TheVariants.{Regions}
use Rattle.command_line.specs.OptionNames.{Text, name_of}
use Rattle.command_line.specs.Spelling.{Argument, in_one_word, in_two_words, positional, name_word, whole_word, words_of, IsPlain, IsClearlySpelled, given_of, last_words, AreSpelled}

-- ---- names and words of options

-- the option of a name
abbrev option_named : Text → Option OptionName
option_named text =
    if bytes_eq text (codes "map") then Some Map else (if bytes_eq text (codes "top") then Some Top else (if bytes_eq text (codes "tile") then Some Tile
    else (if bytes_eq text (codes "workers") then Some Workers else (if bytes_eq text (codes "layer") then Some Layer
    else (if bytes_eq text (codes "datatype") then Some Datatype else (if bytes_eq text (codes "radius") then Some Radius else (if bytes_eq text (codes "generate") then Some Generate else (if bytes_eq text (codes "pairs") then Some Pairs
    else (if bytes_eq text (codes "probe") then Some Probe else (if bytes_eq text (codes "regions") then Some Regions else None))))))))))

named : (name : OptionName) → option_named (name_of name) ≡ Some name
named name =
    elim name as (λ n. option_named (name_of n) ≡ Some n) [
      | Map ↦ refl
      | Top ↦ refl
      | Tile ↦ refl
      | Workers ↦ refl
      | Layer ↦ refl
      | Datatype ↦ refl
      | Radius ↦ refl
      | Generate ↦ refl
      | Pairs ↦ refl
      | Probe ↦ refl
      | Regions ↦ refl
    ]

pub same_name : (n m : OptionName) → name_of n ≡ name_of m → n ≡ m
same_name n m e = let s : Some n ≡ Some m = sym (named n) ∙ ap option_named e ∙ named m in cc s

abbrev pub is_equals : ℕ → Bool
is_equals c = c == 61

abbrev pub name_in : Text → Text
name_in word = before_first is_equals (drop 2 word)

abbrev value_in : Text → Text
value_in word = after_first is_equals (drop 2 word)

pub name_is_in : (n : OptionName) (v : Text) → name_in (whole_word n v) ≡ name_of n
name_is_in name v =
    elim name as (λ n. name_in (whole_word n v) ≡ name_of n) [
      | Map ↦ refl
      | Top ↦ refl
      | Tile ↦ refl
      | Workers ↦ refl
      | Layer ↦ refl
      | Datatype ↦ refl
      | Radius ↦ refl
      | Generate ↦ refl
      | Pairs ↦ refl
      | Probe ↦ refl
      | Regions ↦ refl
    ]

value_is_in : (n : OptionName) (v : Text) → value_in (whole_word n v) ≡ v
value_is_in name v =
    elim name as (λ n. value_in (whole_word n v) ≡ v) [
      | Map ↦ refl
      | Top ↦ refl
      | Tile ↦ refl
      | Workers ↦ refl
      | Layer ↦ refl
      | Datatype ↦ refl
      | Radius ↦ refl
      | Generate ↦ refl
      | Pairs ↦ refl
      | Probe ↦ refl
      | Regions ↦ refl
    ]

has_equals : (n : OptionName) (v : Text) → list_any is_equals (whole_word n v) ≡ true
has_equals name v =
    elim name as (λ n. list_any is_equals (whole_word n v) ≡ true) [
      | Map ↦ refl
      | Top ↦ refl
      | Tile ↦ refl
      | Workers ↦ refl
      | Layer ↦ refl
      | Datatype ↦ refl
      | Radius ↦ refl
      | Generate ↦ refl
      | Pairs ↦ refl
      | Probe ↦ refl
      | Regions ↦ refl
    ]

pub has_no_equals : (n : OptionName) → list_any is_equals (name_word n) ≡ false
has_no_equals name =
    elim name as (λ n. list_any is_equals (name_word n) ≡ false) [
      | Map ↦ refl
      | Top ↦ refl
      | Tile ↦ refl
      | Workers ↦ refl
      | Layer ↦ refl
      | Datatype ↦ refl
      | Radius ↦ refl
      | Generate ↦ refl
      | Pairs ↦ refl
      | Probe ↦ refl
      | Regions ↦ refl
    ]

pub no_nameless : (n : OptionName) → name_of n ≡ [] → ⊥
no_nameless n e = let s : Some n ≡ None = sym (named n) ∙ ap option_named e in cc s

-- ---- first words

whole_is : (n m : OptionName) (v w : Text) → whole_word n v ≡ whole_word m w → (n ≡ m) × (v ≡ w)
whole_is n m v w e = (same_name n m (sym (name_is_in n v) ∙ ap name_in e ∙ name_is_in m w), sym (value_is_in n v) ∙ ap value_in e ∙ value_is_in m w)

pub name_word_is : (n m : OptionName) → name_word n ≡ name_word m → n ≡ m
name_word_is n m e = same_name n m (ap (drop 2) e)

pub whole_is_no_name : (n m : OptionName) (v : Text) → whole_word n v ≢ name_word m
whole_is_no_name n m v e = let s : true ≡ false = sym (has_equals n v) ∙ ap (list_any is_equals) e ∙ has_no_equals m in cc s

-- a plain word does not begin with two dashes
pub plain_has_no_dashes : (word rest : Text) → IsPlain word → word ≢ 45 ∷ 45 ∷ rest
plain_has_no_dashes word rest plain e = let dash : 45 ∷ 45 ∷ rest ≡ codes "-" = sym e ∙ plain (ap (λ t. slice_get t 0) e) in cc dash

-- words that begin with one argument begin with no other
pub first_is_one : (a b : Argument) (xs ys : List Text) → IsClearlySpelled a → IsClearlySpelled b → words_of a ++ xs ≡ words_of b ++ ys → (a ≡ b) × (xs ≡ ys)
first_is_one (in_one_word n v) (in_one_word m w) xs ys p q e =
    let word : whole_word n v ≡ whole_word m w = cc e in
    let rest : xs ≡ ys = cc e in
    let same = whole_is n m v w word in
    (cc (same.0, same.1), rest)
first_is_one (in_one_word n v) (in_two_words m w) xs ys p q e = let word : whole_word n v ≡ name_word m = cc e in absurd (whole_is_no_name n m v word)
first_is_one (in_one_word n v) (positional t) xs ys p q e = let word : t ≡ whole_word n v = cc e in absurd (plain_has_no_dashes t _ q word)
first_is_one (in_two_words n v) (in_one_word m w) xs ys p q e = let word : whole_word m w ≡ name_word n = cc e in absurd (whole_is_no_name m n w word)
first_is_one (in_two_words n v) (in_two_words m w) xs ys p q e =
    let word : name_word n ≡ name_word m = cc e in
    let value : v ≡ w = cc e in
    let rest : xs ≡ ys = cc e in
    let same = name_word_is n m word in
    (cc (same, value), rest)
first_is_one (in_two_words n v) (positional t) xs ys p q e = let word : t ≡ name_word n = cc e in absurd (plain_has_no_dashes t _ q word)
first_is_one (positional t) (in_one_word m w) xs ys p q e = let word : t ≡ whole_word m w = cc e in absurd (plain_has_no_dashes t _ p word)
first_is_one (positional t) (in_two_words m w) xs ys p q e = let word : t ≡ name_word m = cc e in absurd (plain_has_no_dashes t _ p word)
first_is_one (positional t) (positional u) xs ys p q e =
    let word : t ≡ u = cc e in
    let rest : xs ≡ ys = cc e in
    (ap positional word, rest)

-- and they are not the last words
no_last : (a : Argument) (xs : List Text) (last : Option (List Text)) → IsClearlySpelled a → words_of a ++ xs ≢ last_words last
no_last (in_one_word n v) xs (Some ws) p e =
    let word : whole_word n v ≡ codes "--" = cc e in
    let s : true ≡ false = sym (has_equals n v) ∙ ap (list_any is_equals) word in cc s
no_last (in_two_words n v) xs (Some ws) p e = let word : name_word n ≡ codes "--" = cc e in no_nameless n (ap (drop 2) word)
no_last (positional t) xs (Some ws) p e = let word : t ≡ codes "--" = cc e in plain_has_no_dashes t [] p word
no_last a xs last p e = cc e

-- ---- whole lists of words

-- what follows some arguments in words that are spelled
pub record Follows (rest : List Text) (read arguments : List Argument) (last : Option (List Text)) : Type 0 where
  pub more : List Argument
  pub arguments_are : arguments ≡ read ++ more
  pub clear : All IsClearlySpelled more
  pub rest_is : rest ≡ flat_map words_of more ++ last_words last

-- words that begin with some arguments begin with no others: the rest is spelled too
pub follow : (read arguments : List Argument) (rest : List Text) (last : Option (List Text)) → All IsClearlySpelled read → All IsClearlySpelled arguments
    → flat_map words_of read ++ rest ≡ flat_map words_of arguments ++ last_words last → Follows rest read arguments last
follow [] arguments rest last p q e = record { more = arguments; arguments_are = refl; clear = q; rest_is = e }
follow (a ∷ others) [] rest last p q e =
    absurd (no_last a (flat_map words_of others ++ rest) last (All-head IsClearlySpelled a others p) (sym (append_assoc (words_of a) (flat_map words_of others) rest) ∙ e))
follow (a ∷ others) (b ∷ bs) rest last p q e =
    let first = first_is_one a b (flat_map words_of others ++ rest) (flat_map words_of bs ++ last_words last) (All-head IsClearlySpelled a others p) (All-head IsClearlySpelled b bs q)
    (sym (append_assoc (words_of a) (flat_map words_of others) rest) ∙ e ∙ append_assoc (words_of b) (flat_map words_of bs) (last_words last)) in
    let next = follow others bs rest last (All-tail IsClearlySpelled a others p) (All-tail IsClearlySpelled b bs q) first.1 in
    record {
      more = next.more;
      arguments_are = let same : a ≡ b = first.0 in let tail : bs ≡ others ++ next.more = next.arguments_are in cc (same, tail);
      clear = next.clear;
      rest_is = next.rest_is;
    }

same_last : (last other : Option (List Text)) → last_words last ≡ last_words other → last ≡ other
same_last None None e = refl
same_last (Some vs) (Some ws) e = let same : vs ≡ ws = cc e in ap Some same
same_last last other e = cc e

-- words that are spelled in two ways are spelled in one
same_reading : (a b : List Argument) (last other : Option (List Text)) → Follows (last_words last) a b other → (b ≡ a) × (last ≡ other)
same_reading a b last other f = go f.more f.arguments_are f.clear f.rest_is where
  go : (more : List Argument) → b ≡ a ++ more → All IsClearlySpelled more → last_words last ≡ flat_map words_of more ++ last_words other → (b ≡ a) × (last ≡ other)
  go [] e clear r = (e ∙ append-nil a, same_last last other r)
  go (m ∷ ms) e clear r =
      absurd (no_last m (flat_map words_of ms ++ last_words other) last (All-head IsClearlySpelled m ms clear) (sym (append_assoc (words_of m) (flat_map words_of ms) (last_words other)) ∙ sym r))

pub spellings_agree : (words : List Text) → IsUnique (AreSpelled words)
spellings_agree words one other s t =
    let same = same_reading s.arguments t.arguments s.last t.last (follow s.arguments t.arguments (last_words s.last) t.last s.clear t.clear (sym s.words_are ∙ t.words_are)) in
    s.given_is ∙ ap (λ a. given_of a s.last) (sym same.0) ∙ ap (given_of t.arguments) same.1 ∙ sym t.given_is
