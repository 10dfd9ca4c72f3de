-- what is checked of arguments
use Rattle.std.proofs.Common.{Bor, ℕ, ◌<◌, ◌≤◌, ◌==◌, List, [], ◌∷◌, ◌≡◌, ◌≢◌, ◌∙◌, sym, ap, refl, arith, Bool, true, false, All, Contains, length, map, filter, count_by, get_or, inl, inr, ◌+◌, cond, subst, take, take_all}
use Rattle.lists.proofs.Words.{length-map, eqb_tells, sum_by_more, bytes_eq, All-map, All-more, Contains-get_or, get_or-map}
use Rattle.std.proofs.lemmas.List.Sums.{length-filter}
use Rattle.std.proofs.lemmas.List.Folds.{fold-map}
use Rattle.command_line.specs.declared.option_name.OptionName.{OptionName}
use Rattle.command_line.specs.declared.option_name.OptionName.TheVariants.{Map, Top, Tile, Workers, Layer, Datatype, Radius, Generate, Pairs, Probe}
use Rattle.command_line.specs.declared.option_name.OptionName.TheVariants.{Regions}
use Rattle.command_line.specs.declared.option_name.TheConstants.{OPTIONS}
use Rattle.command_line.specs.OptionNames.{Text, name_of}
use Rattle.command_line.specs.Requests.{IsNotEmpty, values_of}

-- ---- no text is empty

no_length : {A : Type 0} (xs : List A) → length xs ≡ 0 → xs ≡ []
no_length [] e = refl
no_length (c ∷ cs) e = absurd (omega arith)

-- a text is empty or not, as a list of any kind
pub is_empty : {A : Type 0} (text : List A) → (length text == 0) ≡ true → text ≡ []
is_empty text e = elim (eqb_tells (length text) 0) [
  | inl p ↦ no_length text p.1
  | inr p ↦ let s : true ≡ false = sym e ∙ p.0 in cc s
]

pub is_no_empty : {A : Type 0} (text : List A) → (length text == 0) ≡ false → text ≢ []
is_no_empty {A} text e none = let s : false ≡ true = sym e ∙ ap (λ (xs : List A). length xs == 0) none in cc s

is_not_empty : (text : Text) → (length text == 0) ≡ false → IsNotEmpty text
is_not_empty text e = elim (eqb_tells (length text) 0) [
  | inl p ↦ let s : true ≡ false = sym p.0 ∙ e in cc s
  | inr p ↦ omega arith
]

-- options and positional words as they lie in memory
abbrev Found : Type 0
Found = List (OptionName × Bor Text)

abbrev view : OptionName × Bor Text → OptionName × Text
view option = (option.0, option.1.now)

-- an empty positional word, and none
module _ (words items : List (Bor Text)) (same : items ≡ words) (i : ℕ) where
  pub empty_word : (d : Bor Text) → i < length items → (length (get_or items i d).now == 0) ≡ true → Contains (map (λ word. word.now) words) []
  empty_word d within e =
      subst (λ (ws : List (Bor Text)). Contains (map (λ word. word.now) ws) []) same
      (subst (Contains (map (λ word. word.now) items)) (get_or-map (λ (word : Bor Text). word.now) items i d d.now within ∙ is_empty (get_or items i d).now e)
      (Contains-get_or (map (λ word. word.now) items) i d.now (omega (arith, within, length-map items (λ (word : Bor Text). word.now)))))

  pub one_more_full : (d : Bor Text) → i < length items → (length (get_or items i d).now == 0) ≡ false → All (λ word. IsNotEmpty word.now) (take i words)
      → All (λ word. IsNotEmpty word.now) (take (i + 1) words)
  one_more_full d within e full =
      let this : IsNotEmpty (get_or words i d).now = subst (λ (ws : List (Bor Text)). IsNotEmpty (get_or ws i d).now) same (is_not_empty (get_or items i d).now e) in
      All-more (λ word. IsNotEmpty word.now) words i d (omega (arith, ap length same, within)) full this

  pub all_words_full : length items ≤ i → All (λ word. IsNotEmpty word.now) (take i words) → All IsNotEmpty (map (λ word. word.now) words)
  all_words_full past full =
      let past_them : length words ≤ i = omega (arith, ap length same, past) in
      All-map IsNotEmpty (λ word. word.now) words (subst (All (λ word. IsNotEmpty word.now)) (take_all i words past_them) full)

-- the first two of some positional words
pub two_named : (slice words : List (Bor Text)) (d e : Bor Text) (one other : Text) → slice ≡ words → 2 ≤ length slice → one ≡ (get_or slice 0 d).now → other ≡ (get_or slice 1 e).now
    → (more : List Text) × (map (λ word. word.now) words ≡ one ∷ other ∷ more)
two_named [] words d e one other same two is_one is_other = absurd (omega arith)
two_named (v ∷ []) words d e one other same two is_one is_other = absurd (omega arith)
two_named (v ∷ w ∷ ws) words d e one other same two is_one is_other =
    (map (λ word. word.now) ws, ap (map (λ (word : Bor Text). word.now)) (sym same) ∙ cc (is_one, is_other))

pub few_named : (slice words : List (Bor Text)) → slice ≡ words → length slice < 2 → length (map (λ word. word.now) words) ≤ 1
few_named slice words same few = omega (arith, ap length same, few, length-map words (λ (word : Bor Text). word.now))

-- ---- each option is given once at most

-- how often an option is given is the number of its values
pub counted : (options : Found) (name : OptionName) → count_by (λ option. bytes_eq (name_of option.0) (name_of name)) options ≡ length (values_of (map view options) name)
counted options name =
    let is_name : OptionName × Text → Bool = λ option. bytes_eq (name_of option.0) (name_of name) in
    sym (length-map (filter is_name (map view options)) (λ option. option.1) ∙ length-filter is_name (map view options) ∙ fold-map (λ n option. n + cond (is_name option) 1 0) view 0 options)

abbrev one_if : Bool → ℕ
one_if b = cond b 1 0

at_most_1 : (b : Bool) → one_if b ≤ 1
at_most_1 true = omega arith
at_most_1 false = omega arith

-- the count of some options, with one more
pub one_more_counted : (name : OptionName) (items options : Found) (i n m : ℕ) (d : OptionName × Bor Text) (this that : Text) (b : Bool) → items ≡ options → i < length items
    → this ≡ name_of (get_or items i d).0 → that ≡ name_of name → b ≡ bytes_eq this that → m ≡ n + cond b 1 0
    → (n ≡ count_by (λ option. bytes_eq (name_of option.0) (name_of name)) (take i options)) × (n ≤ i)
    → (m ≡ count_by (λ option. bytes_eq (name_of option.0) (name_of name)) (take (i + 1) options)) × (m ≤ i + 1)
one_more_counted name items options i n m d this that b same within is_this is_that told more before =
    let is_name : OptionName × Bor Text → Bool = λ option. bytes_eq (name_of option.0) (name_of name) in
    let within_them : i < length options = rw same at within in
    let is_of_these : this ≡ name_of (get_or options i d).0 = rw same at is_this in
    let b_is : b ≡ is_name (get_or options i d) = told ∙ ap (λ t. bytes_eq t that) is_of_these ∙ ap (bytes_eq (name_of (get_or options i d).0)) is_that in
    let next = sum_by_more (λ option. cond (is_name option) 1 0) options i d within_them in
    let step : one_if b ≡ one_if (is_name (get_or options i d)) = ap one_if b_is in
    (omega (arith, more, before.0, next, step), omega (arith, more, before.1, at_most_1 b))

-- all options are listed
pub each_listed : (P : OptionName → Type 0) → All P OPTIONS → (name : OptionName) → P name
each_listed P all Map = all 0 Map (omega arith)
each_listed P all Top = all 1 Map (omega arith)
each_listed P all Tile = all 2 Map (omega arith)
each_listed P all Workers = all 3 Map (omega arith)
each_listed P all Layer = all 4 Map (omega arith)
each_listed P all Datatype = all 5 Map (omega arith)
each_listed P all Radius = all 6 Map (omega arith)
each_listed P all Generate = all 7 Map (omega arith)
each_listed P all Pairs = all 8 Map (omega arith)
each_listed P all Probe = all 9 Map (omega arith)
each_listed P all Regions = all 10 Map (omega arith)

module _ (options : Found) where
  -- the option is given once at most
  abbrev IsFew : OptionName → Type 0
  IsFew name = length (values_of (map view options) name) ≤ 1

  -- so an option of which this is the count is given once at most, or more than once
  module _ (name : OptionName) (n : ℕ) (is : n ≡ count_by (λ option. bytes_eq (name_of option.0) (name_of name)) options) where
    is_few : n ≤ 1 → IsFew name
    is_few few = let same = counted options name in omega (arith, same, is, few)

    pub is_repeated : 1 < n → 1 < length (values_of (map view options) name)
    is_repeated more = let same = counted options name in omega (arith, same, is, more)

  pub one_more_few : (names : List OptionName) (i : ℕ) (d : OptionName) (n : ℕ) → i < length names → All IsFew (take i names)
      → n ≡ count_by (λ option. bytes_eq (name_of option.0) (name_of (get_or names i d))) options → n ≤ 1 → All IsFew (take (i + 1) names)
  one_more_few names i d n within before is few = All-more IsFew names i d within before (is_few (get_or names i d) n is few)

  pub each_few : (i : ℕ) → length OPTIONS ≤ i → All IsFew (take i OPTIONS) → (name : OptionName) → IsFew name
  each_few i past few = each_listed IsFew (subst (All IsFew) (take_all i OPTIONS past) few)

  -- an option whose value is empty
  pub empty_option : (items : Found) (i : ℕ) (d : OptionName × Bor Text) → items ≡ options → i < length items → (length (get_or items i d).1.now == 0) ≡ true
      → Contains (map view options) ((get_or items i d).0, [])
  empty_option items i d same within e =
      let this : view (get_or items i d) ≡ ((get_or items i d).0, []) = ap (λ (t : Text). ((get_or items i d).0, t)) (is_empty (get_or items i d).1.now e) in
      subst (λ (os : Found). Contains (map view os) ((get_or items i d).0, [])) same
      (subst (Contains (map view items)) (get_or-map view items i d (view d) within ∙ this)
      (Contains-get_or (map view items) i (view d) (omega (arith, within, length-map items view))))

  pub all_full : (items : Found) (i : ℕ) → items ≡ options → length items ≤ i → All (λ option. IsNotEmpty option.1.now) (take i options) → All (λ option. IsNotEmpty option.1) (map view options)
  all_full items i same past full =
      let past_them : length options ≤ i = omega (arith, ap length same, past) in
      All-map (λ option. IsNotEmpty option.1) view options (subst (All (λ option. IsNotEmpty option.1.now)) (take_all i options past_them) full)
