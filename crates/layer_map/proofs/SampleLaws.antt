-- the sample: its document, each of its checks, and its map
use Rattle.std.proofs.Common.{◌≡◌, ◌≢◌, ℕ, zero, suc, ◌+◌, ◌*◌, ◌<◌, ◌≤◌, pos, List, length, [], ◌∷◌, ◌++◌, ◌&&◌, ◌==◌, ◌∙◌, codes, map, Option, Some, refl, arith, Bool, true, false, not, ap, sym}
use Rattle.std.proofs.Common.{subst, get_or, nat_lt, unwrap_or, option_and_then, All, Contains}
use Rattle.std.specs.List.{AllByRecursion}
use Rattle.lists.proofs.Words.{AllPass-from_list_all, list_all, and_parts, eq-eqb, ltb-true, IsStrictlyIncreasing, ints, All-append, All-contains, All-from_recursion, All-weaker, AllPairs-cons}
use Rattle.lists.proofs.Words.{IsUtf8-from_ascii}
use Rattle.std.proofs.lemmas.Bool.{not-true}
use Rattle.std.proofs.lemmas.Str.Ascii.{IsAscii-from_all}
use Rattle.first_refusal.specs.Outcomes.{goes_on, reads, value}
use Rattle.first_refusal.specs.Checks.{all_hold}
use Rattle.toml.specs.Data.{Data, Members, no_members, member, string, table, as_str}
use Rattle.toml.specs.Parse.{parse_document}
use Rattle.toml.proofs.OnLiterals.{toml_on_literals}
use Rattle.layer_map.specs.Documents.{GivesMap, IsDocument, MapComesTo, NamesMetal}
use Rattle.map_model.specs.MapNames.{AreSizes, AreWeights, IsSize, IsPair, ArePairs, IsLayerName, is_name_byte}
use Rattle.map_model.specs.declared.measure.Measure.TheVariants.{Radius}
use Rattle.lists.specs.Differing.{AreDifferent}
use Rattle.layer_map.specs.MapChecks.{MapCheck, Holds, checks_of, checks_of_cuts, checks_of_metals, checks_of_terminals, first_checks, last_checks, map_keys}
use Rattle.layer_map.specs.LayerChecks.{metal_keys}
use Rattle.layer_map.specs.CutChecks.{cut_keys}
use Rattle.layer_map.specs.TerminalChecks.{IsCellNumber, terminal_keys}
use Rattle.layer_map.specs.inside.ReadLayers.{written_name}
use Rattle.layer_map.specs.Sample.{sample_map, sample_text}
use Rattle.layer_map.specs.Values.{StandsAs, array_of, pair_value, pairs_value, whole_number, whole_numbers}
use Rattle.lists.proofs.Containing.{Contains-none}
use Rattle.lists.proofs.Differing.{AreDifferent-map, different_front}
use Rattle.layer_map.proofs.SeenLaws.{pair_tells}

abbrev layer_value : List ℕ → List (ℕ × ℕ) → Data
layer_value name pairs = table (member (codes "name") (string name) (member (codes "pairs") (pairs_value pairs) no_members))

abbrev cut_value : Data
cut_value = table (member (codes "lower") (string (codes "m1")) (member (codes "name") (string (codes "v1"))
    (member (codes "pairs") (pairs_value ((2, 0) ∷ [])) (member (codes "upper") (string (codes "m2")) no_members))))

abbrev terminal_value : Data
terminal_value = table (member (codes "metal") (string (codes "m1")) (member (codes "x") (whole_number 0) (member (codes "y") (whole_number 0) no_members)))

-- the document, by the order of its keys
abbrev sample_document : Members
sample_document =
    member (codes "cut") (array_of (cut_value ∷ []))
    (member (codes "metal") (array_of (layer_value (codes "m1") ((1, 0) ∷ (1, 20) ∷ []) ∷ layer_value (codes "m2") ((3, 0) ∷ []) ∷ []))
    (member (codes "radii") (whole_numbers (2 ∷ 5 ∷ []))
    (member (codes "terminal") (array_of (terminal_value ∷ []))
    (member (codes "version") (whole_number 1)
    (member (codes "weights") (whole_numbers (10 ∷ 1 ∷ [])) no_members)))))

parsed : parse_document sample_text ≡ Some sample_document
unfolding toml_on_literals
parsed = refl

-- things that are told apart by a number of each
module _ {A : Type 0} (code : A → ℕ) where
  abbrev differ : A → A → Bool
  differ one other = not (code one == code other)

  apart : (one other : A) → differ one other ≡ true → one ≢ other
  apart one other h e = let both : true ≡ false = sym (eq-eqb (code one) (code other) (ap code e)) ∙ not-true (code one == code other) h in cc both

  abbrev all_apart : List A → Bool
  all_apart [] = true
  all_apart (x ∷ xs) = list_all (differ x) xs && all_apart xs

  are_different : (xs : List A) → all_apart xs ≡ true → AreDifferent xs
  are_different [] h = λ i j d below within. absurd (omega arith)
  are_different (x ∷ xs) h =
      let parts = and_parts (list_all (differ x) xs) (all_apart xs) h in
      AllPairs-cons (λ p q. p ≢ q) x xs (All-weaker (λ y. differ x y ≡ true) (λ y. x ≢ y) (apart x) xs (AllPass-from_list_all (differ x) xs parts.0)) (are_different xs parts.1)

  not_among : (x : A) (xs : List A) → list_all (differ x) xs ≡ true → Contains xs x → ⊥
  not_among x xs h among = apart x x (All-contains (λ y. differ x y ≡ true) xs x (AllPass-from_list_all (differ x) xs h) among) refl

-- a name of the sample as a number, and the text that stands somewhere
abbrev name_code : List ℕ → ℕ
name_code name = 256 * get_or name 0 0 + get_or name 1 0

abbrev code_of : Option Data → ℕ
code_of there = name_code (unwrap_or (option_and_then as_str there) [])

is_document : IsDocument sample_text sample_document
is_document = record {
  is_text = IsUtf8-from_ascii sample_text (IsAscii-from_all sample_text (All-weaker (λ b. nat_lt b 128 ≡ true) (λ b. b < 128) (λ b. ltb-true b 128) sample_text
      (AllPass-from_list_all (λ b. nat_lt b 128) sample_text refl)));
  parsed = parsed;
}

-- what the checks are about
radii_are : AreSizes Radius (2 ∷ 5 ∷ [])
radii_are = record {
  some = omega arith;
  few = omega arith;
  each = All-from_recursion (IsSize Radius) (2 ∷ 5 ∷ []) (record { least = omega arith; most = omega arith }, (record { least = omega arith; most = omega arith }, tt));
  rising = rising;
} where
  rising : IsStrictlyIncreasing (2 ∷ 5 ∷ [])
  rising zero below = omega arith
  rising (suc k) below = absurd (omega arith)

weights_are : AreWeights 2 (10 ∷ 1 ∷ [])
weights_are = record { as_many = refl; each = All-from_recursion (λ (w : ℕ). w ≤ 1000000000) (10 ∷ 1 ∷ []) (omega arith, (omega arith, tt)) }

-- a name of two bytes, and some pairs
named : (a b : ℕ) → is_name_byte a ≡ true → is_name_byte b ≡ true → StandsAs string IsLayerName (Some (string (a ∷ b ∷ [])))
named a b p q =
    (a ∷ b ∷ [], refl, record { some = omega arith; few = omega arith; each = All-from_recursion (λ c. is_name_byte c ≡ true) (a ∷ b ∷ []) (p, (q, tt)) })

pair_is : (a b : ℕ) → a ≤ 65535 → b ≤ 65535 → IsPair (a, b)
pair_is a b p q = record { layer = p; datatype = q }

paired : (pairs : List (ℕ × ℕ)) → 1 ≤ length pairs → length pairs ≤ 16 → AllByRecursion IsPair pairs → StandsAs pairs_value ArePairs (Some (pairs_value pairs))
paired pairs some few each = (pairs, refl, record { some = some; few = few; each = All-from_recursion IsPair pairs each })

-- all pairs differ
abbrev all_pairs : List (ℕ × ℕ)
all_pairs = (1, 0) ∷ (1, 20) ∷ (3, 0) ∷ (2, 0) ∷ []

written_differ : (pairs more : List (ℕ × ℕ)) → pairs ++ more ≡ all_pairs → AreDifferent (map pair_value pairs)
written_differ pairs more whole = AreDifferent-map pair_value pairs pair_tells (different_front pairs more
    (subst AreDifferent (sym whole) (are_different (λ (p : ℕ × ℕ). 100 * p.0 + p.1) all_pairs refl)))

-- the checks that hold
abbrev Sound : MapCheck → Type 0
Sound = Holds sample_document

head_holds : All Sound first_checks
head_holds = All-from_recursion Sound first_checks (keys, ((1, refl, (omega arith, omega arith)), (refl, (omega arith, ((2 ∷ 5 ∷ [], refl, radii_are), ((10 ∷ 1 ∷ [], refl, weights_are), tt)))))) where
  keys : All (Contains (map_keys Radius)) (codes "cut" ∷ codes "metal" ∷ codes "radii" ∷ codes "terminal" ∷ codes "version" ∷ codes "weights" ∷ [])
  keys = All-from_recursion (Contains (map_keys Radius)) (codes "cut" ∷ codes "metal" ∷ codes "radii" ∷ codes "terminal" ∷ codes "version" ∷ codes "weights" ∷ [])
      ((4, omega arith, refl), ((3, omega arith, refl), ((1, omega arith, refl), ((5, omega arith, refl), ((0, omega arith, refl), ((2, omega arith, refl), tt))))))

-- the keys and the name of an item and its pairs
keys_known : All (Contains metal_keys) (codes "name" ∷ codes "pairs" ∷ [])
keys_known = All-from_recursion (Contains metal_keys) (codes "name" ∷ codes "pairs" ∷ []) ((0, omega arith, refl), ((1, omega arith, refl), tt))

-- of each array, first that it is one of so many items, and then what holds of the items
metals_hold : All Sound (checks_of_metals sample_document)
metals_hold =
    let first = paired ((1, 0) ∷ (1, 20) ∷ []) (omega arith) (omega arith)
    (pair_is 1 0 (omega arith) (omega arith), (pair_is 1 20 (omega arith) (omega arith), tt)) in
    let second = paired ((3, 0) ∷ []) (omega arith) (omega arith) (pair_is 3 0 (omega arith) (omega arith), tt) in
    let new = not_among code_of (written_name (codes "m2")) (written_name (codes "m1") ∷ []) refl in
    let differ = written_differ ((1, 0) ∷ (1, 20) ∷ []) ((3, 0) ∷ (2, 0) ∷ []) refl in
    let also = written_differ ((1, 0) ∷ (1, 20) ∷ (3, 0) ∷ []) ((2, 0) ∷ []) refl in
    All-from_recursion Sound (checks_of_metals sample_document)
    (omega arith, (omega arith, (refl, (keys_known, (named 109 49 refl refl, (Contains-none, (first, (differ, (refl, (keys_known, (named 109 50 refl refl, (new, (second, (also, tt))))))))))))))

cuts_hold : All Sound (checks_of_cuts sample_document)
cuts_hold =
    let new = not_among code_of (written_name (codes "v1")) (written_name (codes "m1") ∷ written_name (codes "m2") ∷ []) refl in
    let pairs = paired ((2, 0) ∷ []) (omega arith) (omega arith) (pair_is 2 0 (omega arith) (omega arith), tt) in
    let differ = written_differ all_pairs [] refl in
    let m1 = codes "m1" in
    let m2 = codes "m2" in
    let ends = apart code_of (written_name m2) (written_name m1) refl in
    All-from_recursion Sound (checks_of_cuts sample_document)
    (refl, (omega arith, (refl, (keys, (named 118 49 refl refl, (new, (pairs, (differ, ((m1, refl, tt), ((0, omega arith, refl), ((m2, refl, tt), ((1, omega arith, refl), (ends, tt))))))))))))) where
      keys : All (Contains cut_keys) (codes "lower" ∷ codes "name" ∷ codes "pairs" ∷ codes "upper" ∷ [])
      keys = All-from_recursion (Contains cut_keys) (codes "lower" ∷ codes "name" ∷ codes "pairs" ∷ codes "upper" ∷ [])
          ((2, omega arith, refl), ((0, omega arith, refl), ((1, omega arith, refl), ((3, omega arith, refl), tt))))

terminals_hold : All Sound (checks_of_terminals sample_document)
terminals_hold = All-from_recursion Sound (checks_of_terminals sample_document)
    (refl, (omega arith, (refl, (keys, ((codes "m1", refl, tt), ((0, omega arith, refl), ((pos 0, refl, zero_is), ((pos 0, refl, zero_is), (Contains-none, tt))))))))) where
      keys : All (Contains terminal_keys) (codes "metal" ∷ codes "x" ∷ codes "y" ∷ [])
      keys = All-from_recursion (Contains terminal_keys) (codes "metal" ∷ codes "x" ∷ codes "y" ∷ []) ((0, omega arith, refl), ((1, omega arith, refl), ((2, omega arith, refl), tt)))

      zero_is : IsCellNumber (pos 0)
      zero_is = record { least = omega (arith, ints); most = omega (arith, ints) }

sample_holds : All Sound (checks_of sample_document)
sample_holds =
    let metals = checks_of_metals sample_document in
    let cuts = checks_of_cuts sample_document in
    let terminals = checks_of_terminals sample_document in
    let behind_cuts = All-append Sound terminals last_checks terminals_hold (All-from_recursion Sound last_checks (tt, tt)) in
    All-append Sound first_checks (metals ++ (cuts ++ (terminals ++ last_checks))) head_holds
    (All-append Sound metals (cuts ++ (terminals ++ last_checks)) metals_hold (All-append Sound cuts (terminals ++ last_checks) cuts_hold behind_cuts))

sample_gives : GivesMap sample_document sample_map
sample_gives = record {
  numbers = 2 ∷ 5 ∷ [];
  weights = 10 ∷ 1 ∷ [];
  has_sizes = refl;
  has_weights = refl;
  measure = refl;
  sizes = refl;
  metals = (record { name = refl; pairs = refl }, (record { name = refl; pairs = refl }, tt));
  names_differ = are_different name_code (codes "m1" ∷ codes "m2" ∷ []) refl;
  cuts = (record { layer = record { name = refl; pairs = refl }; lower = first; upper = second }, tt);
  terminals = (record { metal = first; column = refl; row = refl }, tt);
  contacts = refl;
} where
  first : NamesMetal sample_map.metals (Some (string (codes "m1"))) 0
  first = record { metal = record { name = codes "m1"; pairs = (1, 0) ∷ (1, 20) ∷ [] }; numbered = refl; named = refl }

  second : NamesMetal sample_map.metals (Some (string (codes "m2"))) 1
  second = record { metal = record { name = codes "m2"; pairs = (3, 0) ∷ [] }; numbered = refl; named = refl }

pub sample_comes_to_its_map : MapComesTo sample_text (value sample_map)
sample_comes_to_its_map = goes_on (reads is_document) (all_hold sample_holds sample_gives)
