-- rows whose layers are given by places in a list of names
use Rattle.std.proofs.Common.{ℕ, ◌≡◌, ◌<◌, ◌≤◌, ◌+◌, ◌==◌, Bool, Option, Some, List, [], ◌∷◌, ◌++◌, map, find, length, get_or, All, Contains, slice_get, refl, sym, ap, ◌∙◌, subst, option_map, arith, inl, inr}
use Rattle.lists.proofs.Words.{All-contains, All-head, All-map, All-push, All-tail, All-weaker, cases_Bool, get_or_from_slice_get, map-append, map-map, slice_get_within}
use Rattle.lists.proofs.Containing.{Contains-head, Contains-tail, slice_get-back, slice_get-front, some_item}
use Rattle.gauges.specs.WorstText.{worst_of}
use Rattle.gauges.specs.declared.pair_row.PairRow.{PairRow}
use Rattle.gauges.specs.declared.pair_rows.KeptRow.{KeptRow}
use Rattle.gauges.specs.inside.KeptRows.{AreNamed, KeepPlaces, pair_row, pair_rows}
use Rattle.gauges.proofs.GreatestLaws.{found_greatest}

-- a list that gains a name at its end
pub places_pushed : (old new : List (List ℕ)) (name : List ℕ) → new ≡ old ++ name ∷ [] → KeepPlaces old new
places_pushed old new name e place other at = subst (λ names. slice_get names place ≡ Some other) (sym e) (slice_get-front old (name ∷ []) place other at)

pub pushed_at : (old new : List (List ℕ)) (name : List ℕ) (place : ℕ) → new ≡ old ++ name ∷ [] → place ≡ length old → slice_get new place ≡ Some name
pushed_at old new name place e last =
    let end : place ≡ length old + 0 = omega (arith, last) in
    subst (λ names. slice_get names place ≡ Some name) (sym e) (subst (λ k. slice_get (old ++ name ∷ []) k ≡ Some name) (sym end) (slice_get-back old (name ∷ []) 0))

module _ (old new : List (List ℕ)) (keep : KeepPlaces old new) where
  same_name : (place : ℕ) → place < length old → get_or new place [] ≡ get_or old place []
  same_name place small =
      let (name, at) = some_item old place small in
      get_or_from_slice_get new place name [] (keep place name at) ∙ sym (get_or_from_slice_get old place name [] at)

  -- so the rows are what they were
  pub same_rows : (rows : List KeptRow) → AreNamed old rows → pair_rows new rows ≡ pair_rows old rows
  same_rows [] named = refl
  same_rows (row ∷ rows) named =
      let first : pair_row (get_or new row.layer []) row ≡ pair_row (get_or old row.layer []) row =
      ap (λ name. pair_row name row) (same_name row.layer (All-head (λ x. x.layer < length old) row rows named)) in
      let rest : pair_rows new rows ≡ pair_rows old rows = same_rows rows (All-tail (λ x. x.layer < length old) row rows named) in
      cc

  pub still_named : (rows : List KeptRow) → AreNamed old rows → AreNamed new rows
  still_named rows named = All-weaker (λ row. row.layer < length old) (λ row. row.layer < length new) named_now rows named
    where
      named_now : (row : KeptRow) → row.layer < length old → row.layer < length new
      named_now row small = let (name, at) = some_item old row.layer small in slice_get_within new row.layer name (keep row.layer name at)

  -- and one row more
  module _ (place : ℕ) (row : PairRow) (kept : KeptRow) (at : slice_get new place ≡ Some row.layer) (is_there : kept.layer ≡ place) (is : pair_row row.layer kept ≡ row) where
    here : slice_get new kept.layer ≡ Some row.layer
    here = subst (λ k. slice_get new k ≡ Some row.layer) (sym is_there) at

    pub one_more : (rows : List KeptRow) → AreNamed old rows → pair_rows new (rows ++ kept ∷ []) ≡ pair_rows old rows ++ row ∷ []
    one_more rows named =
        map-append (λ x. pair_row (get_or new x.layer []) x) rows (kept ∷ [])
        ∙ ap (λ xs. xs ++ pair_row (get_or new kept.layer []) kept ∷ []) (same_rows rows named)
        ∙ ap (λ x. pair_rows old rows ++ x ∷ []) (ap (λ name. pair_row name kept) (get_or_from_slice_get new kept.layer row.layer [] here) ∙ is)

    pub more_named : (rows : List KeptRow) → AreNamed old rows → AreNamed new (rows ++ kept ∷ [])
    more_named rows named = All-push (λ x. x.layer < length new) rows kept (still_named rows named) (slice_get_within new kept.layer row.layer here)

-- ---- the worst of such rows

find-map : {A B : Type 0} (p : B → Bool) (f : A → B) (xs : List A) → find p (map f xs) ≡ option_map f (find (λ x. p (f x)) xs)
find-map p f [] = refl
find-map p f (x ∷ xs) = elim (cases_Bool (p (f x))) [ inl e ↦ rw e refl | inr e ↦ rw e (find-map p f xs) ]

-- what is found is an item
Contains-found : {A : Type 0} (p : A → Bool) (xs : List A) (x : A) → find p xs ≡ Some x → Contains xs x
Contains-found p [] x e = cc e
Contains-found p (y ∷ xs) x e = elim (cases_Bool (p y)) [
  | inl pass ↦ let same = rw pass at e in let is : y ≡ x = cc same in subst (Contains (y ∷ xs)) is (Contains-head y xs)
  | inr fail ↦ let rest = rw fail at e in Contains-tail y xs x (Contains-found p xs x rest)
]

-- the row with its name
abbrev pub with_name : List (List ℕ) → KeptRow → PairRow
with_name names row = pair_row (get_or names row.layer []) row

-- the first row with the greatest area is the worst, with its name
found_worst : (names : List (List ℕ)) (rows : List KeptRow) (greatest : ℕ) → Contains (map (λ row. row.area) rows) greatest → All (λ row. row.area ≤ greatest) rows
    → worst_of (pair_rows names rows) ≡ option_map (with_name names) (find (λ row. row.area == greatest) rows)
found_worst names rows greatest reached bound =
    let areas : map (λ (row : PairRow). row.area) (pair_rows names rows) ≡ map (λ (row : KeptRow). row.area) rows = map-map (λ (row : PairRow). row.area) (with_name names) rows in
    sym (found_greatest (λ (row : PairRow). row.area) (pair_rows names rows) greatest (subst (λ xs. Contains xs greatest) (sym areas) reached)
    (All-map (λ (row : PairRow). row.area ≤ greatest) (with_name names) rows bound))
    ∙ find-map (λ (row : PairRow). row.area == greatest) (with_name names) rows

-- the same for what two calls were given, and what the second one answered
pub worst_found : (names : List (List ℕ)) (rows first second : List KeptRow) (seen : List PairRow) (greatest : ℕ) (found : Option KeptRow) → first ≡ rows → second ≡ rows
    → pair_rows names rows ≡ seen → Contains (map (λ row. row.area) first) greatest → All (λ row. row.area ≤ greatest) first → found ≡ find (λ row. row.area == greatest) second
    → option_map (with_name names) found ≡ worst_of seen
worst_found names rows first second seen greatest found e f view reached bound is =
    ap (option_map (with_name names)) (is ∙ ap (find (λ row. row.area == greatest)) f)
    ∙ sym (found_worst names rows greatest (subst (λ xs. Contains (map (λ row. row.area) xs) greatest) e reached) (subst (All (λ row. row.area ≤ greatest)) e bound))
    ∙ ap worst_of view

-- and the place of its name is one
pub found_named : (names : List (List ℕ)) (rows second : List KeptRow) (greatest : ℕ) (found : Option KeptRow) (row : KeptRow) → second ≡ rows → AreNamed names rows
    → found ≡ find (λ row. row.area == greatest) second → found ≡ Some row → row.layer < length names
found_named names rows second greatest found row f named is some =
    All-contains (λ x. x.layer < length names) rows row named
    (Contains-found (λ x. x.area == greatest) rows row (sym (ap (find (λ x. x.area == greatest)) f) ∙ sym is ∙ some))
