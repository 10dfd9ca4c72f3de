-- lists in which each item comes before those behind it, and what `dedup` leaves
use Rattle.std.proofs.Common.{ℕ, zero, suc, ◌<◌, ◌≤◌, ◌≡◌, ◌↔◌, refl, sym, ap, ◌∙◌, subst, inl, inr, arith, Bool, true, false, List, [], ◌∷◌, length, get_or, AllPairs, Any, Contains, Some, slice_get}
use Rattle.lists.proofs.Words.{All-from_recursion, All-weaker, AllPairs-cons, cases_Bool, cases_lt, get_or_from_slice_get, slice_get_within, Ordering, Less}
use Rattle.lists.proofs.Containing.{Contains-cons_cases, Contains-head, Contains-none, Contains-tail}
use Rattle.std.specs.List.{dedup, dedup_from}
use Rattle.std.specs.List.Sorted.{IsPartitionPoint, IsStrictlySortedBy}

-- ---- items in order

module _ {X : Type 0} (Before : X → X → Type 0) where
  -- an order of a sort whose `Less` tells that one item comes before another
  pub rising : (R : X → X → Ordering) → ((x y : X) → R x y ≡ Less → Before x y) → (xs : List X) → IsStrictlySortedBy R xs → AllPairs Before xs
  unfolding IsStrictlySortedBy
  rising R before [] sorted = λ i j d less small. absurd (omega arith)
  rising R before (x ∷ xs) sorted =
      AllPairs-cons Before x xs (All-weaker (λ y. R x y ≡ Less) (Before x) (before x) xs (All-from_recursion (λ y. R x y ≡ Less) xs sorted.0))
      (rising R before xs sorted.1)

  pub AllPairs-tail : (x : X) (xs : List X) → AllPairs Before (x ∷ xs) → AllPairs Before xs
  AllPairs-tail x xs pairs i j d less small = pairs (suc i) (suc j) d (omega arith) (omega arith)

  pub AllPairs-head : (x : X) (xs : List X) → AllPairs Before (x ∷ xs) → (y : X) → Contains xs y → Before x y
  AllPairs-head x xs pairs y (k, small, at) = subst (Before x) at (pairs zero (suc k) y (omega arith) (omega arith))

  module _ (xs : List X) (pairs : AllPairs Before xs) where
    -- two items, of which neither comes before the other, stand at one place
    pub one_place : (i k : ℕ) (x y : X) → slice_get xs i ≡ Some x → slice_get xs k ≡ Some y → (Before x y → ⊥) → (Before y x → ⊥) → i ≡ k
    one_place i k x y at_i at_k not_before not_behind =
        let small_i : i < length xs = slice_get_within xs i x at_i in
        let small_k : k < length xs = slice_get_within xs k y at_k in
        let is_x : get_or xs i x ≡ x = get_or_from_slice_get xs i x x at_i in
        let is_y : get_or xs k x ≡ y = get_or_from_slice_get xs k y x at_k in
        elim (cases_lt i k) [
          | inl less ↦ absurd (not_before (subst (λ z. Before z y) is_x (subst (Before (get_or xs i x)) is_y (pairs i k x less small_k))))
          | inr most ↦ elim (cases_lt k i) [
            | inl less ↦ absurd (not_behind (subst (λ z. Before z x) is_y (subst (Before (get_or xs k x)) is_x (pairs k i x less small_i))))
            | inr least ↦ omega arith
          ]
        ]

  -- two lists in order with the same items are the same
  pub same_when_rising : ((x y : X) → Before x y → Before y x → ⊥) → (xs ys : List X) → AllPairs Before xs → AllPairs Before ys → ((x : X) → Contains xs x ↔ Contains ys x) → xs ≡ ys
  same_when_rising apart [] [] up up' same = refl
  same_when_rising apart [] (y ∷ ys) up up' same = absurd (Contains-none ((same y).1 (Contains-head y ys)))
  same_when_rising apart (x ∷ xs) [] up up' same = absurd (Contains-none ((same x).0 (Contains-head x xs)))
  same_when_rising apart (x ∷ xs) (y ∷ ys) up up' same =
      let behind : (z : X) → Contains xs z → Before x z = AllPairs-head x xs up in
      let behind' : (z : X) → Contains ys z → Before y z = AllPairs-head y ys up' in
      let first : x ≡ y =
      elim (Contains-cons_cases y ys x ((same x).0 (Contains-head x xs))) [
        | inl e ↦ sym e
        | inr c ↦ elim (Contains-cons_cases x xs y ((same y).1 (Contains-head y ys))) [
          | inl e ↦ e
          | inr d ↦ absurd (apart x y (behind y d) (behind' x c))
        ]
      ] in
      let there : (z : X) → Contains xs z → Contains ys z = λ z c.
      elim (Contains-cons_cases y ys z ((same z).0 (Contains-tail x xs z c))) [
        | inl e ↦ let again : Before x x = subst (Before x) (sym (first ∙ e)) (behind z c) in absurd (apart x x again again)
        | inr d ↦ d
      ] in
      let back : (z : X) → Contains ys z → Contains xs z = λ z c.
      elim (Contains-cons_cases x xs z ((same z).1 (Contains-tail y ys z c))) [
        | inl e ↦ let again : Before y y = subst (Before y) (sym (sym first ∙ e)) (behind' z c) in absurd (apart y y again again)
        | inr d ↦ d
      ] in
      ap (λ z. z ∷ xs) first ∙ ap (λ zs. y ∷ zs) (same_when_rising apart xs ys (AllPairs-tail x xs up) (AllPairs-tail y ys up') (λ z. (there z, back z)))

-- ---- where a search ends

-- those before an item pass the test, and it fails: the search ends at the item
pub search_ends : {X : Type 0} (test : X → Bool) (xs : List X) (place k : ℕ) (x : X) → IsPartitionPoint (λ y. test y ≡ true) (λ y. test y ≡ false) xs place → place ≤ length xs
    → k < length xs → ((i : ℕ) → i < k → test (get_or xs i x) ≡ true) → test (get_or xs k x) ≡ false → place ≡ k
search_ends test xs place k x point bound small before fails = elim (cases_lt place k) [
  | inl less ↦ let yes : test (get_or xs place x) ≡ true = before place less in let none : test (get_or xs place x) ≡ false = point.1 place x (omega arith) (omega arith) in absurd (cc)
  | inr most ↦ elim (cases_lt k place) [
    | inl less ↦ let yes : test (get_or xs k x) ≡ true = point.0 k x (omega arith) less in absurd (cc)
    | inr least ↦ omega arith
  ]
]

-- ---- the first of those that are the same

any_from : {X : Type 0} (P : X → Type 0) (xs : List X) (x : X) → Contains xs x → P x → Any P xs
any_from P xs x (k, small, at) p = (k, x, small, at, p)

any_behind : {X : Type 0} (P : X → Type 0) (x : X) (xs : List X) → Any P xs → Any P (x ∷ xs)
any_behind P x xs (k, y, small, at, p) = (suc k, y, omega arith, at, p)

module _ {X : Type 0} (same : X → X → Bool) (Before : X → X → Type 0) (is_same : (x : X) → same x x ≡ true) (is_first : (x : X) → Before x x → ⊥) where
  -- it is the same, and the other one does not come before it
  abbrev pub StandsFor : X → X → Type 0
  StandsFor x kept = (same x kept ≡ true) × (Before x kept → ⊥)

  first_kept : (kept : X) (xs : List X) → Contains (dedup_from same kept xs) kept
  first_kept kept [] = Contains-head kept []
  first_kept kept (x ∷ xs) = elim (cases_Bool (same x kept)) [
    | inl e ↦ rw e (first_kept kept xs)
    | inr e ↦ rw e (Contains-head kept (dedup_from same x xs))
  ]

  stands : (kept : X) (xs : List X) (x : X) → StandsFor x kept → Any (StandsFor x) (dedup_from same kept xs)
  stands kept xs x for = any_from (StandsFor x) (dedup_from same kept xs) kept (first_kept kept xs) for

  itself : (kept : X) (xs : List X) (x : X) → kept ≡ x → Any (StandsFor x) (dedup_from same kept xs)
  itself kept xs x e = stands kept xs x (subst (λ z. StandsFor z kept) e (is_same kept, is_first kept))

  abbrev pub IsNoLater : X → X → Type 0
  IsNoLater x y = Before y x → ⊥

  -- one item fewer behind the first
  skip_second : (x y : X) (xs : List X) → AllPairs IsNoLater (x ∷ y ∷ xs) → AllPairs IsNoLater (x ∷ xs)
  skip_second x y xs up =
      let rest : AllPairs IsNoLater (y ∷ xs) = AllPairs-tail IsNoLater x (y ∷ xs) up in
      AllPairs-cons IsNoLater x xs (λ k d small. up zero (suc (suc k)) d (omega arith) (omega arith)) (AllPairs-tail IsNoLater y xs rest)

  kept_for : (kept : X) (xs : List X) → AllPairs IsNoLater (kept ∷ xs) → (x : X) → Contains (kept ∷ xs) x → Any (StandsFor x) (dedup_from same kept xs)
  kept_for kept [] up x c = elim (Contains-cons_cases kept [] x c) [ inl e ↦ itself kept [] x e | inr d ↦ absurd (Contains-none d) ]
  kept_for kept (y ∷ xs) up x c = elim (cases_Bool (same y kept)) [
    | inl e ↦ rw e (elim (Contains-cons_cases kept (y ∷ xs) x c) [
      | inl f ↦ itself kept xs x f
      | inr d ↦ elim (Contains-cons_cases y xs x d) [
        | inl f ↦ stands kept xs x (subst (λ z. StandsFor z kept) f (e, up zero (suc zero) y (omega arith) (omega arith)))
        | inr b ↦ kept_for kept xs (skip_second kept y xs up) x (Contains-tail kept xs x b)
      ]
    ])
    | inr e ↦ rw e (elim (Contains-cons_cases kept (y ∷ xs) x c) [
      | inl f ↦ any_from (StandsFor x) (kept ∷ dedup_from same y xs) kept (Contains-head kept (dedup_from same y xs)) (subst (λ z. StandsFor z kept) f (is_same kept, is_first kept))
      | inr d ↦ any_behind (StandsFor x) kept (dedup_from same y xs) (kept_for y xs (AllPairs-tail IsNoLater kept (y ∷ xs) up) x d)
    ])
  ]

  -- for each item of a list in order `dedup` keeps one that is the same, before which it does not come
  pub dedup_keeps_first : (xs : List X) → AllPairs IsNoLater xs → (x : X) → Contains xs x → Any (StandsFor x) (dedup same xs)
  dedup_keeps_first [] up x c = absurd (Contains-none c)
  dedup_keeps_first (y ∷ xs) up x c = kept_for y xs up x c
