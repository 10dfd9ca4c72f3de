-- how many items of a list pass a test
use Rattle.std.proofs.Common.{ℕ, inl, inr, ◌+◌, ◌*◌, ◌<◌, ◌≤◌, ◌≡◌, length, refl, sym, ap, ◌∙◌, List, []}
use Rattle.std.proofs.Common.{◌∷◌, get_or, arith, Bool, true, false, cond, ℤ, ◌≤ℤ◌, ◌<ℤ◌, int_le, int_lt, All, Contains, count_by, filter}
use Rattle.lists.proofs.Words.{ints, All-head, All-tail, cases_Bool, sum_by-cons}
use Rattle.std.proofs.lemmas.List.Sums.{get_or-le-sum_by, length-filter, sum_by-le}
use Rattle.lists.proofs.Containing.{Contains-slice_get, some_item}
use Rattle.lists.proofs.Filtering.{Contains-filter_passes, Contains-from_filter}

-- ---- tests of whole numbers

pub le_true : (a b : ℤ) → a ≤ℤ b → int_le a b ≡ true
le_true a b h = grind (arith, ints)

pub le_false : (a b : ℤ) → b <ℤ a → int_le a b ≡ false
le_false a b h = grind (arith, ints)

pub lt_true : (a b : ℤ) → a <ℤ b → int_lt a b ≡ true
lt_true a b h = grind (arith, ints)

pub lt_false : (a b : ℤ) → b ≤ℤ a → int_lt a b ≡ false
lt_false a b h = grind (arith, ints)

-- ---- tests of items

module _ {X : Type 0} where
  -- two tests that agree at each item count the same
  pub count_agree : (p q : X → Bool) (xs : List X) → All (λ x. p x ≡ q x) xs → count_by p xs ≡ count_by q xs
  count_agree p q [] h = refl
  count_agree p q (x ∷ xs) h =
      let e = All-head (λ y. p y ≡ q y) x xs h in
      let f = count_agree p q xs (All-tail (λ y. p y ≡ q y) x xs h) in
      cc (sum_by-cons (λ y. cond (p y) 1 0) x xs, sum_by-cons (λ y. cond (q y) 1 0) x xs, e, f)

  -- no item passes
  pub count_none : (p : X → Bool) (xs : List X) → All (λ x. p x ≡ false) xs → count_by p xs ≡ 0
  count_none p xs h =
      let most : count_by p xs ≤ length xs * 0 = sum_by-le (λ y. cond (p y) 1 0) 0 xs (λ k d within. rw (h k d within) (omega arith)) in
      omega arith

  -- what is filtered out does not pass
  pub count_filter : (p keep : X → Bool) (xs : List X) → All (λ x. keep x ≡ false → p x ≡ false) xs → count_by p (filter keep xs) ≡ count_by p xs
  count_filter p keep [] h = refl
  count_filter p keep (x ∷ xs) h =
      let first = sum_by-cons (λ y. cond (p y) 1 0) x in
      let rest = count_filter p keep xs (All-tail (λ y. keep y ≡ false → p y ≡ false) x xs h) in
      elim (cases_Bool (keep x)) [
        | inl e ↦ rw e (first (filter keep xs) ∙ ap (λ n. cond (p x) 1 0 + n) rest ∙ sym (first xs))
        | inr e ↦
            let out = All-head (λ y. keep y ≡ false → p y ≡ false) x xs h e in
            rw e (rest ∙ sym (first xs ∙ (rw out (omega arith))))
      ]

  -- a count that is not 0 has an item that passes
  pub some_passes : (p : X → Bool) (xs : List X) → 0 < count_by p xs → (x : X) × Contains xs x × (p x ≡ true)
  some_passes p xs some =
      let first = some_item (filter p xs) 0 (omega (arith, length-filter p xs)) in
      let among = Contains-slice_get (filter p xs) 0 first.0 first.1 in
      (first.0, Contains-from_filter p xs first.0 among, Contains-filter_passes p xs first.0 among)

  -- and the other way round
  pub passes_count : (p : X → Bool) (xs : List X) (x : X) → Contains xs x → p x ≡ true → 0 < count_by p xs
  passes_count p xs x (k, small, at) e =
      let one : ◌≡◌ {A = ℕ} (cond (p (get_or xs k x)) 1 0) 1 = rw (at, e) refl in
      omega (arith, get_or-le-sum_by (λ y. cond (p y) 1 0) xs k x small, one)
