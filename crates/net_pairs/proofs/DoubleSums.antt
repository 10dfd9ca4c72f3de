-- sums over one list and over two lists
use Rattle.std.proofs.Common.{ℕ, Bool, List, [], ◌∷◌, ◌+◌, ◌≡◌, ◌∙◌, refl, sym, ap, subst, not, true, false, inl, inr, arith, Contains, filter, sum_by}
use Rattle.lists.proofs.Words.{sum_by-cons, sum_by-append, cases_Bool}
use Rattle.lists.proofs.Containing.{Contains-head, Contains-tail}
use Rattle.std.proofs.lemmas.List.Filters.{sum_by-filter_both}

module _ {X : Type 0} where
  -- functions that agree on a list have one sum
  pub sums_agree : (f g : X → ℕ) (xs : List X) → ((x : X) → Contains xs x → f x ≡ g x) → sum_by f xs ≡ sum_by g xs
  sums_agree f g [] same = refl
  sums_agree f g (x ∷ xs) same =
      let a = sum_by-cons f x xs in let b = sum_by-cons g x xs in
      let here = same x (Contains-head x xs) in
      let rest = sums_agree f g xs (λ y h. same y (Contains-tail x xs y h)) in
      omega (arith, a, b, here, rest)

  pub sum_of_zeros : (f : X → ℕ) (xs : List X) → ((x : X) → Contains xs x → f x ≡ 0) → sum_by f xs ≡ 0
  sum_of_zeros f [] zero = refl
  sum_of_zeros f (x ∷ xs) zero =
      let a = sum_by-cons f x xs in
      let here = zero x (Contains-head x xs) in
      let rest = sum_of_zeros f xs (λ y h. zero y (Contains-tail x xs y h)) in
      omega (arith, a, here, rest)

  pub sums_added : (f g : X → ℕ) (xs : List X) → sum_by (λ x. f x + g x) xs ≡ sum_by f xs + sum_by g xs
  sums_added f g [] = refl
  sums_added f g (x ∷ xs) =
      let a = sum_by-cons f x xs in let b = sum_by-cons g x xs in let c = sum_by-cons (λ y. f y + g y) x xs in
      let rest = sums_added f g xs in omega (arith, a, b, c, rest)

  -- what passes a test, what passes another that the first one rules out, and the rest, where the function is 0
  pub sum_of_kinds : (f : X → ℕ) (p q : X → Bool) (xs : List X) → ((x : X) → p x ≡ true → q x ≡ false) → ((x : X) → p x ≡ false → q x ≡ false → f x ≡ 0)
      → sum_by f (filter p xs) + sum_by f (filter q xs) ≡ sum_by f xs
  sum_of_kinds f p q [] apart zero = refl
  sum_of_kinds f p q (x ∷ xs) apart zero =
      let rest = sum_of_kinds f p q xs apart zero in
      let whole = sum_by-cons f x xs in
      let a = sum_by-cons f x (filter p xs) in let b = sum_by-cons f x (filter q xs) in
      elim (cases_Bool (p x)) [
        | inl t ↦ let u = apart x t in rw (t, u) (omega (arith, rest, whole, a))
        | inr t ↦ elim (cases_Bool (q x)) [
          | inl u ↦ rw (t, u) (omega (arith, rest, whole, b))
          | inr u ↦ let z = zero x t u in rw (t, u) (omega (arith, rest, whole, z))
        ]
      ]

module _ {X Y : Type 0} where
  -- the order of two sums
  pub sums_swapped : (f : X → Y → ℕ) (xs : List X) (ys : List Y) → sum_by (λ x. sum_by (f x) ys) xs ≡ sum_by (λ y. sum_by (λ x. f x y) xs) ys
  sums_swapped f [] ys = sym (sum_of_zeros (λ y. sum_by (λ x. f x y) []) ys (λ y h. refl))
  sums_swapped f (x ∷ xs) ys =
      sum_by-cons (λ z. sum_by (f z) ys) x xs ∙ ap (λ n. sum_by (f x) ys + n) (sums_swapped f xs ys)
      ∙ sym (sums_added (f x) (λ y. sum_by (λ z. f z y) xs) ys)
      ∙ sums_agree (λ y. f x y + sum_by (λ z. f z y) xs) (λ y. sum_by (λ z. f z y) (x ∷ xs)) ys (λ y h. sym (sum_by-cons (λ z. f z y) x xs))

module _ {X : Type 0} where
  doubled : (f : X → X → ℕ) (xs : List X) → sum_by (λ x. sum_by (λ y. f x y + f y x) xs) xs ≡ sum_by (λ x. sum_by (f x) xs) xs + sum_by (λ x. sum_by (f x) xs) xs
  doubled f xs =
      sums_agree (λ x. sum_by (λ y. f x y + f y x) xs) (λ x. sum_by (f x) xs + sum_by (λ y. f y x) xs) xs (λ x h. sums_added (f x) (λ y. f y x) xs)
      ∙ sums_added (λ x. sum_by (f x) xs) (λ x. sum_by (λ y. f y x) xs) xs
      ∙ ap (λ n. sum_by (λ x. sum_by (f x) xs) xs + n) (sums_swapped (λ x y. f y x) xs xs)

  -- functions that have the same sum both ways round have one sum over all pairs
  pub sums_both_ways : (f g : X → X → ℕ) (xs : List X) → ((x y : X) → f x y + f y x ≡ g x y + g y x) → sum_by (λ x. sum_by (f x) xs) xs ≡ sum_by (λ x. sum_by (g x) xs) xs
  sums_both_ways f g xs same =
      let a = doubled f xs in let b = doubled g xs in
      let c = sums_agree (λ x. sum_by (λ y. f x y + f y x) xs) (λ x. sum_by (λ y. g x y + g y x) xs) xs (λ x h. sums_agree (λ y. f x y + f y x) (λ y. g x y + g y x) xs (λ y k. same x y)) in
      halved (sum_by (λ x. sum_by (f x) xs) xs) (sum_by (λ x. sum_by (g x) xs) xs) (sym a ∙ c ∙ b)
    where
      halved : (m n : ℕ) → m + m ≡ n + n → m ≡ n
      halved m n e = omega arith
