-- the items of a list with their numbers
use Rattle.std.proofs.Common.{List, [], ap, arith, inl, inr, subst, suc, sym, zero, ℕ, ◌+◌, ◌∙◌, ◌∷◌, ◌≡◌, ◌≤◌, Contains, Some, slice_get}
use Rattle.lists.proofs.Words.{enumerate_from}
use Rattle.lists.proofs.Containing.{Contains-cons_cases, Contains-head, Contains-none, Contains-tail}

module _ {X : Type 0} where
  numbered_from : (k : ℕ) (xs : List X) (x : X) → Contains xs x → (n : ℕ) × Contains (enumerate_from k xs) (n, x)
  numbered_from k [] x h = absurd (Contains-none h)
  numbered_from k (y ∷ xs) x h = elim (Contains-cons_cases y xs x h) [
    | inl e ↦ (k, subst (λ z. Contains ((k, y) ∷ enumerate_from (k + 1) xs) (k, z)) e (Contains-head (k, y) (enumerate_from (k + 1) xs)))
    | inr behind ↦ let from = numbered_from (k + 1) xs x behind in (from.0, Contains-tail (k, y) (enumerate_from (k + 1) xs) (from.0, x) from.1)
  ]

  -- what a list contains has a number in it
  pub numbered_there : (xs : List X) (x : X) → Contains xs x → (n : ℕ) × Contains (enumerate_from 0 xs) (n, x)
  numbered_there = numbered_from 0

  numbers_from : (k : ℕ) (xs : List X) (one : ℕ × X) → Contains (enumerate_from k xs) one → k ≤ one.0
  numbers_from k [] one h = absurd (Contains-none h)
  numbers_from k (x ∷ xs) one h = elim (Contains-cons_cases (k, x) (enumerate_from (k + 1) xs) one h) [
    | inl e ↦ let first : k ≡ one.0 = ap (λ o. o.0) e in omega arith
    | inr behind ↦ let h' : k + 1 ≤ one.0 = numbers_from (k + 1) xs one behind in omega arith
  ]

  -- what has a number is contained in the list
  unnumbered_from : (k : ℕ) (xs : List X) (one : ℕ × X) → Contains (enumerate_from k xs) one → Contains xs one.1
  unnumbered_from k [] one h = absurd (Contains-none h)
  unnumbered_from k (x ∷ xs) one h = elim (Contains-cons_cases (k, x) (enumerate_from (k + 1) xs) one h) [
    | inl first ↦ subst (λ (o : ℕ × X). Contains (x ∷ xs) o.1) first (Contains-head x xs)
    | inr behind ↦ Contains-tail x xs one.1 (unnumbered_from (k + 1) xs one behind)
  ]

  pub unnumbered : (xs : List X) (one : ℕ × X) → Contains (enumerate_from 0 xs) one → Contains xs one.1
  unnumbered = unnumbered_from 0

  -- one number is that of one item
  pub numbered_alike : (k : ℕ) (xs : List X) (one other : ℕ × X) → Contains (enumerate_from k xs) one → Contains (enumerate_from k xs) other → one.0 ≡ other.0 → one ≡ other
  numbered_alike k [] one other h h' e = absurd (Contains-none h)
  numbered_alike k (x ∷ xs) one other h h' e =
      elim (Contains-cons_cases (k, x) (enumerate_from (k + 1) xs) one h) [
        | inl first ↦ elim (Contains-cons_cases (k, x) (enumerate_from (k + 1) xs) other h') [
          | inl also ↦ sym first ∙ also
          | inr behind ↦
              let same : k ≡ one.0 = ap (λ o. o.0) first in
              let later : k + 1 ≤ other.0 = numbers_from (k + 1) xs other behind in absurd (omega arith)
        ]
        | inr here ↦ elim (Contains-cons_cases (k, x) (enumerate_from (k + 1) xs) other h') [
          | inl first ↦
              let same : k ≡ other.0 = ap (λ o. o.0) first in
              let later : k + 1 ≤ one.0 = numbers_from (k + 1) xs one here in absurd (omega arith)
          | inr behind ↦ numbered_alike (k + 1) xs one other here behind e
        ]
      ]

-- the item at a place, with its number
pub slice_get-enumerate : {X : Type 0} (n : ℕ) (xs : List X) (k : ℕ) (x : X) → slice_get xs k ≡ Some x → slice_get (enumerate_from n xs) k ≡ Some (n + k, x)
slice_get-enumerate n [] k x e = cc e
slice_get-enumerate n (y ∷ xs) zero x e = let same : n + 0 ≡ n = omega arith in cc (e, same)
slice_get-enumerate n (y ∷ xs) (suc k) x e =
    let same : n + 1 + k ≡ n + suc k = omega arith in
    slice_get-enumerate (n + 1) xs k x e ∙ ap (λ i. Some (i, x)) same
