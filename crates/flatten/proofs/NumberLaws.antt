-- the numbers below a count, and what can be decided of the items of a list
use Rattle.std.proofs.Common.{ℕ, suc, ◌+◌, ◌<◌, ◌≡◌, ◌⊎◌, inl, inr, List, [], ◌∷◌, ◌++◌, map, drop, get_or, sym, ap, subst, ◌∙◌, arith, All, Contains}
use Rattle.lists.proofs.Words.{range_with_len, drop-cons, take-append-drop, length-range_with_len, get_or-range_with_len, length-map-range_with_len, get_or-map-range_with_len}
use Rattle.std.proofs.lemmas.List.FromFn.{take-map-range_with_len}
use Rattle.lists.proofs.Containing.{Contains-cons_cases, Contains-head, Contains-none, Contains-tail}

pub number_there : (n k : ℕ) → k < n → Contains (range_with_len 0 n) k
number_there n k h = let zero-more : 0 + k ≡ k = omega arith in (k, omega (arith, length-range_with_len 0 n), get_or-range_with_len 0 n k k h ∙ zero-more)

pub number_below : (n k : ℕ) → Contains (range_with_len 0 n) k → k < n
number_below n k (i, below, e) =
    let within : i < n = omega (arith, length-range_with_len 0 n) in
    let is : get_or (range_with_len 0 n) i k ≡ 0 + i = get_or-range_with_len 0 n i k within in
    omega arith

module _ {N : Type 0} (say : ℕ → N) where
  -- what holds of each number holds of all
  pub all_numbers : (P : N → Type 0) (n : ℕ) → ((k : ℕ) → k < n → P (say k)) → All P (map say (range_with_len 0 n))
  all_numbers P n each k d h =
      let within : k < n = omega (arith, length-map-range_with_len say 0 n) in
      let zero-more : 0 + k ≡ k = omega arith in
      subst P (sym (get_or-map-range_with_len say 0 n k k d within zero-more)) (each k within)

  -- the numbers are parted at one of them
  pub numbers_parted : (n k : ℕ) → k < n → map say (range_with_len 0 n) ≡ map say (range_with_len 0 k) ++ say k ∷ drop (suc k) (map say (range_with_len 0 n))
  numbers_parted n k h =
      let zero-more : 0 + k ≡ k = omega arith in
      sym (take-append-drop k (map say (range_with_len 0 n)))
      ∙ ap (λ front. front ++ drop k (map say (range_with_len 0 n))) (take-map-range_with_len say 0 n k (omega arith))
      ∙ ap (λ rest. map say (range_with_len 0 k) ++ rest) (drop-cons (map say (range_with_len 0 n)) k (say k) (omega (arith, length-map-range_with_len say 0 n)))
      ∙ ap (λ x. map say (range_with_len 0 k) ++ x ∷ drop (suc k) (map say (range_with_len 0 n))) (get_or-map-range_with_len say 0 n k k (say k) h zero-more)

-- one item of a list has a property, or none has, where each has it or not
pub one_or_none : {X : Type 0} (P : X → Type 0) → ((x : X) → P x ⊎ (P x → ⊥)) → (xs : List X) → ((x : X) × Contains xs x × P x) ⊎ ((x : X) → Contains xs x → P x → ⊥)
one_or_none P each [] = inr (λ x there has. Contains-none there)
one_or_none P each (x ∷ xs) = elim (each x) [
  | inl has ↦ inl (x, Contains-head x xs, has)
  | inr lacks ↦ elim (one_or_none P each xs) [
    | inl (y, there, has) ↦ inl (y, Contains-tail x xs y there, has)
    | inr none ↦ inr (λ y there has. elim (Contains-cons_cases x xs y there) [ inl same ↦ lacks (subst P (sym same) has) | inr behind ↦ none y behind has ])
  ]
]
