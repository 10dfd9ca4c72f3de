-- what filters keep
use Rattle.std.proofs.Common.{Bool, List, [], ap, cond, false, get_or, inl, inr, length, subst, sym, take, take_all, true, ℕ, ◌++◌, ◌+◌, ◌<◌, ◌∙◌, ◌∷◌, ◌≡◌, ◌≤◌, Contains, filter}
use Rattle.lists.proofs.Words.{append-nil, All-contains, All-filter, filter_more, filter_passes}
use Rattle.std.proofs.lemmas.List.Elements.{All-contains_itself}
use Rattle.lists.proofs.Containing.{Contains-cons_cases, Contains-head, Contains-none, Contains-tail}

module _ {X : Type 0} where
  -- what a filter keeps
  pub Contains-from_filter : (p : X → Bool) (xs : List X) (x : X) → Contains (filter p xs) x → Contains xs x
  Contains-from_filter p xs x c = All-contains (Contains xs) (filter p xs) x (All-filter p (Contains xs) xs (All-contains_itself xs)) c

  pub Contains-filter_passes : (p : X → Bool) (xs : List X) (x : X) → Contains (filter p xs) x → p x ≡ true
  Contains-filter_passes p xs x c = All-contains (λ y. p y ≡ true) (filter p xs) x (filter_passes p xs) c

  pub Contains-filter : (p : X → Bool) (xs : List X) (x : X) → Contains xs x → p x ≡ true → Contains (filter p xs) x
  Contains-filter p [] x c t = absurd (Contains-none c)
  Contains-filter p (y ∷ ys) x c t = elim (Contains-cons_cases y ys x c) [
    | inl e ↦ subst (λ b. Contains (cond b (y ∷ filter p ys) (filter p ys)) x) (sym (ap p e ∙ t)) (subst (Contains (y ∷ filter p ys)) e (Contains-head y (filter p ys)))
    | inr d ↦ kept (p y) (Contains-filter p ys x d t)
  ] where
    kept : (b : Bool) → Contains (filter p ys) x → Contains (cond b (y ∷ filter p ys) (filter p ys)) x
    kept true k = Contains-tail y (filter p ys) x k
    kept false k = k

  -- one more item, which passes the test or does not
  pub filter_takes : (p : X → Bool) (xs : List X) (i : ℕ) (x : X) (ys : List X) → i < length xs → x ≡ get_or xs i x → true ≡ p x → ys ≡ filter p (take i xs) → ys ++ x ∷ [] ≡ filter p (take (i + 1) xs)
  filter_takes p xs i x ys small at passes e =
      ap (λ zs. zs ++ x ∷ []) e ∙ ap (λ b. filter p (take i xs) ++ cond b (x ∷ []) []) passes
      ∙ ap (λ y. filter p (take i xs) ++ cond (p y) (y ∷ []) []) at ∙ sym (filter_more p xs i x small)

  pub filter_leaves : (p : X → Bool) (xs : List X) (i : ℕ) (x : X) (ys : List X) → i < length xs → x ≡ get_or xs i x → false ≡ p x → ys ≡ filter p (take i xs) → ys ≡ filter p (take (i + 1) xs)
  filter_leaves p xs i x ys small at fails e =
      e ∙ sym (append-nil (filter p (take i xs))) ∙ ap (λ b. filter p (take i xs) ++ cond b (x ∷ []) []) fails
      ∙ ap (λ y. filter p (take i xs) ++ cond (p y) (y ∷ []) []) at ∙ sym (filter_more p xs i x small)

  pub filter_ends : (p : X → Bool) (xs : List X) (i : ℕ) (ys : List X) → length xs ≤ i → ys ≡ filter p (take i xs) → ys ≡ filter p xs
  filter_ends p xs i ys long e = e ∙ ap (filter p) (take_all i xs long)
