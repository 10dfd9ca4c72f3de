-- what lists contain, and what holds of each item
use Rattle.std.proofs.Common.{List, [], arith, get_or, inl, inr, length, refl, subst, suc, suc-add, sym, take, zero, zero-add, ℕ, ◌++◌, ◌+◌, ◌<◌, ◌∷◌, ◌≡◌, ◌⊎◌, All, Contains, Some, slice_get}
use Rattle.lists.proofs.Words.{take_more, All-cons, All-head, All-nil, All-tail, Contains-push_cases, get_or_from_slice_get, slice_get_read, slice_get_within}

module _ {X : Type 0} where
  -- an empty list contains nothing
  pub Contains-none : {x : X} → Contains [] x → ⊥
  Contains-none h = let small = h.1 in absurd (omega arith)

  -- the first item of a list is in it, and so is each of the rest
  pub Contains-head : (x : X) (xs : List X) → Contains (x ∷ xs) x
  Contains-head x xs = (0, omega arith, refl)

  pub Contains-tail : (x : X) (xs : List X) (y : X) → Contains xs y → Contains (x ∷ xs) y
  Contains-tail x xs y (k, h, e) = (suc k, omega arith, e)

  -- an item of a list is the first, or one of the rest
  pub Contains-cons_cases : (x : X) (xs : List X) (y : X) → Contains (x ∷ xs) y → (x ≡ y) ⊎ Contains xs y
  Contains-cons_cases x xs y (zero, h, e) = inl e
  Contains-cons_cases x xs y (suc k, h, e) = inr (k, omega arith, e)

  -- an item of a list has a number, and what has a number is an item
  pub number_of : (xs : List X) (x : X) → Contains xs x → (k : ℕ) × (slice_get xs k ≡ Some x)
  number_of xs x (k, small, e) = (k, slice_get_read xs (length xs) k x refl small (sym e))

  pub Contains-slice_get : (xs : List X) (k : ℕ) (x : X) → slice_get xs k ≡ Some x → Contains xs x
  Contains-slice_get xs k x e = (k, slice_get_within xs k x e, get_or_from_slice_get xs k x x e)

  -- what holds of whatever the list contains holds of each item
  pub all_of_each : (P : X → Type 0) (xs : List X) → ((x : X) → Contains xs x → P x) → All P xs
  all_of_each P xs each k d h = each (get_or xs k d) (k, h, at_default xs k d h)
    where
      at_default : (xs : List X) (k : ℕ) (d : X) → k < length xs → get_or xs k (get_or xs k d) ≡ get_or xs k d
      at_default [] k d h = absurd (omega arith)
      at_default (x ∷ xs) zero d h = refl
      at_default (x ∷ xs) (suc k) d h = at_default xs k d (omega arith)

  -- what a list of one item contains is that item
  pub Contains-one : (y x : X) → Contains (y ∷ []) x → y ≡ x
  Contains-one y x c = elim (Contains-cons_cases y [] x c) [ inl e ↦ e | inr d ↦ absurd (Contains-none d) ]

  -- one more item of a list
  pub Contains-take_cases : (xs : List X) (i : ℕ) (d x : X) → i < length xs → Contains (take (i + 1) xs) x → Contains (take i xs) x ⊎ (get_or xs i d ≡ x)
  Contains-take_cases xs i d x small c = Contains-push_cases (take i xs) (get_or xs i d) x (subst (λ ys. Contains ys x) (take_more xs i d small) c)

-- what stands at a number below the length
pub some_item : {X : Type 0} (xs : List X) (k : ℕ) → k < length xs → (x : X) × (slice_get xs k ≡ Some x)
some_item [] k small = absurd (omega arith)
some_item (x ∷ xs) zero small = (x, refl)
some_item (x ∷ xs) (suc k) small = some_item xs k (omega arith)

-- the parts of a list of which each item is so
module _ {X : Type 0} (P : X → Type 0) where
  pub All-front : (xs ys : List X) → All P (xs ++ ys) → All P xs
  All-front [] ys all = All-nil P
  All-front (x ∷ xs) ys all = All-cons P x xs (All-head P x (xs ++ ys) all) (All-front xs ys (All-tail P x (xs ++ ys) all))

  pub All-back : (xs ys : List X) → All P (xs ++ ys) → All P ys
  All-back [] ys all = all
  All-back (x ∷ xs) ys all = All-back xs ys (All-tail P x (xs ++ ys) all)

-- items of two lists, one after the other, by their numbers
pub slice_get-front : {X : Type 0} (xs ys : List X) (k : ℕ) (x : X) → slice_get xs k ≡ Some x → slice_get (xs ++ ys) k ≡ Some x
slice_get-front [] ys k x e = cc e
slice_get-front (y ∷ xs) ys zero x e = e
slice_get-front (y ∷ xs) ys (suc k) x e = slice_get-front xs ys k x e

pub slice_get-back : {X : Type 0} (xs ys : List X) (k : ℕ) → slice_get (xs ++ ys) (length xs + k) ≡ slice_get ys k
slice_get-back [] ys k = rw (zero-add k) refl
slice_get-back (x ∷ xs) ys k = rw (suc-add (length xs) k) (slice_get-back xs ys k)
