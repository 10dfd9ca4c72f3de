-- lists side by side, number by number
use Rattle.std.proofs.Common.{ℕ, zero, suc, ◌≡◌, refl, subst, List, [], ◌∷◌, length, get_or, arith, All, Some, slice_get}
use Rattle.lists.proofs.Words.{All-cons, All-nil, AllZip, get_or_from_slice_get, slice_get_within}

-- lists are side by side where their items are, number by number
pub zipped_by : {X : Type 0} (R : X → ℕ → Type 0) (xs : List X) (ns : List ℕ) → length ns ≡ length xs → ((i : ℕ) (x : X) → slice_get xs i ≡ Some x → R x (get_or ns i 0)) → AllZip R xs ns
zipped_by R [] [] long each = tt
zipped_by R [] (n ∷ ns) long each = absurd (omega arith)
zipped_by R (x ∷ xs) [] long each = absurd (omega arith)
zipped_by R (x ∷ xs) (n ∷ ns) long each = (each 0 x refl, zipped_by R xs ns (omega arith) (λ i y e. each (suc i) y e))

module _ {X Y : Type 0} (R : X → Y → Type 0) where
  -- and so are the items with one number
  pub zipped_at : (xs : List X) (ys : List Y) (d : Y) → AllZip R xs ys → (i : ℕ) (x : X) → slice_get xs i ≡ Some x → R x (get_or ys i d)
  zipped_at [] ys d h i x at = let none : ⊥ = cc at in absurd none
  zipped_at (y ∷ xs) [] d h i x at = absurd h
  zipped_at (y ∷ xs) (z ∷ ys) d h zero x at = let same : y ≡ x = cc at in subst (λ first. R first z) same h.0
  zipped_at (y ∷ xs) (z ∷ ys) d h (suc i) x at = zipped_at xs ys d h.1 i x at

  -- what each of the second list has by the first
  pub zipped_all : (P : Y → Type 0) → ((x : X) (y : Y) → R x y → P y) → (xs : List X) (ys : List Y) → AllZip R xs ys → All P ys
  zipped_all P g [] [] h = All-nil P
  zipped_all P g [] (y ∷ ys) h = absurd h
  zipped_all P g (x ∷ xs) [] h = absurd h
  zipped_all P g (x ∷ xs) (y ∷ ys) h = All-cons P y ys (g x y h.0) (zipped_all P g xs ys h.1)

-- an item has what each has
pub item_has : {X : Type 0} (P : X → Type 0) (xs : List X) → All P xs → (i : ℕ) (x : X) → slice_get xs i ≡ Some x → P x
item_has P xs all i x at = subst P (get_or_from_slice_get xs i x x at) (all i x (slice_get_within xs i x at))
