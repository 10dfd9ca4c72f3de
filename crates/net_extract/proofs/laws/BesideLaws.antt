-- what stands beside an item of one of two lists
use Rattle.std.proofs.Common.{ℕ, zero, suc, ◌≡◌, refl, List, [], ◌∷◌, inl, inr, subst, Contains, Some, slice_get}
use Rattle.lists.proofs.Words.{AllZip}
use Rattle.lists.proofs.Containing.{Contains-cons_cases, Contains-head, Contains-none, Contains-tail}

-- an item of one of two lists that go side by side has one in the other
module _ {X Y : Type 0} (R : X → Y → Type 0) where
  pub across_from : (xs : List X) (ys : List Y) (x : X) → AllZip R xs ys → Contains xs x → (y : Y) × Contains ys y × R x y
  across_from [] ys x zipped h = absurd (Contains-none h)
  across_from (a ∷ xs) [] x zipped h = absurd zipped
  across_from (a ∷ xs) (b ∷ ys) x zipped h = elim (Contains-cons_cases a xs x h) [
    | inl same ↦ (b, Contains-head b ys, subst (λ z. R z b) same zipped.0)
    | inr rest ↦ let found = across_from xs ys x zipped.1 rest in (found.0, Contains-tail b ys found.0 found.1, found.2)
  ]

  pub back_from : (xs : List X) (ys : List Y) (y : Y) → AllZip R xs ys → Contains ys y → (x : X) × Contains xs x × R x y
  back_from xs [] y zipped h = absurd (Contains-none h)
  back_from [] (b ∷ ys) y zipped h = absurd zipped
  back_from (a ∷ xs) (b ∷ ys) y zipped h = elim (Contains-cons_cases b ys y h) [
    | inl same ↦ (a, Contains-head a xs, subst (R a) same zipped.0)
    | inr rest ↦ let found = back_from xs ys y zipped.1 rest in (found.0, Contains-tail a xs found.0 found.1, found.2)
  ]

  -- the same by numbers
  pub across_at : (xs : List X) (ys : List Y) (k : ℕ) (x : X) → AllZip R xs ys → slice_get xs k ≡ Some x → (y : Y) × (slice_get ys k ≡ Some y) × R x y
  across_at [] ys k x zipped e = cc e
  across_at (a ∷ xs) [] k x zipped e = absurd zipped
  across_at (a ∷ xs) (b ∷ ys) zero x zipped e = let same : a ≡ x = cc e in (b, refl, subst (λ z. R z b) same zipped.0)
  across_at (a ∷ xs) (b ∷ ys) (suc k) x zipped e = across_at xs ys k x zipped.1 e

  pub back_at : (xs : List X) (ys : List Y) (k : ℕ) (y : Y) → AllZip R xs ys → slice_get ys k ≡ Some y → (x : X) × (slice_get xs k ≡ Some x) × R x y
  back_at xs [] k y zipped e = cc e
  back_at [] (b ∷ ys) k y zipped e = absurd zipped
  back_at (a ∷ xs) (b ∷ ys) zero y zipped e = let same : b ≡ y = cc e in (a, refl, subst (R a) same zipped.0)
  back_at (a ∷ xs) (b ∷ ys) (suc k) y zipped e = back_at xs ys k y zipped.1 e
