-- what mapped lists contain
use Rattle.std.proofs.Common.{List, [], ◌++◌, ap, inl, inr, map, refl, subst, sym, ◌∷◌, ◌≡◌, All, Contains}
use Rattle.lists.proofs.Words.{All-append, All-nil, Contains-append_cases, Contains-append_left, Contains-append_right, flat_map}
use Rattle.lists.proofs.Containing.{Contains-cons_cases, Contains-head, Contains-none, Contains-tail}

module _ {X Y : Type 0} where
  pub All-flat_map : (P : Y → Type 0) (f : X → List Y) (xs : List X) → ((x : X) → All P (f x)) → All P (flat_map f xs)
  All-flat_map P f [] each = All-nil P
  All-flat_map P f (x ∷ xs) each = All-append P (f x) (flat_map f xs) (each x) (All-flat_map P f xs each)

  pub flat_map-same : (f g : X → List Y) (xs : List X) → ((x : X) → Contains xs x → f x ≡ g x) → flat_map f xs ≡ flat_map g xs
  flat_map-same f g [] same = refl
  flat_map-same f g (x ∷ xs) same =
      let here : f x ≡ g x = same x (Contains-head x xs) in
      let there : flat_map f xs ≡ flat_map g xs = flat_map-same f g xs (λ y h. same y (Contains-tail x xs y h)) in
      cc

  pub Contains-flat_map : (f : X → List Y) (xs : List X) (x : X) (y : Y) → Contains xs x → Contains (f x) y → Contains (flat_map f xs) y
  Contains-flat_map f [] x y h there = absurd (Contains-none h)
  Contains-flat_map f (z ∷ xs) x y h there =
      elim (Contains-cons_cases z xs x h) [
        | inl e ↦ Contains-append_left (f z) (flat_map f xs) y (subst (λ w. Contains (f w) y) (sym e) there)
        | inr behind ↦ Contains-append_right (f z) (flat_map f xs) y (Contains-flat_map f xs x y behind there)
      ]

  pub Contains-map : (f : X → Y) (xs : List X) (x : X) → Contains xs x → Contains (map f xs) (f x)
  Contains-map f [] x h = absurd (Contains-none h)
  Contains-map f (y ∷ xs) x h = elim (Contains-cons_cases y xs x h) [
    | inl e ↦ subst (λ z. Contains (map f (y ∷ xs)) (f z)) e (Contains-head (f y) (map f xs))
    | inr behind ↦ Contains-tail (f y) (map f xs) (f x) (Contains-map f xs x behind)
  ]

  pub Contains-map_from : (f : X → Y) (xs : List X) (y : Y) → Contains (map f xs) y → (x : X) × Contains xs x × (f x ≡ y)
  Contains-map_from f [] y h = absurd (Contains-none h)
  Contains-map_from f (x ∷ xs) y h = elim (Contains-cons_cases (f x) (map f xs) y h) [
    | inl e ↦ (x, Contains-head x xs, e)
    | inr behind ↦ let from = Contains-map_from f xs y behind in (from.0, Contains-tail x xs from.0 from.1, from.2)
  ]

  pub Contains-flat_map_from : (f : X → List Y) (xs : List X) (y : Y) → Contains (flat_map f xs) y → (x : X) × Contains xs x × Contains (f x) y
  Contains-flat_map_from f [] y h = absurd (Contains-none h)
  Contains-flat_map_from f (x ∷ xs) y h = elim (Contains-append_cases (f x) (flat_map f xs) y h) [
    | inl here ↦ (x, Contains-head x xs, here)
    | inr behind ↦ let from = Contains-flat_map_from f xs y behind in (from.0, Contains-tail x xs from.0 from.1, from.2)
  ]

-- what comes of things that other things become
pub flat_map-map : {W X Y : Type 0} (f : X → List Y) (g : W → X) (ws : List W) → flat_map f (map g ws) ≡ flat_map (λ w. f (g w)) ws
flat_map-map f g [] = refl
flat_map-map f g (w ∷ ws) = ap (λ ys. f (g w) ++ ys) (flat_map-map f g ws)
