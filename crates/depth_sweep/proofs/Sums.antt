-- sums over lists, and lists that are made two items at a time
use Rattle.std.proofs.Common.{ℕ, ◌+◌, ◌<◌, ◌≡◌, refl, sym, ap, ◌∙◌, arith, List, [], ◌∷◌, ◌++◌, length, take, get_or, append_assoc, sum_by, All}
use Rattle.lists.proofs.Words.{flat_map, slice_get_read, sum_by-cons, All-head, All-tail}
use Rattle.lists.proofs.Reading.{flat_mapped_at}

module _ {X : Type 0} where
  -- terms that are the same have the same sum
  pub sum_by-same : (f g : X → ℕ) (xs : List X) → All (λ x. f x ≡ g x) xs → sum_by f xs ≡ sum_by g xs
  sum_by-same f g [] same = refl
  sum_by-same f g (x ∷ xs) same =
      let here : f x ≡ g x = All-head (λ y. f y ≡ g y) x xs same in
      let rest = sum_by-same f g xs (All-tail (λ y. f y ≡ g y) x xs same) in
      omega (arith, sum_by-cons f x xs, sum_by-cons g x xs)

  pub sum_by-none : (f : X → ℕ) (xs : List X) → All (λ x. f x ≡ 0) xs → sum_by f xs ≡ 0
  sum_by-none f [] none = refl
  sum_by-none f (x ∷ xs) none =
      let here : f x ≡ 0 = All-head (λ y. f y ≡ 0) x xs none in
      let rest = sum_by-none f xs (All-tail (λ y. f y ≡ 0) x xs none) in
      omega (arith, sum_by-cons f x xs)

  pub sum_by-add : (f g h : X → ℕ) (xs : List X) → ((x : X) → h x ≡ f x + g x) → sum_by h xs ≡ sum_by f xs + sum_by g xs
  sum_by-add f g h [] both = refl
  sum_by-add f g h (x ∷ xs) both =
      let here = both x in
      let rest = sum_by-add f g h xs both in
      omega (arith, sum_by-cons f x xs, sum_by-cons g x xs, sum_by-cons h x xs)

-- two items more for the next item of a list
pub pushed_two : {X Y : Type 0} (f : X → List Y) (xs : List X) (k : ℕ) (x : X) (a b : Y) (old mid new : List Y) → k < length xs → x ≡ get_or xs k x → f x ≡ a ∷ b ∷ [] → old ≡ flat_map f (take k xs)
    → mid ≡ old ++ a ∷ [] → new ≡ mid ++ b ∷ [] → new ≡ flat_map f (take (k + 1) xs)
pushed_two f xs k x a b old mid new small is two so_far first second =
    second ∙ ap (λ ys. ys ++ b ∷ []) (first ∙ ap (λ ys. ys ++ a ∷ []) so_far) ∙ append_assoc (flat_map f (take k xs)) (a ∷ []) (b ∷ [])
    ∙ ap (λ ys. flat_map f (take k xs) ++ ys) (sym two) ∙ flat_mapped_at f xs k x (slice_get_read xs (length xs) k x refl small is)
