-- two lists side by side
use Rattle.std.proofs.Common.{List, [], ap, get_or, length, map, subst, suc, sym, take, zero, ℕ, ◌++◌, ◌+◌, ◌<◌, ◌∙◌, ◌∷◌, ◌≡◌, Some, slice_get}
use Rattle.lists.proofs.Words.{take_more, AllZip, zip}
use Rattle.std.specs.List.{AllByRecursion}

module _ {X Y : Type 0} (R : X → Y → Type 0) where
  -- pairs of lists, one behind the other
  pub AllZip-append : (xs xs' : List X) (ys ys' : List Y) → AllZip R xs ys → AllZip R xs' ys' → AllZip R (xs ++ xs') (ys ++ ys')
  AllZip-append [] xs' [] ys' h h' = h'
  AllZip-append [] xs' (y ∷ ys) ys' h h' = absurd h
  AllZip-append (x ∷ xs) xs' [] ys' h h' = absurd h
  AllZip-append (x ∷ xs) xs' (y ∷ ys) ys' h h' = (h.0, AllZip-append xs xs' ys ys' h.1 h')

  -- and one pair more
  pub AllZip-push : (xs : List X) (ys : List Y) (x : X) (y : Y) → AllZip R xs ys → R x y → AllZip R (xs ++ x ∷ []) (ys ++ y ∷ [])
  AllZip-push xs ys x y h r = AllZip-append xs (x ∷ []) ys (y ∷ []) h (r, tt)

  pub AllZip-more : (xs : List X) (ys : List Y) (i : ℕ) (x : X) (y : Y) → i < length xs → x ≡ get_or xs i x → AllZip R (take i xs) ys → R x y → AllZip R (take (i + 1) xs) (ys ++ y ∷ [])
  AllZip-more xs ys i x y more is h r =
      subst (λ l. AllZip R l (ys ++ y ∷ [])) (sym (take_more xs i x more ∙ ap (λ z. take i xs ++ z ∷ []) (sym is)))
      (AllZip-push (take i xs) ys x y h r)

-- the items of two lists at one place are a pair of the zipped list
pub slice_get-zip : {X Y : Type 0} (xs : List X) (ys : List Y) (k : ℕ) (x : X) (y : Y) → slice_get xs k ≡ Some x → slice_get ys k ≡ Some y → slice_get (zip xs ys) k ≡ Some (x, y)
slice_get-zip [] ys k x y e f = cc e
slice_get-zip (a ∷ xs) [] k x y e f = cc f
slice_get-zip (a ∷ xs) (b ∷ ys) zero x y e f = cc (e, f)
slice_get-zip (a ∷ xs) (b ∷ ys) (suc k) x y e f = slice_get-zip xs ys k x y e f

module _ {X Y : Type 0} where
  -- what each pair comes to, where the first of it is an item with the property
  pub AllZip-weaker : {Z : Type 0} (P : X → Type 0) (f : X → Z) (R : X → Y → Type 0) (S : Z → Y → Type 0) → ((x : X) (y : Y) → P x → R x y → S (f x) y) → (xs : List X) (ys : List Y)
      → AllByRecursion P xs → AllZip R xs ys → AllZip S (map f xs) ys
  AllZip-weaker P f R S g [] [] all h = tt
  AllZip-weaker P f R S g [] (y ∷ ys) all h = absurd h
  AllZip-weaker P f R S g (x ∷ xs) [] all h = absurd h
  AllZip-weaker P f R S g (x ∷ xs) (y ∷ ys) all h = (g x y all.0 h.0, AllZip-weaker P f R S g xs ys all.1 h.1)
