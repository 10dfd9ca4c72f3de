-- things in the order of their keys, such as pieces or terminals in that of their islands
use Rattle.std.proofs.Common.{ℕ, ◌+◌, ◌<◌, ◌≤◌, ◌≡◌, refl, sym, ap, ◌∙◌, subst, List, [], ◌∷◌, ◌++◌, Bool, true, false, not, ◌&&◌, length, take, drop, map, ltb, leb, nat_cmp, arith, ◌==◌, All, filter}
use Rattle.lists.proofs.Words.{Called, ComputesKey, Decides-eqb, is_lt, nat_tests, always_returns_same, append-nil, get_or-take, length-drop, length-take, take-append-drop, All-head, All-tail, filter-append}
use Rattle.std.specs.List.{AllWithin}
use Rattle.std.specs.List.Sorted.{IsPartitionPoint, IsStableByKey}
use Rattle.std.proofs.lemmas.List.{get_or-drop}
use Rattle.std.proofs.lemmas.List.Elements.{filter_agree}
use denote.Param.Members.{Mut}
use denote.Ref.{Bor}
use Rattle.geo_core.specs.declared.plane.Rect.{Rect}
use Rattle.net_extract.specs.AnchoredIslands.{rects_of_island}
use Rattle.net_extract.specs.NetLists.{NetLists, pieces_on}
use Rattle.net_extract.specs.declared.pieces.Piece.{Piece}

-- a test that nothing passes, and one that all pass
module _ {X : Type 0} (test : X → Bool) where
  pub none_kept : (xs : List X) → All (λ x. test x ≡ false) xs → filter test xs ≡ []
  none_kept [] all = refl
  none_kept (x ∷ xs) all = rw (All-head (λ y. test y ≡ false) x xs all) (none_kept xs (All-tail (λ y. test y ≡ false) x xs all))

  pub all_kept : (xs : List X) → All (λ x. test x ≡ true) xs → filter test xs ≡ xs
  all_kept [] all = refl
  all_kept (x ∷ xs) all = rw (All-head (λ y. test y ≡ true) x xs all) (ap (λ ys. x ∷ ys) (all_kept xs (All-tail (λ y. test y ≡ true) x xs all)))

tied : (a b : ℕ) → (not (is_lt (nat_cmp a b)) && not (is_lt (nat_cmp b a))) ≡ (b == a)
tied a b = grind (arith, nat_tests)

module _ {X : Type 0} (key : X → ℕ) where
  -- ---- the part of a list with one key

  module _ (number : ℕ) where
    abbrev pub has_key : X → Bool
    has_key x = key x == number

    both_parts : (xs : List X) (i : ℕ) → filter has_key xs ≡ filter has_key (take i xs) ++ filter has_key (drop i xs)
    both_parts xs i = ap (filter has_key) (sym (take-append-drop i xs)) ∙ filter-append has_key (take i xs) (drop i xs)

    -- what has a lesser key in front does not count
    in_rest : (xs : List X) (i : ℕ) → i ≤ length xs → AllWithin (λ x. ltb (key x) number ≡ true) xs 0 i → filter has_key (drop i xs) ≡ filter has_key xs
    in_rest xs i small less =
        let none = none_kept has_key (take i xs) (λ k d within.
        let lt : k < i = omega (arith, length-take i xs) in
        let h = less k d (omega arith) lt in
        rw get_or-take (grind (arith, nat_tests, h))) in
        sym (both_parts xs i ∙ ap (λ ys. ys ++ filter has_key (drop i xs)) none)

    -- and what has a greater one behind does not either
    in_front : (xs : List X) (i : ℕ) → AllWithin (λ x. leb (key x) number ≡ false) xs i (length xs) → filter has_key (take i xs) ≡ filter has_key xs
    in_front xs i more =
        let none = none_kept has_key (drop i xs) (λ k d within.
        let lt : i + k < length xs = omega (arith, length-drop i xs) in
        let h = more (i + k) d (omega arith) lt in
        rw get_or-drop (grind (arith, nat_tests, h))) in
        sym (both_parts xs i ∙ ap (λ ys. filter has_key (take i xs) ++ ys) none ∙ append-nil (filter has_key (take i xs)))

    module _ (sorted : List X) (first count : ℕ) (bound : first ≤ length sorted)
        (less : IsPartitionPoint (λ x. ltb (key x) number ≡ true) (λ x. ltb (key x) number ≡ false) sorted first)
        (more : IsPartitionPoint (λ x. leb (key x) number ≡ true) (λ x. leb (key x) number ≡ false) (drop first sorted) count) where
      abbrev pub between : List X
      between = take count (drop first sorted)

      -- what stands between the lesser keys and the greater ones is all that has the key, and nothing else
      pub part_has : filter has_key between ≡ filter has_key sorted
      part_has = in_front (drop first sorted) count more.1 ∙ in_rest sorted first bound less.0

      pub part_alone : All (λ x. key x ≡ number) between
      part_alone k d within =
          let lt : k < count = omega (arith, length-take count (drop first sorted)) in
          let far : first + k < length sorted = omega (arith, length-take count (drop first sorted), length-drop first sorted) in
          let at_least = less.1 (first + k) d (omega arith) far in
          let at_most = rw get_or-drop at (more.0 k d (omega arith) lt) in
          rw (get_or-take, get_or-drop) (grind (arith, nat_tests, at_least, at_most))

      pub part_is : between ≡ filter has_key sorted
      part_is = sym (all_kept has_key between (λ k d within. (Decides-eqb _ number).1 (part_alone k d within))) ∙ part_has

  -- ---- a stable sort by the key

  -- it leaves what has one key in its order
  kept : (one : X) (xs ys : List X) → IsStableByKey key nat_cmp xs ys → filter (has_key (key one)) ys ≡ filter (has_key (key one)) xs
  kept one xs ys stable =
      let agree = λ (other : X). tied (key one) (key other) in
      sym (filter_agree _ _ agree ys) ∙ stable one ∙ filter_agree _ _ agree xs

  -- where there is something with each key
  pub kept_by_sort : (some : ℕ → X) → ((number : ℕ) → key (some number) ≡ number)
      → {F : Type 0} {g : Mut F (Bor X × Unit {0}) ℕ} {f : F} (xs ys : List X) → ((k : X → ℕ) → ComputesKey g k f → IsStableByKey k nat_cmp xs ys)
      → ((a : Bor X × Unit {0}) (r : ℕ) (f' : F) → Called g f a r f' → (r ≡ key a.0.now) × (f' ≡ f)) → (number : ℕ)
      → filter (has_key number) ys ≡ filter (has_key number) xs
  kept_by_sort some keyed {g = g} {f = f} xs ys stable h number =
      subst (λ n. filter (has_key n) ys ≡ filter (has_key n) xs) (keyed number)
      (kept (some number) xs ys (stable key (always_returns_same g (λ a r. r ≡ key a.0.now) f h)))

-- the rectangles of the part of an island are those of all pieces that carry it
module _ (nets : NetLists) (metal number : ℕ) where
  abbrev pub carries : Piece → Bool
  carries piece = piece.island == number

  pub rects_of_part : (pieces sorted whole part : List Piece) (rects : List Rect) → pieces ≡ pieces_on nets metal
      → filter carries sorted ≡ filter carries pieces → whole ≡ sorted
      → filter carries part ≡ filter carries whole → rects ≡ map (λ (piece : Piece). piece.rect) (filter carries part) → rects ≡ rects_of_island nets metal number
  rects_of_part pieces sorted whole part rects e same f in_part is =
      is ∙ ap (map (λ (piece : Piece). piece.rect)) (in_part ∙ ap (filter carries) f ∙ same ∙ ap (filter carries) e)
