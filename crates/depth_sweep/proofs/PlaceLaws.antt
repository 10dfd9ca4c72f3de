-- places between which columns lie: sides of rectangles, moved into a window
use Rattle.std.proofs.Common.{ℕ, ◌-◌, ◌<◌, ◌≤◌, ◌≡◌, refl, sym, ap, ap₂, subst, ◌∙◌, arith, inl, inr, List, [], ◌∷◌, length, get_or, min, true, false, ℤ, pos, ◌≤ℤ◌, ◌<ℤ◌, int_lt, Contains}
use Rattle.lists.proofs.Words.{MatchOrdering, Ordering, Less, Equal, Greater, ints, clamps, int_eq, int_cmp, int_cmp_total, int_ranked, dedup, flat_map, IsPermutation, IsSorted, All-from_recursion, All-weaker, AllPairs-cons, Contains-dedup, Contains-from_dedup, Contains-permutation, IsPermutation-sym, get_or_default, cases_lt}
use Rattle.std.specs.Ordering.{eq_by_cmp}
use Rattle.std.specs.List.Sorted.{IsStrictlySortedBy, IsPartitionPoint, IsPartitionedBy}
use Rattle.std.proofs.lemmas.Cmp.{int_eq_equiv}
use Rattle.std.proofs.lemmas.List.Kept.{IsStrictlySortedBy-dedup}
use Rattle.geo_core.specs.Plane.{IsIn}
use Rattle.geo_core.specs.declared.plane.Rect.{Rect}
use Rattle.lists.proofs.Containing.{Contains-cons_cases, Contains-head, Contains-one, Contains-tail}
use Rattle.lists.proofs.Mapping.{Contains-flat_map, Contains-flat_map_from}
use Rattle.cover_tree.specs.Columns.{AreRising, place_at}
use Rattle.cover_tree.proofs.laws.ColumnLaws.{place_at-le}
use Rattle.depth_sweep.specs.RectSides.{IsSideOf}
use Rattle.skyline_runs.proofs.laws.DepthLaws.{from_lt, lt_true}
use Rattle.depth_sweep.specs.inside.SweepPlaces.{moved, moved_sides, IsMovedSide, ArePlaces}

-- ---- moved numbers

pub moved_low : (low high x : ℤ) → low ≤ℤ high → low ≤ℤ moved low high x
moved_low low high x h = omega (arith, ints, clamps)

pub moved_high : (low high x : ℤ) → low ≤ℤ high → moved low high x ≤ℤ high
moved_high low high x h = omega (arith, ints, clamps)

-- a number of the interval lies behind another number exactly where it lies behind the moved one
pub moved_behind : (low high x y : ℤ) → IsIn low high y → x ≤ℤ y → moved low high x ≤ℤ y
moved_behind low high x y h k = let a = h.from in let b = h.before in omega (arith, ints, clamps)

pub behind_moved : (low high x y : ℤ) → IsIn low high y → moved low high x ≤ℤ y → x ≤ℤ y
behind_moved low high x y h k = let a = h.from in let b = h.before in omega (arith, ints, clamps)

pub moved_before : (low high x y : ℤ) → IsIn low high y → y <ℤ x → y <ℤ moved low high x
moved_before low high x y h k = let a = h.from in let b = h.before in omega (arith, ints, clamps)

pub before_moved : (low high x y : ℤ) → IsIn low high y → y <ℤ moved low high x → y <ℤ x
before_moved low high x y h k = let a = h.from in let b = h.before in omega (arith, ints, clamps)

-- a moved number, by the sides of the interval into which it is moved
pub moved_at : (low high x low' high' x' r : ℤ) → r ≡ moved low' high' x' → low' ≡ low → high' ≡ high → x' ≡ x → r ≡ moved low high x
moved_at low high x low' high' x' r e a b f = e ∙ ap₂ (λ l h. moved l h x') a b ∙ ap (moved low high) f

-- ---- the lists of sides

module _ (window : Rect) (rects : List Rect) where
  abbrev at : ℤ → ℤ
  at x = moved window.x0 window.x1 x

  side_in : (side : ℤ) → IsSideOf rects side → Contains (flat_map (moved_sides window) rects) (at side)
  side_in side s = Contains-flat_map (moved_sides window) rects s.rect (at side) s.among (elim s.side [
    | inl e ↦ subst (λ x. Contains (moved_sides window s.rect) (at x)) (sym e) (Contains-head (at s.rect.x0) (at s.rect.x1 ∷ []))
    | inr e ↦ subst (λ x. Contains (moved_sides window s.rect) (at x)) (sym e)
        (Contains-tail (at s.rect.x0) (at s.rect.x1 ∷ []) (at s.rect.x1) (Contains-head (at s.rect.x1) []))
  ])

  from_sides : (x : ℤ) → Contains (flat_map (moved_sides window) rects) x → IsMovedSide window rects x
  from_sides x h =
      let found = Contains-flat_map_from (moved_sides window) rects x h in
      elim (Contains-cons_cases (at found.0.x0) (at found.0.x1 ∷ []) x found.2) [
        | inl e ↦ record { side = found.0.x0; of = record { rect = found.0; among = found.1; side = inl refl }; is = sym e }
        | inr last ↦ record { side = found.0.x1; of = record { rect = found.0; among = found.1; side = inr refl }; is = sym (Contains-one (at found.0.x1) x last) }
      ]

-- ---- sorted, and each once

less_is : (a b : ℤ) → int_cmp a b ≡ Less → a <ℤ b
less_is a b e = by_order (int_cmp a b) (int_ranked a b (int_cmp a b) refl) e
  where
    by_order : (r : Ordering) → MatchOrdering r (a <ℤ b) (a ≡ b) (b <ℤ a) → r ≡ Less → a <ℤ b
    by_order Less m f = m
    by_order Equal m f = cc
    by_order Greater m f = cc

rising : (xs : List ℤ) → IsStrictlySortedBy int_cmp xs → AreRising xs
unfolding IsStrictlySortedBy
rising [] h = λ i j d less small. absurd (omega arith)
rising (x ∷ xs) h = AllPairs-cons (λ a b. a <ℤ b) x xs
    (All-weaker (λ y. int_cmp x y ≡ Less) (λ y. x <ℤ y) (less_is x) xs (All-from_recursion (λ y. int_cmp x y ≡ Less) xs h.0))
    (rising xs h.1)

ties : (a b : ℤ) → int_eq a b ≡ eq_by_cmp int_cmp a b
ties a b = grind (arith, ints)

same_int : (a b : ℤ) → int_eq a b ≡ true → a ≡ b
same_int a b e = grind (arith, ints)

pub places_are : (window : Rect) (rects : List Rect) (sides sorted places : List ℤ) → sides ≡ flat_map (moved_sides window) rects → IsPermutation sides sorted → IsSorted int_cmp sorted
    → places ≡ dedup int_eq sorted → ArePlaces window rects places
places_are window rects sides sorted places is moves up e = record {
  rising = subst AreRising (sym e) (rising (dedup int_eq sorted) (IsStrictlySortedBy-dedup int_cmp_total ties sorted up));
  only = λ x h. from_sides window rects x (subst (λ xs. Contains xs x) is (Contains-permutation sorted sides x (IsPermutation-sym sides sorted moves)
      (Contains-from_dedup int_eq sorted x (subst (λ xs. Contains xs x) e h))));
  all = λ x s. subst (λ xs. Contains xs (moved window.x0 window.x1 x)) (sym e) (Contains-dedup int_eq_equiv same_int sorted (moved window.x0 window.x1 x)
      (Contains-permutation sides sorted (moved window.x0 window.x1 x) moves (subst (λ xs. Contains xs (moved window.x0 window.x1 x)) (sym is) (side_in window rects x s))));
}

-- ---- numbers of places

module _ (places : List ℤ) where
  -- a place that the list has is one by its number
  pub place_is : (k : ℕ) (d : ℤ) → k < length places → get_or places k d ≡ place_at places k
  place_is k d small = let e : min k (length places - 1) ≡ k = omega arith in get_or_default places k d (pos 0) small ∙ ap (λ n. get_or places n (pos 0)) (sym e)

  module _ (up : AreRising places) where
    pub first_le : (x : ℤ) → Contains places x → place_at places 0 ≤ℤ x
    first_le x (k, small, e) = let at = place_is k x small in let order = place_at-le places up 0 k (omega arith) in omega (arith, ints)

    pub le_last : (x : ℤ) → Contains places x → x ≤ℤ place_at places (length places - 1)
    le_last x (k, small, e) = let at = place_is k x small in let order = place_at-le places up k (length places - 1) (omega arith) in omega (arith, ints)

    -- of two numbers of places the one is less exactly where its place is
    pub less_by_place : (j k : ℕ) → place_at places j <ℤ place_at places k → j < k
    less_by_place j k h = elim (cases_lt j k) [
      | inl less ↦ less
      | inr more ↦ let order = place_at-le places up k j more in absurd (omega (arith, ints))
    ]

    -- ---- the number that a search finds

    pub parted : (x : ℤ) → IsPartitionedBy (λ y. int_lt y x) places
    parted x i j d le small t = elim (cases_lt i j) [
      | inl less ↦ let order = up i j d less small in let below = from_lt (get_or places j d) x t in lt_true (get_or places i d) x (omega (arith, ints))
      | inr more ↦ let e : i ≡ j = omega arith in subst (λ n. int_lt (get_or places n d) x ≡ true) (sym e) t
    ]

    pub found_number : (x : ℤ) (k : ℕ) → IsPartitionPoint (λ y. int_lt y x ≡ true) (λ y. int_lt y x ≡ false) places k → Contains places x → (k < length places) × (place_at places k ≡ x)
    found_number x k (lower, higher) (n, small, e) =
        let behind : k ≤ n = elim (cases_lt n k) [
          | inl before ↦ let below = from_lt (get_or places n x) x (lower n x (omega arith) before) in absurd (omega (arith, ints))
          | inr at ↦ at
        ] in
        let same : k ≡ n = elim (cases_lt k n) [
          | inl before ↦ let less = up k n x before small in let not_below = higher k x (omega arith) (omega arith) in absurd (cc (lt_true (get_or places k x) x (omega (arith, ints))))
          | inr at ↦ omega arith
        ] in
        let here = place_is n x small in
        (omega arith, ap (place_at places) same ∙ sym here ∙ e)
