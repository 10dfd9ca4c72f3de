-- how many steps a sweep takes over two rectangles, each of which begins to the left of the end of the other
use Rattle.std.proofs.Common.{ℕ, zero, suc, ◌+◌, ◌≤◌, ◌^◌, ◌≡◌, ◌≢◌, refl, sym, subst, arith, List, [], ◌∷◌, ℤ, ◌<ℤ◌, ◌⊎◌, inl, inr, Contains}
use Rattle.lists.proofs.Words.{ints, All-cons, All-nil, AllPairs-cons}
use Rattle.lists.proofs.Containing.{Contains-cons_cases, Contains-head, Contains-one, Contains-tail}
use Rattle.lists.specs.Differing.{AreDifferent}
use Rattle.geo_core.specs.declared.plane.Rect.{Rect}
use Rattle.cover_tree.specs.TreeNodes.{IsLeastHeight}
use Rattle.depth_sweep.specs.RectSides.{IsInStepBound, IsSideOf}

abbrev Differ : ℤ → ℤ → Type 0
Differ x y = x ≢ y

-- numbers that rise are different
rising_differ : (w x y z : ℤ) → w <ℤ x → x <ℤ y → y <ℤ z → AreDifferent (w ∷ x ∷ y ∷ z ∷ [])
rising_differ w x y z low middle high =
    let wx : Differ w x = λ e. omega (arith, ints) in
    let wy : Differ w y = λ e. omega (arith, ints) in
    let wz : Differ w z = λ e. omega (arith, ints) in
    let xy : Differ x y = λ e. omega (arith, ints) in
    let xz : Differ x z = λ e. omega (arith, ints) in
    let yz : Differ y z = λ e. omega (arith, ints) in
    let last : AreDifferent (z ∷ []) = AllPairs-cons Differ z [] (All-nil (Differ z)) (λ i j d less within. absurd (omega arith)) in
    let two : AreDifferent (y ∷ z ∷ []) = AllPairs-cons Differ y (z ∷ []) (All-cons (Differ y) z [] yz (All-nil (Differ y))) last in
    let three : AreDifferent (x ∷ y ∷ z ∷ []) =
    AllPairs-cons Differ x (y ∷ z ∷ []) (All-cons (Differ x) y (z ∷ []) xy (All-cons (Differ x) z [] xz (All-nil (Differ x)))) two in
    AllPairs-cons Differ w (x ∷ y ∷ z ∷ [])
    (All-cons (Differ w) x (y ∷ z ∷ []) wx (All-cons (Differ w) y (z ∷ []) wy (All-cons (Differ w) z [] wz (All-nil (Differ w))))) three

module _ (a b : Rect) where
  -- the sides of the two
  abbrev sides : List ℤ
  sides = a.x0 ∷ b.x0 ∷ a.x1 ∷ b.x1 ∷ []

  is_side : (x : ℤ) → Contains sides x → IsSideOf (a ∷ b ∷ []) x
  is_side x there = elim (Contains-cons_cases a.x0 (b.x0 ∷ a.x1 ∷ b.x1 ∷ []) x there) [
    | inl e ↦ of_first (inl (sym e))
    | inr h ↦ elim (Contains-cons_cases b.x0 (a.x1 ∷ b.x1 ∷ []) x h) [
      | inl e ↦ of_second (inl (sym e))
      | inr k ↦ elim (Contains-cons_cases a.x1 (b.x1 ∷ []) x k) [
        | inl e ↦ of_first (inr (sym e))
        | inr l ↦ of_second (inr (sym (Contains-one b.x1 x l)))
      ]
    ]
  ] where
    of_first : (x ≡ a.x0) ⊎ (x ≡ a.x1) → IsSideOf (a ∷ b ∷ []) x
    of_first side = record { rect = a; among = Contains-head a (b ∷ []); side = side }

    of_second : (x ≡ b.x0) ⊎ (x ≡ b.x1) → IsSideOf (a ∷ b ∷ []) x
    of_second side = record { rect = b; among = Contains-tail a (b ∷ []) b (Contains-head b []); side = side }

  side_at : (rect : Rect) (x : ℤ) → Contains sides rect.x0 → Contains sides rect.x1 → (x ≡ rect.x0) ⊎ (x ≡ rect.x1) → Contains sides x
  side_at rect x left right (inl e) = subst (Contains sides) (sym e) left
  side_at rect x left right (inr e) = subst (Contains sides) (sym e) right

  side_there : (x : ℤ) → IsSideOf (a ∷ b ∷ []) x → Contains sides x
  side_there x s =
      let Side : Rect → Type 0 = λ r. (x ≡ r.x0) ⊎ (x ≡ r.x1) in
      elim (Contains-cons_cases a (b ∷ []) s.rect s.among) [
        | inl e ↦ side_at a x (0, omega arith, refl) (2, omega arith, refl) (subst Side (sym e) s.side)
        | inr h ↦ side_at b x (1, omega arith, refl) (3, omega arith, refl) (subst Side (sym (Contains-one b s.rect h)) s.side)
      ]

-- a tree over three columns has the height 2 at least
at_least_2 : (height : ℕ) → 3 ≤ 2 ^ height → 2 ≤ height
at_least_2 zero enough = absurd (omega arith)
at_least_2 (suc zero) enough = absurd (omega arith)
at_least_2 (suc (suc height)) enough = omega arith

pub two_rects : (a b : Rect) → a.x0 <ℤ b.x0 → b.x0 <ℤ a.x1 → a.x1 <ℤ b.x1 → (old new : ℕ) → IsInStepBound (a ∷ b ∷ []) old new → new ≤ old + 192
two_rects a b low middle high old new bound =
    let different : AreDifferent (sides a b) = rising_differ a.x0 b.x0 a.x1 b.x1 low middle high in
    let least : IsLeastHeight 3 2 = record { enough = omega arith; least = at_least_2 } in
    bound (sides a b) 2 (record { different = different; all = λ x. (is_side a b x, side_there a b x) }) least
