-- the boxes of an island, rectangle by rectangle and spot by spot
use Rattle.std.proofs.Common.{ℕ, zero, suc, List, [], ◌∷◌, ◌++◌, ◌≡◌, ◌<◌, ◌+◌, refl, subst, sym, inl, inr, ◌⊎◌, ◌↔◌, ap, ◌∙◌, arith, length, Contains, Option, Some, None, slice_get}
use Rattle.lists.proofs.Containing.{Contains-slice_get, Contains-none, slice_get-front, slice_get-back}
use Rattle.lists.proofs.Words.{same_Some, leb_tells, Contains-append_left, Contains-push, Contains-push_cases}
use Rattle.geo_core.specs.Plane.{Has, IsInUnion}
use Rattle.geo_core.specs.declared.plane.Half.{Half}
use Rattle.geo_core.specs.declared.plane.Rect.{Rect}
use Rattle.fault_model.specs.FaultNames.{IsOn, IslandLists}
use Rattle.fault_model.specs.declared.island.Spot.{Spot}
use Rattle.fault_model.proofs.UnionLaws.{union_none, union_push}
use Rattle.half_boxes.specs.HalfBoxes.{HasHalf}
use Rattle.half_boxes.specs.declared.boxes.HalfBox.{HalfBox}
use Rattle.remnants.specs.declared.parts.Loose.{Loose}
use Rattle.remnants.specs.inside.Parting.{HasLooseOf}
use Rattle.remnants.specs.inside.IslandBoxes.{IsOfRects, IsOfSpots, GainsHalves, AreIslandBoxes}
use Rattle.remnants.proofs.CutLaws.{in_left, in_either, of_part}

-- ---- one rectangle more

pub no_rects : (loose : List Loose) (owner : Option ℕ) → GainsHalves (IsOfRects [] owner) loose loose
no_rects loose owner terminal h = (λ l. inl l, λ g. elim g [ inl old ↦ old | inr m ↦ absurd (union_none m.lies.0 m.lies.2) ])

module _ (rects : List Rect) (owner : Option ℕ) (old loose : List Loose) (rect : Rect) (box : HalfBox) (is : (h : Half) → HasHalf box h ↔ IsOn (Has rect) h)
    (so_far : GainsHalves (IsOfRects rects owner) old loose) where
  abbrev last : Loose
  last = record { part = box; terminal = owner }

  rect_in : (terminal : Option ℕ) (h : Half) → HasLooseOf (loose ++ last ∷ []) terminal h → HasLooseOf old terminal h ⊎ IsOfRects (rects ++ rect ∷ []) owner terminal h
  rect_in terminal h l = elim (in_either loose (last ∷ []) l) [
    | inl before ↦ elim ((so_far terminal h).0 before) [
      | inl o ↦ inl o
      | inr m ↦ inr (record { of_terminal = m.of_terminal; lies = (m.lies.0, m.lies.1, (union_push m.lies.0 rects rect).1 (inl m.lies.2)) })
    ]
    | inr new ↦
        let x = of_part (Some box) owner new in
        let on = (is h).0 x.1 in
        inr (record { of_terminal = x.0; lies = (on.0, on.1, (union_push on.0 rects rect).1 (inr on.2)) })
  ]

  in_rect : (terminal : Option ℕ) (h : Half) → HasLooseOf old terminal h ⊎ IsOfRects (rects ++ rect ∷ []) owner terminal h → HasLooseOf (loose ++ last ∷ []) terminal h
  in_rect terminal h (inl o) = in_left loose (last ∷ []) ((so_far terminal h).1 (inl o))
  in_rect terminal h (inr m) = elim ((union_push m.lies.0 rects rect).0 m.lies.2) [
    | inl u ↦ in_left loose (last ∷ []) ((so_far terminal h).1 (inr (record { of_terminal = m.of_terminal; lies = (m.lies.0, m.lies.1, u) })))
    | inr has ↦ record { one = last; among = Contains-push loose last; of_terminal = m.of_terminal; has = (is h).1 (m.lies.0, m.lies.1, has) }
  ]

  pub rect_gained : GainsHalves (IsOfRects (rects ++ rect ∷ []) owner) old (loose ++ last ∷ [])
  rect_gained terminal h = (rect_in terminal h, in_rect terminal h)

-- ---- one spot more

pub no_spots : (loose : List Loose) → GainsHalves (IsOfSpots []) loose loose
no_spots loose terminal h = (λ l. inl l, λ g. elim g [ inl old ↦ old | inr m ↦ absurd (nothing terminal h m) ]) where
  nothing : (terminal : Option ℕ) (h : Half) → IsOfSpots [] terminal h → ⊥
  nothing None h none = none
  nothing (Some number) h a = Contains-none (Contains-slice_get [] number a.spot a.at)

-- an item of a list with one more at its end, by its number
pushed_cases : {X : Type 0} (xs : List X) (x y : X) (k : ℕ) → slice_get (xs ++ x ∷ []) k ≡ Some y → (slice_get xs k ≡ Some y) ⊎ ((k ≡ length xs) × (x ≡ y))
pushed_cases [] x y zero e = inr (refl, same_Some x y e)
pushed_cases [] x y (suc k) e = cc e
pushed_cases (z ∷ xs) x y zero e = inl e
pushed_cases (z ∷ xs) x y (suc k) e = elim (pushed_cases xs x y k e) [ inl a ↦ inl a | inr b ↦ inr (ap suc b.0, b.1) ]

module _ (spots : List Spot) (old loose new : List Loose) (spot : Spot) (number : ℕ) (count : number ≡ length spots) (so_far : GainsHalves (IsOfSpots spots) old loose)
    (here : GainsHalves (IsOfRects spot.rects (Some number)) loose new) where
  spot_in : (terminal : Option ℕ) (h : Half) → HasLooseOf new terminal h → HasLooseOf old terminal h ⊎ IsOfSpots (spots ++ spot ∷ []) terminal h
  spot_in None h l = elim ((here None h).0 l) [ inl before ↦ (so_far None h).0 before | inr m ↦ let some = m.of_terminal in cc some ]
  spot_in (Some other) h l = elim ((here (Some other) h).0 l) [
    | inl before ↦ elim ((so_far (Some other) h).0 before) [
      | inl o ↦ inl o
      | inr a ↦ inr (record { spot = a.spot; at = slice_get-front spots (spot ∷ []) other a.spot a.at; lies = a.lies })
    ]
    | inr m ↦
        let same : number ≡ other = same_Some number other m.of_terminal in
        let place : length spots + 0 ≡ other = omega arith in
        inr (record { spot = spot; at = ap (slice_get (spots ++ spot ∷ [])) (sym place) ∙ slice_get-back spots (spot ∷ []) 0; lies = m.lies })
  ]

  in_spot : (terminal : Option ℕ) (h : Half) → IsOfSpots (spots ++ spot ∷ []) terminal h → HasLooseOf new terminal h
  in_spot None h none = absurd none
  in_spot (Some other) h a = elim (pushed_cases spots spot a.spot other a.at) [
    | inl before ↦ (here (Some other) h).1 (inl ((so_far (Some other) h).1 (inr (record { spot = a.spot; at = before; lies = a.lies }))))
    | inr last ↦ (here (Some other) h).1 (inr (record { of_terminal = ap Some (count ∙ sym last.0); lies = subst (λ (s : Spot). IsOn (IsInUnion s.rects) h) (sym last.1) a.lies }))
  ]

  pub spot_gained : GainsHalves (IsOfSpots (spots ++ spot ∷ [])) old new
  spot_gained terminal h = (
    spot_in terminal h,
    λ g. elim g [ inl o ↦ (here terminal h).1 (inl ((so_far terminal h).1 (inl o))) | inr a ↦ in_spot terminal h a ],
  )

-- ---- the rectangles of no terminal, and then the spots

pub island_boxes : (island : IslandLists) (pieces loose : List Loose) → GainsHalves (IsOfRects island.pieces None) [] pieces → GainsHalves (IsOfSpots island.anchors) pieces loose
    → AreIslandBoxes island loose
island_boxes island pieces loose first second None h = (
  λ l. elim ((second None h).0 l) [
    | inl p ↦ elim ((first None h).0 p) [ inl none ↦ absurd (Contains-none none.among) | inr m ↦ m.lies ]
    | inr none ↦ absurd none
  ],
  λ on. (second None h).1 (inl ((first None h).1 (inr (record { of_terminal = refl; lies = on })))),
)
island_boxes island pieces loose first second (Some number) h = (
  λ l. elim ((second (Some number) h).0 l) [
    | inl p ↦ elim ((first (Some number) h).0 p) [ inl none ↦ absurd (Contains-none none.among) | inr m ↦ let none = m.of_terminal in cc none ]
    | inr a ↦ a
  ],
  λ a. (second (Some number) h).1 (inr a),
)

-- ---- numbers below a count

pub none_below : (k : ℕ) → Contains [] k ↔ (k < 0)
none_below k = (λ h. absurd (Contains-none h), λ small. absurd (omega arith))

pub below_more : (numbers : List ℕ) (count : ℕ) → ((k : ℕ) → Contains numbers k ↔ (k < count)) → (k : ℕ) → Contains (numbers ++ count ∷ []) k ↔ (k < count + 1)
below_more numbers count so_far k = (
  λ h. elim (Contains-push_cases numbers count k h) [ inl old ↦ let less = (so_far k).0 old in omega arith | inr same ↦ omega arith ],
  λ small. elim (leb_tells count k) [
    | inl y ↦ let from = y.1 in let same : count ≡ k = omega arith in subst (Contains (numbers ++ count ∷ [])) same (Contains-push numbers count)
    | inr y ↦ let less = y.1 in Contains-append_left numbers (count ∷ []) k ((so_far k).1 (omega arith))
  ],
)
