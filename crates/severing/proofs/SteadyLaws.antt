-- defects in one line of a zone where nothing near changes part the same
use Rattle.std.proofs.Common.{ℕ, zero, suc, ◌≤◌, ◌≡◌, refl, subst, arith, List, Contains, length, ℤ, pos, ◌+ℤ◌, ◌-ℤ◌, ◌<ℤ◌, ◌≤ℤ◌, ◌↔◌}
use Rattle.lists.proofs.Words.{ints, by_lt_z}
use Rattle.lists.proofs.Containing.{Contains-slice_get}
use Rattle.geo_core.specs.Plane.{IsIn, Has, IsInUnion, low_along, high_along}
use Rattle.geo_core.specs.declared.axis.Axis.{Axis}
use Rattle.geo_core.specs.declared.plane.Rect.{Rect}
use Rattle.fault_model.specs.FaultNames.{IsOn, IsInFootprint, IslandLists, IsInAnchor, or_zero}
use Rattle.fault_model.specs.Halves.{IsUnder}
use Rattle.fault_model.proofs.RangeLaws.{or_zero_is}
use Rattle.half_boxes.specs.declared.boxes.HalfBox.{HalfBox}
use Rattle.severing.specs.Severing.{IsSevered}
use Rattle.severing.specs.Changes.{HasNear, IsNoted, IsSteady}
use Rattle.severing.proofs.AdvanceLaws.{Advances, onward, backward, IsMiddle, front_middle, back_middle}
use Rattle.severing.proofs.MoveLaws.{AreAlike, parted_before}
use Rattle.severing.proofs.TurnedLaws.{turned, cell_at, hit_turned, turned_parted, parted_from_turned, along_zone, zone_along}
use Rattle.severing.proofs.NotedLaws.{noted_alike}

-- what is the same at each number of an interval and the next is the same at any two
module _ (P : ℤ → Type 0) (low high : ℤ) (next : (x : ℤ) → IsIn low high x → IsIn low high (x +ℤ pos 1) → P x ↔ P (x +ℤ pos 1)) where
  same_after : (x : ℤ) (n : ℕ) → IsIn low high x → (x +ℤ pos n) <ℤ high → P x ↔ P (x +ℤ pos n)
  same_after x zero h k = let e : x ≡ x +ℤ pos 0 = omega (arith, ints) in subst (λ z. P x ↔ P z) e (λ p. p, λ p. p)
  same_after x (suc n) h k =
      let a = h.from in
      let e : x +ℤ pos n +ℤ pos 1 ≡ x +ℤ pos (suc n) = omega (arith, ints) in
      let before = same_after x n h (omega (arith, ints)) in
      let last = next (x +ℤ pos n) (record { from = omega (arith, ints); before = omega (arith, ints) }) (record { from = omega (arith, ints); before = omega (arith, ints) }) in
      subst (λ z. P x ↔ P z) e (λ p. last.0 (before.0 p), λ p. before.1 (last.1 p))

  same_upward : (x w : ℤ) → IsIn low high x → IsIn low high w → x ≤ℤ w → P x ↔ P w
  same_upward x w h k le =
      let n = or_zero_is (w -ℤ x) (omega (arith, ints)) in
      let b = k.before in
      let e : x +ℤ pos (or_zero (w -ℤ x)) ≡ w = omega (arith, ints) in
      subst (λ z. P x ↔ P z) e (same_after x (or_zero (w -ℤ x)) h (omega (arith, ints)))

  pub same_at_both : (x w : ℤ) → IsIn low high x → IsIn low high w → P x ↔ P w
  same_at_both x w h k = by_lt_z x w (λ l. same_upward x w h k (omega (arith, ints))) (λ l. let s = same_upward w x k h l in (s.1, s.0))

module _ (axis : Axis) (island : IslandLists) (zone : Rect) (side : ℕ) (near : List HalfBox) (some : 1 ≤ side) (noted : HasNear island zone side near) (steady : IsSteady axis zone side near) where
  module _ (x y : ℤ) (here : Has zone (cell_at axis x y)) (next : Has zone (cell_at axis (x +ℤ pos 1) y)) where
    abbrev low : ℤ
    low = y +ℤ y +ℤ pos 1 -ℤ pos side

    abbrev high : ℤ
    high = y +ℤ y +ℤ pos 1 +ℤ pos side

    -- a union of rectangles is alike, of which each is noted
    union_alike : (rects : List Rect) → ((rect : Rect) → Contains rects rect → IsNoted zone side near (IsOn (Has rect)))
        → (middle : ℤ) → IsMiddle x side middle → AreAlike (λ h. IsOn (IsInUnion rects) (turned axis h)) middle low high
    union_alike rects each middle is w z v near_w near_z row (c, lies, u) =
        let alike = noted_alike axis zone side x y here next middle is near steady (IsOn (Has u.rect)) (each u.rect (Contains-slice_get rects u.number u.rect u.at)) in
        let on = alike w z v near_w near_z row (c, lies, u.has) in
        (on.0, on.1, record { number = u.number; rect = u.rect; at = u.at; has = on.2 })

    metal_alike : (middle : ℤ) → IsMiddle x side middle → AreAlike (λ h. IsOn (IsInUnion island.pieces) (turned axis h)) middle low high
    metal_alike = union_alike island.pieces noted.pieces

    anchor_alike : (middle : ℤ) → IsMiddle x side middle → (k : ℕ) → AreAlike (λ h. IsInAnchor island.anchors k (turned axis h)) middle low high
    anchor_alike middle is k w z v near_w near_z row a =
        let alike = union_alike a.spot.rects (λ rect. noted.anchors a.spot rect (Contains-slice_get island.anchors k a.spot a.at)) middle is in
        record { spot = a.spot; at = a.at; lies = alike w z v near_w near_z row a.lies }

    -- from where the defect is after a move to where it was before
    severed_before : (i k first middle beyond : ℤ) → Advances (IsUnder i side) (IsUnder k side) first middle beyond → IsMiddle x side middle
        → IsSevered island (IsInFootprint (cell_at axis k y) side) → IsSevered island (IsInFootprint (cell_at axis i y) side)
    severed_before i k first middle beyond move is severed =
        parted_from_turned _ _ _ axis _ (λ h. IsUnder i side h.u × IsUnder y side h.v) (λ h. (hit_turned axis i y side h).1)
        (parted_before move low high _ (metal_alike middle is) (length island.anchors) _ (anchor_alike middle is)
        (turned_parted _ _ _ axis _ (λ h. IsUnder k side h.u × IsUnder y side h.v) (λ h. (hit_turned axis k y side h).0) severed))

    neighbours_sever_alike : IsSevered island (IsInFootprint (cell_at axis x y) side) ↔ IsSevered island (IsInFootprint (cell_at axis (x +ℤ pos 1) y) side)
    neighbours_sever_alike = (
      severed_before (x +ℤ pos 1) x _ _ _ (backward x (x +ℤ pos 1) side refl some) (back_middle x side some),
      severed_before x (x +ℤ pos 1) _ _ _ (onward x (x +ℤ pos 1) side refl some) (front_middle x side some),
    )

  pub lines_sever_alike : (x w y : ℤ) → Has zone (cell_at axis x y) → Has zone (cell_at axis w y)
      → IsSevered island (IsInFootprint (cell_at axis x y) side) ↔ IsSevered island (IsInFootprint (cell_at axis w y) side)
  lines_sever_alike x w y h k =
      same_at_both (λ z. IsSevered island (IsInFootprint (cell_at axis z y) side)) (low_along axis zone) (high_along axis zone)
      (λ z a b. neighbours_sever_alike z y (zone_along axis zone x z y h a) (zone_along axis zone x (z +ℤ pos 1) y h b)) x w (along_zone axis zone x y h) (along_zone axis zone w y k)
