-- where the near boxes of a zone are steady, each rectangle and each anchor is alike at the ends of a defect that moves
use Rattle.std.proofs.Common.{ℕ, ◌≡◌, refl, subst, sym, arith, inl, inr, ◌⊎◌, List, ℤ, pos, ◌+ℤ◌, ◌-ℤ◌, ◌≤ℤ◌}
use Rattle.lists.proofs.Words.{ints, by_lt_z}
use Rattle.geo_core.specs.Plane.{IsIn, Has}
use Rattle.geo_core.specs.Intervals.{IsWithin}
use Rattle.geo_core.specs.declared.axis.Axis.{Axis}
use Rattle.geo_core.specs.declared.plane.Half.{Half}
use Rattle.geo_core.specs.declared.plane.Rect.{Rect}
use Rattle.half_boxes.specs.HalfBoxes.{HasHalf, span_along}
use Rattle.half_boxes.specs.Footprints.{IsReached}
use Rattle.half_boxes.specs.declared.boxes.HalfBox.{HalfBox}
use Rattle.severing.specs.Changes.{IsChange, IsFar, IsInCore, IsNoted, IsSteady, ChangesAt}
use Rattle.severing.proofs.AdvanceLaws.{IsEdgeOf, IsMiddle}
use Rattle.severing.proofs.MoveLaws.{spot, AreAlike}
use Rattle.severing.proofs.TurnedLaws.{far_turned, turned, cell_at, hit_turned, has_along, along_zone}

-- what is no edge of the middle one of three numbers lies on the same side of all of them
same_side : (middle edge x w : ℤ) → (IsEdgeOf middle edge → ⊥) → IsWithin x middle (pos 1) → IsWithin w middle (pos 1) → edge ≤ℤ x → edge ≤ℤ w
same_side middle edge x w n (a, b) (c, d) h = by_lt_z w edge
    (λ l. absurd (n (by_lt_z middle edge (λ k. inr (omega (arith, ints))) (λ k. inl (omega (arith, ints))))))
    (λ l. l)

-- an interval without such an edge has all three or none
all_three : (low high middle x w : ℤ) → (IsEdgeOf middle low → ⊥) → (IsEdgeOf middle high → ⊥) → IsWithin x middle (pos 1) → IsWithin w middle (pos 1) → IsIn low high x → IsIn low high w
all_three low high middle x w not_low not_high p q h = record {
  from = same_side middle low x w not_low p q h.from;
  before = by_lt_z w high (λ l. l) (λ l. let k = same_side middle high w x not_high q p l in let b = h.before in absurd (omega (arith, ints)));
}

-- two cells of the zone, one after the other along the axis, and a middle
module _ (axis : Axis) (zone : Rect) (side : ℕ) (x y : ℤ) (here : Has zone (cell_at axis x y)) (next : Has zone (cell_at axis (x +ℤ pos 1) y)) (middle : ℤ) (is : IsMiddle x side middle) where
  abbrev low : ℤ
  low = y +ℤ y +ℤ pos 1 -ℤ pos side

  abbrev high : ℤ
  high = y +ℤ y +ℤ pos 1 +ℤ pos side

  abbrev IsAlike : HalfBox → Type 0
  IsAlike one = AreAlike (λ h. HasHalf one (turned axis h)) middle low high

  -- an edge there changes something
  changes_at : (one : HalfBox) (edge : ℤ) → (edge ≡ (span_along axis one).low) ⊎ (edge ≡ (span_along axis one).high) → IsEdgeOf middle edge → ChangesAt axis zone side one (x +ℤ pos 1)
  changes_at one edge which e =
      let a = (along_zone axis zone x y here).from in
      let b = (along_zone axis zone (x +ℤ pos 1) y next).before in
      record {
        behind_first = omega (arith, ints);
        before_end = b;
        change = elim which [
          | inl f ↦ inl (subst (λ z. IsChange z side (x +ℤ pos 1)) f (is.changes edge e))
          | inr f ↦ inr (subst (λ z. IsChange z side (x +ℤ pos 1)) f (is.changes edge e))
        ];
      }

  -- a box is alike where it is steady, where it is far, and where all defects have it
  steady_box : (one : HalfBox) → ((w : ℤ) → ChangesAt axis zone side one w → ⊥) → IsAlike one
  steady_box one steady w z v near_w near_z row =
      let no_edge : (edge : ℤ) → (edge ≡ (span_along axis one).low) ⊎ (edge ≡ (span_along axis one).high) → IsEdgeOf middle edge → ⊥ =
      λ edge which e. steady (x +ℤ pos 1) (changes_at one edge which e) in
      has_along axis one w z v (all_three _ _ middle w z (no_edge _ (inl refl)) (no_edge _ (inr refl)) near_w near_z)

  -- the half square in the middle of a row of the defects is one that a defect has
  reached : (v : ℤ) → IsIn low high v → IsReached zone side (turned axis (spot middle v))
  reached v row = record {
    centre = cell_at axis is.centre y;
    in_zone = elim is.either [ inl e ↦ subst (λ i. Has zone (cell_at axis i y)) (sym e) here | inr e ↦ subst (λ i. Has zone (cell_at axis i y)) (sym e) next ];
    hit = (hit_turned axis is.centre y side (spot middle v)).1 (is.reached, row);
  }

  far_box : (one : HalfBox) → IsFar zone side one → IsAlike one
  far_box one far w z v near_w near_z (d, row, close) has = absurd (far_turned axis zone side one far (spot w v) (spot middle d) has (reached d row) near_w close)

  core_box : (one : HalfBox) → IsInCore zone side one → IsAlike one
  core_box one core w z v near_w near_z row has =
      let hit = core (turned axis (spot w v)) has in
      let before = (hit_turned axis x y side (spot w v)).0 (hit (cell_at axis x y) here) in
      let after = (hit_turned axis (x +ℤ pos 1) y side (spot w v)).0 (hit (cell_at axis (x +ℤ pos 1) y) next) in
      absurd (is.not_both w near_w before.0 after.0)

  -- so what has its box in the list, or none that matters, is alike
  pub noted_alike : (near : List HalfBox) → IsSteady axis zone side near → (S : Half → Type 0) → IsNoted zone side near S → AreAlike (λ h. S (turned axis h)) middle low high
  noted_alike near steady S noted w z v near_w near_z row has =
      let one = noted.one in
      let alike : IsAlike one = elim noted.noted [
        | inl among ↦ steady_box one (λ i. steady one i among)
        | inr (inl far) ↦ far_box one far
        | inr (inr core) ↦ core_box one core
      ] in
      (noted.same (turned axis (spot z v))).0 (alike w z v near_w near_z row ((noted.same (turned axis (spot w v))).1 has))
