-- least rectangles: each of their edges is met by the set, so what keeps to one side of a line keeps the rectangle there
use Rattle.std.proofs.Common.{ℕ, ◌≤◌, arith, ℤ, pos, ◌+ℤ◌, ◌-ℤ◌, ◌≤ℤ◌, ◌<ℤ◌, ◌/◌, ◌-◌, ◌↔◌}
use Rattle.lists.proofs.Words.{ints, by_lt_z}
use Rattle.geo_core.specs.Intervals.{IsWithin}
use Rattle.geo_core.specs.Plane.{Has, IsIn, IsInterval}
use Rattle.geo_core.specs.declared.plane.Cell.{Cell}
use Rattle.geo_core.specs.declared.plane.Rect.{Rect}
use Rattle.fault_model.specs.FaultNames.{IsBoundsOf, IsSwallowed}
use Rattle.fault_model.proofs.SizeLaws.{swallowed}

-- ---- in one dimension

narrowed_low : (far low high v i : ℤ) → IsInterval far low high → low <ℤ v → v ≤ℤ i → i <ℤ high → IsInterval far v high
narrowed_low far low high v i h less from before = record { some = omega (arith, ints); least = omega (arith, ints); most = h.most }

narrowed_high : (far low high v i : ℤ) → IsInterval far low high → v <ℤ high → low ≤ℤ i → i <ℤ v → IsInterval far low v
narrowed_high far low high v i h less from before = record { some = omega (arith, ints); least = h.least; most = omega (arith, ints) }

first_in : (far low high : ℤ) → IsInterval far low high → IsIn low high low
first_in far low high h = record { from = omega (arith, ints); before = h.some }

last_in : (far low high : ℤ) → IsInterval far low high → IsIn low high (high -ℤ pos 1)
last_in far low high h = let some = h.some in record { from = omega (arith, ints); before = omega (arith, ints) }

not_above : (low v : ℤ) → low <ℤ v → v ≤ℤ low → ⊥
not_above low v less le = omega (arith, ints)

not_below : (high v : ℤ) → v <ℤ high → (high -ℤ pos 1) <ℤ v → ⊥
not_below high v less before = omega (arith, ints)

near_both : (i a low high : ℤ) (n : ℕ) → (i -ℤ pos n) ≤ℤ low → high ≤ℤ (i +ℤ pos n +ℤ pos 1) → IsIn low high a → IsWithin i a (pos n)
near_both i a low high n from before h = let f = h.from in let g = h.before in (omega (arith, ints), omega (arith, ints))

near_from : (i a : ℤ) (n : ℕ) → IsWithin i a (pos n) → (i -ℤ pos n) ≤ℤ a
near_from i a n (h, k) = omega (arith, ints)

near_before : (i a : ℤ) (n : ℕ) → IsWithin i a (pos n) → a <ℤ (i +ℤ pos n +ℤ pos 1)
near_before i a n (h, k) = omega (arith, ints)

-- ---- the four edges

module _ (covered : Cell → Type 0) (box : Rect) (bounds : IsBoundsOf covered box) (member : Cell) (is : covered member) where
  abbrev lower_left : Cell
  lower_left = record { i = box.x0; j = box.y0 }

  abbrev upper_right : Cell
  upper_right = record { i = box.x1 -ℤ pos 1; j = box.y1 -ℤ pos 1 }

  has_lower_left : Has box lower_left
  has_lower_left = record { across = first_in _ box.x0 box.x1 box.across; up = first_in _ box.y0 box.y1 box.up }

  has_upper_right : Has box upper_right
  has_upper_right = record { across = last_in _ box.x0 box.x1 box.across; up = last_in _ box.y0 box.y1 box.up }

  pub left_edge : (v : ℤ) → ((d : Cell) → covered d → v ≤ℤ d.i) → v ≤ℤ box.x0
  left_edge v all = by_lt_z box.x0 v
      (λ less.
      let other : Rect = record {
        x0 = v;
        y0 = box.y0;
        x1 = box.x1;
        y1 = box.y1;
        across = narrowed_low _ box.x0 box.x1 v member.i box.across less (all member is) (bounds.all_in member is).across.before;
        up = box.up;
      } in
      let in_other = bounds.least other (λ d h. let old = bounds.all_in d h in record { across = record { from = all d h; before = old.across.before }; up = old.up }) lower_left has_lower_left in
      absurd (not_above box.x0 v less in_other.across.from))
      (λ le. le)

  pub bottom_edge : (v : ℤ) → ((d : Cell) → covered d → v ≤ℤ d.j) → v ≤ℤ box.y0
  bottom_edge v all = by_lt_z box.y0 v
      (λ less.
      let other : Rect = record {
        x0 = box.x0;
        y0 = v;
        x1 = box.x1;
        y1 = box.y1;
        across = box.across;
        up = narrowed_low _ box.y0 box.y1 v member.j box.up less (all member is) (bounds.all_in member is).up.before;
      } in
      let in_other = bounds.least other (λ d h. let old = bounds.all_in d h in record { across = old.across; up = record { from = all d h; before = old.up.before } }) lower_left has_lower_left in
      absurd (not_above box.y0 v less in_other.up.from))
      (λ le. le)

  pub right_edge : (v : ℤ) → ((d : Cell) → covered d → d.i <ℤ v) → box.x1 ≤ℤ v
  right_edge v all = by_lt_z v box.x1
      (λ less.
      let other : Rect = record {
        x0 = box.x0;
        y0 = box.y0;
        x1 = v;
        y1 = box.y1;
        across = narrowed_high _ box.x0 box.x1 v member.i box.across less (bounds.all_in member is).across.from (all member is);
        up = box.up;
      } in
      let in_other = bounds.least other (λ d h. let old = bounds.all_in d h in record { across = record { from = old.across.from; before = all d h }; up = old.up }) upper_right has_upper_right in
      absurd (not_below box.x1 v less in_other.across.before))
      (λ le. le)

  pub top_edge : (v : ℤ) → ((d : Cell) → covered d → d.j <ℤ v) → box.y1 ≤ℤ v
  top_edge v all = by_lt_z v box.y1
      (λ less.
      let other : Rect = record {
        x0 = box.x0;
        y0 = box.y0;
        x1 = box.x1;
        y1 = v;
        across = box.across;
        up = narrowed_high _ box.y0 box.y1 v member.j box.up less (bounds.all_in member is).up.from (all member is);
      } in
      let in_other = bounds.least other (λ d h. let old = bounds.all_in d h in record { across = old.across; up = record { from = old.up.from; before = all d h } }) upper_right has_upper_right in
      absurd (not_below box.y1 v less in_other.up.before))
      (λ le. le)

  -- a defect that covers the set covers the rectangle
  pub whole_covered : (s : ℕ) (c : Cell) → 1 ≤ s → ((d : Cell) → covered d → IsSwallowed c s d) → (d : Cell) → Has box d → IsSwallowed c s d
  whole_covered s c some all d has =
      let n = (s - 1) / 2 in
      let near = swallowed s n (omega arith) (omega arith) c in
      let close = λ (e : Cell) (h : covered e). (near e).0 (all e h) in
      (near d).1 (
        near_both c.i d.i box.x0 box.x1 n (left_edge (c.i -ℤ pos n) (λ e h. near_from c.i e.i n (close e h).0))
            (right_edge (c.i +ℤ pos n +ℤ pos 1) (λ e h. near_before c.i e.i n (close e h).0)) has.across,
        near_both c.j d.j box.y0 box.y1 n (bottom_edge (c.j -ℤ pos n) (λ e h. near_from c.j e.j n (close e h).1))
            (top_edge (c.j +ℤ pos n +ℤ pos 1) (λ e h. near_before c.j e.j n (close e h).1)) has.up,
      )

  pub covered_alike : (s : ℕ) (c : Cell) → 1 ≤ s → ((d : Cell) → covered d → IsSwallowed c s d) ↔ ((d : Cell) → Has box d → IsSwallowed c s d)
  covered_alike s c some = (whole_covered s c some, λ all d h. all d (bounds.all_in d h))
