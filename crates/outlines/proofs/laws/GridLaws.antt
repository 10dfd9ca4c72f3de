-- an outline's cells, each as a rectangle of its own: some cover exists
use Rattle.std.proofs.Common.{ℕ, zero, suc, ◌≡◌, ◌↔◌, refl, sym, ap, subst, ◌∙◌, List, [], ◌∷◌, filter, get_or, map, All, Contains, arith}
use Rattle.std.proofs.Common.{Bool, true, false, cond, not, ◌&&◌, ℤ, pos, neg_ℤ, ◌+ℤ◌, ◌-ℤ◌, ◌≤ℤ◌, ◌<ℤ◌, int_eq}
use Rattle.lists.proofs.Words.{flat_map, and_right, clamps, ints, int_max, int_min, Decides-int_eq, by_lt_z, All-head, All-tail, All-map, All-weaker}
use Rattle.geo_core.specs.Plane.{IsInRange, circuit, IsIn, IsInterval, Has, IsInLayout}
use Rattle.geo_core.specs.declared.plane.Point.{Point}
use Rattle.geo_core.specs.declared.bounds.TheConstants.{FARTHEST, FARTHEST_GROWN}
use Rattle.geo_core.specs.declared.plane.Cell.{Cell}
use Rattle.geo_core.specs.declared.plane.Rect.{Rect}
use Rattle.outlines.specs.Fillings.{IsCover}
use Rattle.outlines.specs.Outlines.{IsInside, winding_number}
use Rattle.outlines.specs.Sights.{winding_number_by_right}
use Rattle.outlines.proofs.CountLaws.{le_false, le_true}
use Rattle.outlines.proofs.WindLaws.{Place, place_of, counted, left_rises, left_falls, right_rises, right_falls, winds_by_places, by_right, right_tells}
use Rattle.lists.proofs.Filtering.{Contains-filter, Contains-filter_passes}
use Rattle.lists.proofs.Containing.{Contains-head, Contains-slice_get, Contains-tail, number_of}
use Rattle.lists.proofs.Mapping.{Contains-flat_map, Contains-map, Contains-map_from}

-- the column and the row of the cell lie within the range of points
record IsWithin (c : Cell) : Type 0 where
  left : neg_ℤ FARTHEST ≤ℤ c.i
  right : c.i <ℤ FARTHEST
  bottom : neg_ℤ FARTHEST ≤ℤ c.j
  top : c.j <ℤ FARTHEST

-- ---- cells that lie past all points are not covered

none_counted : (P : Place → Type 0) (test : Place → Place → Bool) → ((p q : Place) → P p → P q → test p q ≡ false) → (places : List Place) → All P places → counted test places ≡ 0
none_counted P test never [] all = refl
none_counted P test never (p ∷ []) all = refl
none_counted P test never (p ∷ q ∷ places) all =
    let rest = All-tail P p (q ∷ places) all in
    let here = never p q (All-head P p (q ∷ places) all) (All-head P q places rest) in
    let none : ◌≡◌ {A = ℕ} (cond (test p q) 1 0) 0 = rw here refl in
    let others = none_counted P test never (q ∷ places) rest in
    omega arith

module _ (points : List Point) (c : Cell) (range : All IsInRange points) where
  places_all : (P : Place → Type 0) → ((p : Point) → IsInRange p → P (place_of c p)) → All P (map (place_of c) points)
  places_all P each = All-map P (place_of c) points (All-weaker IsInRange (λ p. P (place_of c p)) each points range)

  no_winding : (P : Place → Type 0) → ((p : Point) → IsInRange p → P (place_of c p)) → ((p q : Place) → P p → P q → left_rises p q ≡ false) → ((p q : Place) → P p → P q → left_falls p q ≡ false)
      → winding_number points c ≡ pos 0
  no_winding P each up down =
      winds_by_places c points
      ∙ ap (λ n. pos n -ℤ pos (counted left_falls (map (place_of c) points))) (none_counted P left_rises up (map (place_of c) points) (places_all P each))
      ∙ ap (λ n. pos 0 -ℤ pos n) (none_counted P left_falls down (map (place_of c) points) (places_all P each))

  under : c.j <ℤ neg_ℤ FARTHEST → winding_number points c ≡ pos 0
  under h = no_winding (λ p. p.1 ≡ false) (λ p in_range. let b = in_range.bottom in le_false p.y c.j (omega (arith, ints)))
      (λ p q e f. and_right p.0 (p.1 && not q.1) (rw e refl)) (λ p q e f. and_right p.0 (q.1 && not p.1) (rw f refl))

  over : FARTHEST ≤ℤ c.j → winding_number points c ≡ pos 0
  over h = no_winding (λ p. p.1 ≡ true) (λ p in_range. let b = in_range.top in le_true p.y c.j (omega (arith, ints)))
      (λ p q e f. and_right p.0 (p.1 && not q.1) (rw (e, f) refl)) (λ p q e f. and_right p.0 (q.1 && not p.1) (rw (e, f) refl))

  left_of_all : c.i <ℤ neg_ℤ FARTHEST → winding_number points c ≡ pos 0
  left_of_all h = no_winding (λ p. p.0 ≡ false) (λ p in_range. let b = in_range.left in le_false p.x c.i (omega (arith, ints)))
      (λ p q e f. rw e refl) (λ p q e f. rw e refl)

  right_of_all : (corners : List Point) → points ≡ circuit corners → FARTHEST ≤ℤ c.i → winding_number points c ≡ pos 0
  right_of_all corners closed h =
      let P = λ (p : Place). p.0 ≡ true in
      let all = places_all P (λ p in_range. let b = in_range.right in le_true p.x c.i (omega (arith, ints))) in
      let none : winding_number_by_right points c ≡ pos 0 =
      by_right c points
      ∙ ap (λ n. pos n -ℤ pos (counted right_falls (map (place_of c) points))) (none_counted P right_rises (λ p q e f. rw e refl) (map (place_of c) points) all)
      ∙ ap (λ n. pos 0 -ℤ pos n) (none_counted P right_falls (λ p q e f. rw e refl) (map (place_of c) points) all) in
      zero_back (winding_number points c) (sym (subst (λ l. winding_number_by_right l c ≡ neg_ℤ (winding_number l c)) (sym closed) (right_tells corners c)) ∙ none)
    where
      zero_back : (z : ℤ) → neg_ℤ z ≡ pos 0 → z ≡ pos 0
      zero_back z e = omega (arith, ints)

  covered_within : (corners : List Point) → points ≡ circuit corners → IsInside points c → IsWithin c
  covered_within corners closed winds = record {
    left = by_lt_z c.i (neg_ℤ FARTHEST) (λ h. absurd (winds (left_of_all h))) (λ h. h);
    right = by_lt_z c.i FARTHEST (λ h. h) (λ h. absurd (winds (right_of_all corners closed h)));
    bottom = by_lt_z c.j (neg_ℤ FARTHEST) (λ h. absurd (winds (under h))) (λ h. h);
    top = by_lt_z c.j FARTHEST (λ h. h) (λ h. absurd (winds (over h)));
  }

-- ---- all cells

-- so many numbers, from the least coordinate on
numbers : ℕ → List ℤ
numbers zero = []
numbers (suc n) = (neg_ℤ FARTHEST +ℤ pos n) ∷ numbers n

number_there : (n : ℕ) (z : ℤ) → neg_ℤ FARTHEST ≤ℤ z → z <ℤ (neg_ℤ FARTHEST +ℤ pos n) → Contains (numbers n) z
unfolding numbers
number_there zero z low high = absurd (omega (arith, ints))
number_there (suc n) z low high = by_lt_z z (neg_ℤ FARTHEST +ℤ pos n)
    (λ less. Contains-tail (neg_ℤ FARTHEST +ℤ pos n) (numbers n) z (number_there n z low less))
    (λ last. let e : neg_ℤ FARTHEST +ℤ pos n ≡ z = omega (arith, ints) in subst (Contains ((neg_ℤ FARTHEST +ℤ pos n) ∷ numbers n)) e (Contains-head (neg_ℤ FARTHEST +ℤ pos n) (numbers n)))

abbrev cell_at : ℤ → ℤ → Cell
cell_at i j = record { i = i; j = j }

all_cells : ℕ → List Cell
all_cells n = flat_map (λ i. map (cell_at i) (numbers n)) (numbers n)

cell_there : (n : ℕ) → pos n ≡ FARTHEST +ℤ FARTHEST → (c : Cell) → IsWithin c → Contains (all_cells n) c
unfolding all_cells
cell_there n far c within =
    let left = within.left in let right = within.right in let bottom = within.bottom in let top = within.top in
    Contains-flat_map (λ i. map (cell_at i) (numbers n)) (numbers n) c.i c (number_there n c.i left (omega (arith, ints)))
    (Contains-map (cell_at c.i) (numbers n) c.j (number_there n c.j bottom (omega (arith, ints))))

-- ---- a cell as a rectangle

-- a number, or the next one to it at which a cell may lie
kept : ℤ → ℤ
kept z = int_max (neg_ℤ FARTHEST) (int_min z (FARTHEST -ℤ pos 1))

grown : (z : ℤ) → IsInterval FARTHEST_GROWN (kept z) (kept z +ℤ pos 1)
unfolding kept
grown z = record { some = omega (arith, ints, clamps); least = omega (arith, ints, clamps); most = omega (arith, ints, clamps) }

plain : (z : ℤ) → IsInterval FARTHEST (kept z) (kept z +ℤ pos 1)
unfolding kept
plain z = record { some = omega (arith, ints, clamps); least = omega (arith, ints, clamps); most = omega (arith, ints, clamps) }

module _ (z : ℤ) (low : neg_ℤ FARTHEST ≤ℤ z) (high : z <ℤ FARTHEST) where
  only_one : (x : ℤ) → IsIn (kept z) (kept z +ℤ pos 1) x → x ≡ z
  unfolding kept
  only_one x h = let f = h.from in let b = h.before in omega (arith, ints, clamps)

  its_own : IsIn (kept z) (kept z +ℤ pos 1) z
  unfolding kept
  its_own = record { from = omega (arith, ints, clamps); before = omega (arith, ints, clamps) }

unit : Cell → Rect
unit c = record { x0 = kept c.i; y0 = kept c.j; x1 = kept c.i +ℤ pos 1; y1 = kept c.j +ℤ pos 1; across = grown c.i; up = grown c.j }

unit_in_layout : (c : Cell) → IsInLayout (unit c)
unfolding unit
unit_in_layout c = record { across = plain c.i; up = plain c.j }

module _ (c : Cell) (within : IsWithin c) where
  unit_only : (d : Cell) → Has (unit c) d → d ≡ c
  unfolding unit
  unit_only d h = ap (λ i. cell_at i d.j) (only_one c.i within.left within.right d.i h.across) ∙ ap (cell_at c.i) (only_one c.j within.bottom within.top d.j h.up)

  unit_has : Has (unit c) c
  unfolding unit
  unit_has = record { across = its_own c.i within.left within.right; up = its_own c.j within.bottom within.top }

-- ---- the cells inside

is_inside : List Point → Cell → Bool
is_inside points c = not (int_eq (winding_number points c) (pos 0))

inside_tells : (points : List Point) (c : Cell) → (is_inside points c ≡ true) ↔ IsInside points c
unfolding is_inside
inside_tells points c = tells (int_eq (winding_number points c) (pos 0)) (Decides-int_eq (winding_number points c) (pos 0)) where
  tells : {P : Type 0} (b : Bool) → (b ≡ true) ↔ P → (not b ≡ true) ↔ (P → ⊥)
  tells true is = ((λ e. cc e), λ fails. absurd (fails (is.0 refl)))
  tells false is = ((λ e p. cc (is.1 p)), λ fails. refl)

module _ (points : List Point) (range : All IsInRange points) (corners : List Point) (closed : points ≡ circuit corners) where
  within : (c : Cell) → IsInside points c → IsWithin c
  within c = covered_within points c range corners closed

  pub cells_cover : (rects : List Rect) × IsCover (IsInside points) rects
  cells_cover =
      let test = is_inside points in
      let all = all_cells 2000000000 in
      let cells = filter test all in (
        map unit cells,
        record {
          same = λ c. (
            λ h.
                let found = Contains-map_from unit cells h.rect (Contains-slice_get (map unit cells) h.number h.rect h.at) in
                let winds = (inside_tells points found.0).0 (Contains-filter_passes test all found.0 found.1) in
                let is = unit_only found.0 (within found.0 winds) c (subst (λ rect. Has rect c) (sym found.2) h.has) in
                subst (IsInside points) (sym is) winds,
            λ winds.
                let among = Contains-filter test all c (cell_there 2000000000 refl c (within c winds)) ((inside_tells points c).1 winds) in
                let place = number_of (map unit cells) (unit c) (Contains-map unit cells c among) in
                record { number = place.0; rect = unit c; at = place.1; has = unit_has c (within c winds) },
          );
          within = All-map IsInLayout unit cells (λ k d small. unit_in_layout (get_or cells k d));
        },
      )
