-- how often an outline winds round a cell, by the sides of the cell on which its points lie
use Rattle.std.proofs.Common.{ℕ, ◌+◌, ◌≡◌, refl, sym, ap, subst, ◌∙◌, List, [], ◌∷◌, ◌++◌, map, Bool, true, false, cond, not, arith, ℤ, pos, neg_ℤ, ◌-ℤ◌, ◌&&◌, int_le, int_lt, count_by}
use Rattle.lists.proofs.Words.{ints, sum_by-cons}
use Rattle.geo_core.specs.declared.plane.Point.{Point}
use Rattle.geo_core.specs.declared.plane.Cell.{Cell}
use Rattle.outlines.specs.Outlines.{Edge, edges_of, goes_up_across, goes_down_across, winding_number}
use Rattle.geo_core.specs.Plane.{circuit}
use Rattle.outlines.specs.Sights.{winding_number_by_right}
use Rattle.outlines.proofs.laws.CircuitLaws.{map-circuit}

-- of a point: whether it lies no further right than the left side of the cell, and no higher than its lower side
abbrev pub Place : Type 0
Place = Bool × Bool

abbrev pub place_of : Cell → Point → Place
place_of c p = (int_le p.x c.i, int_le p.y c.j)

-- from the one place to the other it goes up across the row, or down
abbrev pub rises : Place → Place → Bool
rises p q = p.1 && not q.1

abbrev pub falls : Place → Place → Bool
falls p q = q.1 && not p.1

abbrev pub left_rises : Place → Place → Bool
left_rises p q = p.0 && rises p q

abbrev pub left_falls : Place → Place → Bool
left_falls p q = p.0 && falls p q

abbrev pub right_rises : Place → Place → Bool
right_rises p q = not p.0 && rises p q

abbrev pub right_falls : Place → Place → Bool
right_falls p q = not p.0 && falls p q

-- how many neighbours pass a test
abbrev pub counted : (Place → Place → Bool) → List Place → ℕ
counted test [] = 0
counted test (p ∷ []) = 0
counted test (p ∷ q ∷ places) = cond (test p q) 1 0 + counted test (q ∷ places)

pub lt_is_not_le : (a b : ℤ) → int_lt a b ≡ not (int_le b a)
lt_is_not_le a b = grind (arith, ints)

module _ (c : Cell) where
  -- a count of edges is one of neighbouring places
  pub edges_counted : (test : Edge → Bool) (over : Place → Place → Bool) → ((p q : Point) → test (p, q) ≡ over (place_of c p) (place_of c q))
      → (points : List Point) → count_by test (edges_of points) ≡ counted over (map (place_of c) points)
  edges_counted test over same [] = refl
  edges_counted test over same (p ∷ []) = refl
  edges_counted test over same (p ∷ q ∷ points) =
      sum_by-cons (λ e. cond (test e) 1 0) (p, q) (edges_of (q ∷ points))
      ∙ ap (λ t. cond t 1 0 + count_by test (edges_of (q ∷ points))) (same p q)
      ∙ ap (λ n. cond (over (place_of c p) (place_of c q)) 1 0 + n) (edges_counted test over same (q ∷ points))

  -- edges beside the cell wind as often as their places tell
  winds_beside : (beside : ℤ → Bool) (near : Bool → Bool) → ((x : ℤ) → beside x ≡ near (int_le x c.i)) → (points : List Point)
      → pos (count_by (λ e. beside e.0.x && goes_up_across c.j e) (edges_of points)) -ℤ pos (count_by (λ e. beside e.0.x && goes_down_across c.j e) (edges_of points))
      ≡ pos (counted (λ p q. near p.0 && rises p q) (map (place_of c) points)) -ℤ pos (counted (λ p q. near p.0 && falls p q) (map (place_of c) points))
  winds_beside beside near same points =
      let up = edges_counted (λ e. beside e.0.x && goes_up_across c.j e) (λ p q. near p.0 && rises p q) (λ p q. rw (same p.x, lt_is_not_le c.j q.y) refl) points in
      let down = edges_counted (λ e. beside e.0.x && goes_down_across c.j e) (λ p q. near p.0 && falls p q) (λ p q. rw (same p.x, lt_is_not_le c.j p.y) refl) points in
      cc (up, down)

  pub winds_by_places : (points : List Point) → winding_number points c ≡ pos (counted left_rises (map (place_of c) points)) -ℤ pos (counted left_falls (map (place_of c) points))
  winds_by_places = winds_beside (λ x. int_le x c.i) (λ left. left) (λ x. refl)

  pub by_right : (points : List Point) → winding_number_by_right points c ≡ pos (counted right_rises (map (place_of c) points)) -ℤ pos (counted right_falls (map (place_of c) points))
  by_right = winds_beside (λ x. int_lt c.i x) not (λ x. lt_is_not_le c.i x)

-- each edge has the cell on one side
one_side : (at t : Bool) → cond (at && t) 1 0 + cond (not at && t) 1 0 ≡ cond t 1 0
one_side true t = omega arith
one_side false t = omega arith

both_sides : (test : Place → Place → Bool) (places : List Place) → counted (λ p q. p.0 && test p q) places + counted (λ p q. not p.0 && test p q) places ≡ counted test places
both_sides test [] = refl
both_sides test (p ∷ []) = refl
both_sides test (p ∷ q ∷ places) =
    let here = one_side p.0 (test p q) in
    let there = both_sides test (q ∷ places) in
    omega arith

-- an end that is low counts
low : Place → ℕ
low p = cond p.1 1 0

end_of : Place → List Place → Place
end_of p [] = p
end_of p (q ∷ places) = end_of q places

one_edge : (p q : Bool) → cond (p && not q) 1 0 + cond q 1 0 ≡ cond (q && not p) 1 0 + cond p 1 0
one_edge true true = refl
one_edge true false = refl
one_edge false true = refl
one_edge false false = refl

-- a row is crossed as often up as down, but for the two ends
ends_tell : (p : Place) (places : List Place) → counted rises (p ∷ places) + low (end_of p places) ≡ counted falls (p ∷ places) + low p
unfolding end_of low
ends_tell p [] = refl
ends_tell p (q ∷ places) =
    let here = one_edge p.1 q.1 in
    let there = ends_tell q places in
    omega arith

end_of-append : (p : Place) (places : List Place) (q : Place) → end_of p (places ++ q ∷ []) ≡ q
unfolding end_of
end_of-append p [] q = refl
end_of-append p (r ∷ places) q = end_of-append r places q

-- where the ends are one, it is crossed as often up as down
round_trip : (places : List Place) → counted rises (circuit places) ≡ counted falls (circuit places)
round_trip [] = refl
round_trip (p ∷ places) =
    let h = ends_tell p (places ++ p ∷ []) in
    let e = ap low (end_of-append p places p) in
    omega arith

balanced : (lr lf rr rf r f : ℕ) → lr + rr ≡ r → lf + rf ≡ f → r ≡ f → (pos rr -ℤ pos rf) ≡ neg_ℤ (pos lr -ℤ pos lf)
balanced lr lf rr rf r f a b e = omega (arith, ints)

-- the points of a closed outline go across a row as often up as down
pub closed_rises : (points corners : List Point) (c : Cell) → points ≡ circuit corners → counted rises (map (place_of c) points) ≡ counted falls (map (place_of c) points)
closed_rises points corners c closed =
    let place = place_of c in
    subst (λ l. counted rises l ≡ counted falls l) (sym (ap (map place) closed ∙ map-circuit place corners)) (round_trip (map place corners))

pub right_tells : (corners : List Point) (c : Cell) → winding_number_by_right (circuit corners) c ≡ neg_ℤ (winding_number (circuit corners) c)
right_tells corners c =
    let places = map (place_of c) (circuit corners) in
    by_right c (circuit corners)
    ∙ balanced (counted left_rises places) (counted left_falls places) (counted right_rises places) (counted right_falls places) (counted rises places) (counted falls places)
    (both_sides rises places) (both_sides falls places) (closed_rises (circuit corners) corners c refl)
    ∙ ap neg_ℤ (sym (winds_by_places c (circuit corners)))
