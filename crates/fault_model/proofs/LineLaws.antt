-- walks along lines, and within boxes of half squares
use Rattle.std.proofs.Common.{ℕ, zero, suc, ◌+◌, ◌-◌, ◌≤◌, ◌≡◌, refl, subst, inl, inr, arith, ℤ, pos, negsuc, ◌+ℤ◌, ◌≤ℤ◌}
use Rattle.lists.proofs.Words.{ints, by_lt_z}
use Rattle.paths.specs.Paths.{stay, step}
use Rattle.paths.proofs.PathLaws.{append, reverse}
use Rattle.geo_core.specs.Plane.{IsIn, Has}
use Rattle.geo_core.specs.declared.plane.Cell.{Cell}
use Rattle.geo_core.specs.declared.plane.Half.{Half}
use Rattle.geo_core.specs.declared.plane.Rect.{Rect}
use Rattle.fault_model.specs.FaultNames.{LiesIn, IsOn, Neighbours, Walk}
use Rattle.fault_model.proofs.HalfLaws.{Neighbours-sym, halves_in, whole_in}

pub Walk-reverse : {S : Half → Type 0} {p q : Half} → Walk S p q → Walk S q p
Walk-reverse = reverse Neighbours-sym

-- how far the one is above the other
gap_to : (u w : ℤ) → u ≤ℤ w → (n : ℕ) × (u +ℤ pos n ≡ w)
gap_to (pos a) (pos b) h = (b - a, omega (arith, ints))
gap_to (negsuc a) (pos b) h = (suc a + b, omega (arith, ints))
gap_to (negsuc a) (negsuc b) h = (a - b, omega (arith, ints))
gap_to (pos a) (negsuc b) h = absurd (omega (arith, ints))

-- a line of half squares, by number, each a neighbour of the next
module _ {S : Half → Type 0} (at : ℤ → Half) (next : (x : ℤ) → Neighbours (at x) (at (x +ℤ pos 1))) where
  forward : (u : ℤ) (n : ℕ) → ((k : ℕ) → k ≤ n → S (at (u +ℤ pos k))) → Walk S (at u) (at (u +ℤ pos n))
  forward u zero all = let e : u +ℤ pos 0 ≡ u = omega (arith, ints) in subst (λ x. Walk S (at x) (at (u +ℤ pos 0))) e (stay (all 0 (omega arith)))
  forward u (suc n) all =
      let e : u +ℤ pos n +ℤ pos 1 ≡ u +ℤ pos (suc n) = omega (arith, ints) in
      append (forward u n (λ k h. all k (omega arith)))
      (step (all n (omega arith)) (subst (λ x. Neighbours (at (u +ℤ pos n)) (at x)) e (next (u +ℤ pos n))) (stay (all (suc n) (omega arith))))

  onward : (low high u w : ℤ) → IsIn low high u → IsIn low high w → u ≤ℤ w → ((x : ℤ) → IsIn low high x → S (at x)) → Walk S (at u) (at w)
  onward low high u w h k le all =
      let g = gap_to u w le in
      subst (λ x. Walk S (at u) (at x)) g.1 (forward u g.0 (λ n small. let e = g.1 in all (u +ℤ pos n) (record { from = omega (arith, ints); before = omega (arith, ints) })))

  -- either way along the line
  pub between : (low high u w : ℤ) → IsIn low high u → IsIn low high w → ((x : ℤ) → IsIn low high x → S (at x)) → Walk S (at u) (at w)
  between low high u w h k all = by_lt_z w u (λ l. Walk-reverse (onward low high w u k h (omega (arith, ints)) all)) (λ le. onward low high u w h k le all)

-- two half squares of a box are joined within it
pub walk_in_box : {S : Half → Type 0} (left right bottom top : ℤ) → ((h : Half) → IsIn left right h.u → IsIn bottom top h.v → S h)
    → (p q : Half) → IsIn left right p.u → IsIn bottom top p.v → IsIn left right q.u → IsIn bottom top q.v → Walk S p q
walk_in_box {S} left right bottom top all p q pu pv qu qv =
    let across : ℤ → Half = λ x. record { u = x; v = p.v } in
    let up : ℤ → Half = λ y. record { u = q.u; v = y } in
    append (between {S = S} across (λ x. inl (refl, inl refl)) left right p.u q.u pu qu (λ x h. all (across x) h pv))
    (between {S = S} up (λ y. inr (refl, inl refl)) bottom top p.v q.v pv qv (λ y h. all (up y) qu h))

-- two half squares of a cell are joined within it
pub in_cell : {S : Half → Type 0} (c : Cell) (p q : Half) → ((h : Half) → LiesIn h c → S h) → LiesIn p c → LiesIn q c → Walk S p q
in_cell c p q all h k = walk_in_box _ _ _ _ (λ g x y. all g (x, y)) p q h.0 h.1 k.0 k.1

-- a walk within one rectangle
pub walk_in_rect : (a : Rect) (p q : Half) → IsOn (Has a) p → IsOn (Has a) q → Walk (IsOn (Has a)) p q
walk_in_rect a p q s t =
    walk_in_box (a.x0 +ℤ a.x0) (a.x1 +ℤ a.x1) (a.y0 +ℤ a.y0) (a.y1 +ℤ a.y1) inside p q
    (halves_in a.x0 a.x1 p.u s.0.i s.1.0 s.2.across) (halves_in a.y0 a.y1 p.v s.0.j s.1.1 s.2.up)
    (halves_in a.x0 a.x1 q.u t.0.i t.1.0 t.2.across) (halves_in a.y0 a.y1 q.v t.0.j t.1.1 t.2.up) where
      inside : (h : Half) → IsIn (a.x0 +ℤ a.x0) (a.x1 +ℤ a.x1) h.u → IsIn (a.y0 +ℤ a.y0) (a.y1 +ℤ a.y1) h.v → IsOn (Has a) h
      inside h x y =
          let i = whole_in a.x0 a.x1 h.u x in
          let j = whole_in a.y0 a.y1 h.v y in
          (record { i = i.0; j = j.0 }, (i.1, j.1), record { across = i.2; up = j.2 })

-- walks turn round
pub ruleset turned_walks = (Walk-reverse)
