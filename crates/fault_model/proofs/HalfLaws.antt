-- half units of a unit, in one dimension, and half squares of a cell
use Rattle.std.proofs.Common.{ℕ, ◌/◌, ◌≡◌, refl, sym, subst, arith, inl, inr, ◌⊎◌, ℤ, pos, negsuc, ◌+ℤ◌}
use Rattle.lists.proofs.Words.{ints, by_lt_z}
use Rattle.geo_core.specs.Plane.{IsIn, Adjoins, ShareEdge}
use Rattle.geo_core.specs.declared.plane.Cell.{Cell}
use Rattle.geo_core.specs.declared.plane.Half.{Half}
use Rattle.geo_core.proofs.IntervalLaws.{Adjoins-sym, in_or_not}
use Rattle.geo_core.proofs.RectLaws.{same_cell}
use Rattle.fault_model.specs.FaultNames.{IsHalfOf, LiesIn, IsOn, Neighbours, IsInFootprint}

-- ---- in one dimension

pub whole_of : (u : ℤ) → (i : ℤ) × IsHalfOf u i
whole_of (pos n) = (pos (n / 2), record { from = omega (arith, ints); before = omega (arith, ints) })
whole_of (negsuc n) = (negsuc (n / 2), record { from = omega (arith, ints); before = omega (arith, ints) })

-- a half unit is a half of one unit alone
pub one_whole : (u i j : ℤ) → IsHalfOf u i → IsHalfOf u j → i ≡ j
one_whole u i j h k = omega (arith, ints)

-- halves that follow one another are of one unit, or of units that do
pub wholes_adjoin : (u w i j : ℤ) → Adjoins u w → IsHalfOf u i → IsHalfOf w j → (i ≡ j) ⊎ Adjoins i j
wholes_adjoin u w i j (inl e) h k = by_lt_z i j (λ l. inr (inl (omega (arith, ints)))) (λ l. inl (omega (arith, ints)))
wholes_adjoin u w i j (inr e) h k = by_lt_z j i (λ l. inr (inr (omega (arith, ints)))) (λ l. inl (omega (arith, ints)))

pub first_half : (i : ℤ) → IsHalfOf (i +ℤ i) i
first_half i = record { from = omega (arith, ints); before = omega (arith, ints) }

pub last_half : (i : ℤ) → IsHalfOf (i +ℤ i +ℤ pos 1) i
last_half i = record { from = omega (arith, ints); before = omega (arith, ints) }

abbrev AdjoiningHalves : ℤ → ℤ → Type 0
AdjoiningHalves i j = (u w : ℤ) × IsHalfOf u i × IsHalfOf w j × Adjoins u w

halves_adjoin : (i j : ℤ) → Adjoins i j → AdjoiningHalves i j
halves_adjoin i j (inl e) = (i +ℤ i +ℤ pos 1, j +ℤ j, last_half i, first_half j, inl (omega (arith, ints)))
halves_adjoin i j (inr e) = (i +ℤ i, j +ℤ j +ℤ pos 1, first_half i, last_half j, inr (omega (arith, ints)))

-- the halves of the units of an interval are an interval
pub halves_in : (low high u i : ℤ) → IsHalfOf u i → IsIn low high i → IsIn (low +ℤ low) (high +ℤ high) u
halves_in low high u i h k = record { from = omega (arith, ints); before = omega (arith, ints) }

pub whole_in : (low high u : ℤ) → IsIn (low +ℤ low) (high +ℤ high) u → (i : ℤ) × IsHalfOf u i × IsIn low high i
whole_in low high u h = let w = whole_of u in let k = w.1 in (w.0, k, record { from = omega (arith, ints); before = omega (arith, ints) })

-- ---- half squares and cells

pub some_cell : (h : Half) → (c : Cell) × LiesIn h c
some_cell h = let x = whole_of h.u in let y = whole_of h.v in (record { i = x.0; j = y.0 }, (x.1, y.1))

-- a half square lies in one cell, so it is covered where its cell is
pub one_cell : (h : Half) (c d : Cell) → LiesIn h c → LiesIn h d → c ≡ d
one_cell h c d p q = same_cell c d (one_whole h.u c.i d.i p.0 q.0) (one_whole h.v c.j d.j p.1 q.1)

pub cell_on : {S : Cell → Type 0} (h : Half) (c : Cell) → LiesIn h c → IsOn S h → S c
cell_on {S} h c p (d, q, s) = subst S (one_cell h d c q p) s

-- the least half square of a cell
pub some_half : (c : Cell) → (h : Half) × LiesIn h c
some_half c = (record { u = c.i +ℤ c.i; v = c.j +ℤ c.j }, (first_half c.i, first_half c.j))

pub Neighbours-sym : (p q : Half) → Neighbours p q → Neighbours q p
Neighbours-sym p q (inl (e, a)) = inl (sym e, Adjoins-sym p.u q.u a)
Neighbours-sym p q (inr (e, a)) = inr (sym e, Adjoins-sym p.v q.v a)

-- cells of neighbours are one, or share an edge
pub cells_of_neighbours : (p q : Half) (c d : Cell) → Neighbours p q → LiesIn p c → LiesIn q d → (c ≡ d) ⊎ ShareEdge c d
cells_of_neighbours p q c d (inl (e, a)) h k =
    let y : c.j ≡ d.j = one_whole p.v c.j d.j h.1 (rw e k.1) in
    elim (wholes_adjoin p.u q.u c.i d.i a h.0 k.0) [ inl x ↦ inl (same_cell c d x y) | inr x ↦ inr (inl (y, x)) ]
cells_of_neighbours p q c d (inr (e, a)) h k =
    let x : c.i ≡ d.i = one_whole p.u c.i d.i h.0 (rw e k.0) in
    elim (wholes_adjoin p.v q.v c.j d.j a h.1 k.1) [ inl y ↦ inl (same_cell c d x y) | inr y ↦ inr (inr (x, y)) ]

-- half squares on the two sides of a common edge
abbrev EdgeHalves : Cell → Cell → Type 0
EdgeHalves c d = (h g : Half) × LiesIn h c × LiesIn g d × Neighbours h g

pub edge_halves : (c d : Cell) → ShareEdge c d → EdgeHalves c d
edge_halves c d (inl (e, a)) =
    let n = halves_adjoin c.i d.i a in
    let v = c.j +ℤ c.j in
    (record { u = n.0; v = v }, record { u = n.1; v = v }, (n.2, first_half c.j), (n.3, subst (IsHalfOf v) e (first_half c.j)), inl (refl, n.4))
edge_halves c d (inr (e, a)) =
    let n = halves_adjoin c.j d.j a in
    let u = c.i +ℤ c.i in
    (record { u = u; v = n.0 }, record { u = u; v = n.1 }, (first_half c.i, n.2), (subst (IsHalfOf u) e (first_half c.i), n.3), inr (refl, n.4))

-- a half square is in a footprint, or not
pub hit_or_not : (c : Cell) (s : ℕ) (h : Half) → (IsInFootprint c s h → ⊥) ⊎ IsInFootprint c s h
hit_or_not c s h = elim (in_or_not _ _ h.u) [
  | inl x ↦ elim (in_or_not _ _ h.v) [ inl y ↦ inr (x, y) | inr n ↦ inl (λ hit. n hit.1) ]
  | inr n ↦ inl (λ hit. n hit.0)
]
