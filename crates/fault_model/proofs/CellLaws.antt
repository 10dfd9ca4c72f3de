-- the cells of a rectangle are listed once each, and no other is
use Rattle.std.proofs.Common.{ℕ, zero, suc, ◌≤◌, ◌≡◌, refl, ap, subst, arith, inl, inr, ℤ, pos, ◌+ℤ◌, ◌-ℤ◌, ◌≤ℤ◌, ◌<ℤ◌, ◌↔◌, Contains, map}
use Rattle.lists.proofs.Words.{flat_map, ints, by_lt_z}
use Rattle.geo_core.specs.Plane.{Has}
use Rattle.geo_core.specs.declared.plane.Cell.{Cell}
use Rattle.geo_core.specs.declared.plane.Rect.{Rect}
use Rattle.fault_model.specs.FaultNames.{Tally, none, hit, miss, from, or_zero, row, cells_of}
use Rattle.fault_model.proofs.RangeLaws.{or_zero_is}
use Rattle.fault_model.proofs.TallyLaws.{Tally-append, Tally-some, Tally-counts}
use Rattle.geo_core.proofs.IntervalLaws.{in_or_not}
use Rattle.geo_core.proofs.RectLaws.{same_cell}

abbrev Is : Cell → Cell → Type 0
Is c = λ d. d ≡ c

abbrev cell : ℤ → ℤ → Cell
cell j i = record { i = i; j = j }

row_0 : (c : Cell) (j x : ℤ) (n : ℕ) → ((i : ℤ) → x ≤ℤ i → i <ℤ (x +ℤ pos n) → cell j i ≡ c → ⊥) → Tally (Is c) (map (cell j) (from x n)) 0
row_0 c j x zero f = none
row_0 c j x (suc n) f = miss (f x (omega (arith, ints)) (omega (arith, ints))) (row_0 c j (x +ℤ pos 1) n (λ i p q. f i (omega (arith, ints)) (omega (arith, ints))))

row_1 : (c : Cell) (x : ℤ) (n : ℕ) → x ≤ℤ c.i → c.i <ℤ (x +ℤ pos n) → Tally (Is c) (map (cell c.j) (from x n)) 1
row_1 c x zero p q = absurd (omega (arith, ints))
row_1 c x (suc n) p q = by_lt_z x c.i
    (λ l. miss (λ e. let f = ap (λ (d : Cell). d.i) e in absurd (omega (arith, ints, f))) (row_1 c (x +ℤ pos 1) n (omega (arith, ints)) (omega (arith, ints))))
    (λ l. hit (same_cell (cell c.j x) c (omega (arith, ints)) refl) (row_0 c c.j (x +ℤ pos 1) n (λ i a b e. let f = ap (λ (d : Cell). d.i) e in absurd (omega (arith, ints, f)))))

rows_0 : (c : Cell) (rect : Rect) (y : ℤ) (n : ℕ) → ((i j : ℤ) → y ≤ℤ j → j <ℤ (y +ℤ pos n) → rect.x0 ≤ℤ i → i <ℤ (rect.x0 +ℤ pos (or_zero (rect.x1 -ℤ rect.x0))) → cell j i ≡ c → ⊥)
    → Tally (Is c) (flat_map (row rect) (from y n)) 0
rows_0 c rect y zero f = none
rows_0 c rect y (suc n) f = Tally-append (row rect y) _ 0 0
    (row_0 c y rect.x0 (or_zero (rect.x1 -ℤ rect.x0)) (λ i p q. f i y (omega (arith, ints)) (omega (arith, ints)) p q))
    (rows_0 c rect (y +ℤ pos 1) n (λ i j p q. f i j (omega (arith, ints)) (omega (arith, ints))))

rows_1 : (c : Cell) (rect : Rect) (y : ℤ) (n : ℕ) → rect.x0 ≤ℤ c.i → c.i <ℤ (rect.x0 +ℤ pos (or_zero (rect.x1 -ℤ rect.x0))) → y ≤ℤ c.j → c.j <ℤ (y +ℤ pos n)
    → Tally (Is c) (flat_map (row rect) (from y n)) 1
rows_1 c rect y zero a b p q = absurd (omega (arith, ints))
rows_1 c rect y (suc n) a b p q = by_lt_z y c.j
    (λ l. Tally-append (row rect y) _ 0 1
    (row_0 c y rect.x0 (or_zero (rect.x1 -ℤ rect.x0)) (λ i r s e. let f = ap (λ (d : Cell). d.j) e in absurd (omega (arith, ints, f))))
    (rows_1 c rect (y +ℤ pos 1) n a b (omega (arith, ints)) (omega (arith, ints))))
    (λ l. let here : c.j ≡ y = omega (arith, ints) in
    Tally-append (row rect y) _ 1 0
    (subst (λ j. Tally (Is c) (row rect j) 1) here (row_1 c rect.x0 (or_zero (rect.x1 -ℤ rect.x0)) a b))
    (rows_0 c rect (y +ℤ pos 1) n (λ i j r s v w e. let f = ap (λ (d : Cell). d.j) e in absurd (omega (arith, ints, f)))))

-- a range ends before its high end
ends_at : (low high : ℤ) → low <ℤ high → low +ℤ pos (or_zero (high -ℤ low)) ≡ high
ends_at low high h = let n = or_zero_is (high -ℤ low) (omega (arith, ints)) in omega (arith, ints)

pub once : (rect : Rect) (c : Cell) → Has rect c → Tally (Is c) (cells_of rect) 1
once rect c h =
    let x = ends_at rect.x0 rect.x1 rect.across.some in
    let y = ends_at rect.y0 rect.y1 rect.up.some in
    rows_1 c rect rect.y0 (or_zero (rect.y1 -ℤ rect.y0)) h.across.from (rw x h.across.before) h.up.from (rw y h.up.before)

pub never : (rect : Rect) (c : Cell) → (Has rect c → ⊥) → Tally (Is c) (cells_of rect) 0
never rect c no_cell =
    let x = ends_at rect.x0 rect.x1 rect.across.some in
    let y = ends_at rect.y0 rect.y1 rect.up.some in
    rows_0 c rect rect.y0 (or_zero (rect.y1 -ℤ rect.y0))
    (λ i j p q r s e. no_cell (subst (Has rect) e (record { across = record { from = r; before = rw x at s }; up = record { from = p; before = rw y at q } })))

-- a listed cell lies in the rectangle
not_never : (rect : Rect) (c : Cell) → Contains (cells_of rect) c → (Has rect c → ⊥) → ⊥
not_never rect c listed outside = let some : 1 ≤ 0 = Tally-counts (cells_of rect) 0 c listed refl (never rect c outside) in omega arith

pub has_from_listed : (rect : Rect) (c : Cell) → Contains (cells_of rect) c → Has rect c
has_from_listed rect c listed = elim (in_or_not rect.x0 rect.x1 c.i) [
  | inl across ↦ elim (in_or_not rect.y0 rect.y1 c.j) [
    | inl up ↦ record { across = across; up = up }
    | inr n ↦ absurd (not_never rect c listed (λ h. n h.up))
  ]
  | inr n ↦ absurd (not_never rect c listed (λ h. n h.across))
]

pub listed_from_has : (rect : Rect) (c : Cell) → Has rect c → Contains (cells_of rect) c
listed_from_has rect c h = let some = Tally-some (cells_of rect) 1 (omega arith) (once rect c h) in subst (Contains (cells_of rect)) some.2 some.1

-- the list has exactly the rectangle's cells
pub Contains-cells_of : (rect : Rect) (c : Cell) → Contains (cells_of rect) c ↔ Has rect c
Contains-cells_of rect c = (has_from_listed rect c, listed_from_has rect c)
