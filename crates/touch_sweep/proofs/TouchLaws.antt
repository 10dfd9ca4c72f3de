-- where rectangles that touch lie to one another
use Rattle.std.proofs.Common.{ℕ, ◌≡◌, refl, ap, arith, inl, inr, ℤ, pos, ◌-ℤ◌, ◌≤ℤ◌, ◌<ℤ◌, ◌↔◌}
use Rattle.lists.proofs.Words.{ints}
use Rattle.geo_core.specs.Plane.{IsIn, Touch}
use Rattle.geo_core.specs.declared.plane.Cell.{Cell}
use Rattle.geo_core.specs.declared.plane.Rect.{Rect}
use Rattle.geo_core.proofs.IntervalLaws.{overlapping, touching}
use Rattle.geo_core.proofs.RectLaws.{Touch-sym}
use Rattle.touch_sweep.specs.inside.Matches.{IsPairOf, IsMatch}
use Rattle.touch_sweep.specs.declared.numbered.Numbered.{Numbered}

-- the second one begins no later than the first one ends
pub touch_begins : (a b : Rect) → Touch a b → (b.x0 ≤ℤ a.x1) × (b.y0 ≤ℤ a.y1)
touch_begins a b (c, d, h, k, inl e) =
    let i : c.i ≡ d.i = ap (λ (x : Cell). x.i) e in
    let j : c.j ≡ d.j = ap (λ (x : Cell). x.j) e in
    let right = h.across.before in let top = h.up.before in let left = k.across.from in let bottom = k.up.from in
    (omega (arith, ints), omega (arith, ints))
touch_begins a b (c, d, h, k, inr (inl (j, inl i))) =
    let right = h.across.before in let top = h.up.before in let left = k.across.from in let bottom = k.up.from in
    (omega (arith, ints), omega (arith, ints))
touch_begins a b (c, d, h, k, inr (inl (j, inr i))) =
    let right = h.across.before in let top = h.up.before in let left = k.across.from in let bottom = k.up.from in
    (omega (arith, ints), omega (arith, ints))
touch_begins a b (c, d, h, k, inr (inr (i, inl j))) =
    let right = h.across.before in let top = h.up.before in let left = k.across.from in let bottom = k.up.from in
    (omega (arith, ints), omega (arith, ints))
touch_begins a b (c, d, h, k, inr (inr (i, inr j))) =
    let right = h.across.before in let top = h.up.before in let left = k.across.from in let bottom = k.up.from in
    (omega (arith, ints), omega (arith, ints))

pub IsPairOf-sym : (a b : ℕ) (p : ℕ × ℕ) → IsPairOf a b p → IsPairOf b a p
IsPairOf-sym a b p (inl h) = inr h
IsPairOf-sym a b p (inr h) = inl h

pub IsMatch-sym : (one other : Numbered) (p : ℕ × ℕ) → IsMatch one other p → IsMatch other one p
IsMatch-sym one other p m = record {
  touch = Touch-sym one.rect other.rect m.touch;
  numbers = IsPairOf-sym one.number other.number p m.numbers;
}

-- ---- rectangles that touch by their rows

-- rectangles with a column in common touch where neither begins above the end of the other
pub touch_in_column : (a b : Rect) (x : ℤ) → IsIn a.x0 a.x1 x → IsIn b.x0 b.x1 x → a.y0 ≤ℤ b.y1 → b.y0 ≤ℤ a.y1 → Touch a b
touch_in_column a b x h k f g =
    let rows = (touching a.y0 a.y1 b.y0 b.y1 a.up.some b.up.some).0 (f, g) in
    let at : ℤ → Cell = λ j. record { i = x; j = j } in
    (at rows.0, at rows.1, record { across = h; up = rows.2 }, record { across = k; up = rows.3 }, elim rows.4 [ inl e ↦ inl (ap at e) | inr next ↦ inr (inr (refl, next)) ])

-- a rectangle that begins where another ends touches it exactly where each begins below the end of the other
pub touch_beside : (a b : Rect) → b.x1 ≡ a.x0 → Touch a b ↔ ((a.y0 <ℤ b.y1) × (b.y0 <ℤ a.y1))
touch_beside a b e = (meets, beside) where
  meets : Touch a b → (a.y0 <ℤ b.y1) × (b.y0 <ℤ a.y1)
  meets (c, d, h, k, inl same) =
      let i : c.i ≡ d.i = ap (λ (x : Cell). x.i) same in
      let from = h.across.from in let before = k.across.before in
      absurd (omega (arith, ints))
  meets (c, d, h, k, inr (inl (j, next))) =
      let top = h.up.before in let bottom = h.up.from in let other_top = k.up.before in let other_bottom = k.up.from in
      (omega (arith, ints), omega (arith, ints))
  meets (c, d, h, k, inr (inr (i, next))) =
      let from = h.across.from in let before = k.across.before in
      absurd (omega (arith, ints))

  beside : (a.y0 <ℤ b.y1) × (b.y0 <ℤ a.y1) → Touch a b
  beside rows =
      let row = (overlapping a.y0 a.y1 b.y0 b.y1 a.up.some b.up.some).0 rows in
      let some = a.across.some in let also = b.across.some in (
        record { i = a.x0; j = row.0 },
        record { i = b.x1 -ℤ pos 1; j = row.0 },
        record { across = record { from = omega (arith, ints); before = some }; up = row.1 },
        record { across = record { from = omega (arith, ints); before = omega (arith, ints) }; up = row.2 },
        inr (inl (refl, inr (omega (arith, ints)))),
      )
