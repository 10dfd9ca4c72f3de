-- which cells a defect touches, and which it covers wholly
use Rattle.std.proofs.Common.{ℕ, ◌+◌, ◌≤◌, ◌<◌, arith, ℤ, pos, ◌+ℤ◌, ◌↔◌}
use Rattle.lists.proofs.Words.{ints, by_lt_z}
use Rattle.geo_core.specs.Intervals.{IsWithin}
use Rattle.geo_core.specs.Plane.{Has, IsNear, ComesNear}
use Rattle.geo_core.specs.declared.plane.Cell.{Cell}
use Rattle.geo_core.specs.declared.plane.Half.{Half}
use Rattle.geo_core.specs.declared.plane.Rect.{Rect}
use Rattle.fault_model.specs.FaultNames.{IsHalfOf, IsOn, IsInFootprint, IsTouched, IsSwallowed}
use Rattle.fault_model.specs.Halves.{IsUnder}
use Rattle.fault_model.proofs.HalfLaws.{first_half, last_half}

-- a half unit of a near unit is reached: its greater half from below, its lesser from above
reach : (i a : ℤ) (s n : ℕ) → 1 ≤ s → n + n ≤ s → IsWithin i a (pos n) → (u : ℤ) × IsHalfOf u a × IsUnder i s u
reach i a s n h e w = by_lt_z i a
    (λ l. (a +ℤ a, first_half a, record { from = omega (arith, ints); before = omega (arith, ints) }))
    (λ l. (a +ℤ a +ℤ pos 1, last_half a, record { from = omega (arith, ints); before = omega (arith, ints) }))

-- the unit of a reached half is near
pub reached : (i a u : ℤ) (s n : ℕ) → s < n + n + 2 → IsHalfOf u a → IsUnder i s u → IsWithin i a (pos n)
reached i a u s n e h k = (omega (arith, ints), omega (arith, ints))

-- both halves of a unit
all_reached : (i a u : ℤ) (s n : ℕ) → n + n + 1 ≤ s → IsWithin i a (pos n) → IsHalfOf u a → IsUnder i s u
all_reached i a u s n e w h = record { from = omega (arith, ints); before = omega (arith, ints) }

both : (i a : ℤ) (s n : ℕ) → s ≤ n + n + 2 → IsUnder i s (a +ℤ a) → IsUnder i s (a +ℤ a +ℤ pos 1) → IsWithin i a (pos n)
both i a s n e h k = (omega (arith, ints), omega (arith, ints))

pub touched : (s n : ℕ) → 1 ≤ s → n + n ≤ s → s < n + n + 2 → (c d : Cell) → IsTouched c s d ↔ IsNear c d (pos n)
touched s n h low high c d = (
  λ t. (reached c.i d.i t.0.u s n high t.1.0 t.2.0, reached c.j d.j t.0.v s n high t.1.1 t.2.1),
  λ w. let x = reach c.i d.i s n h low w.0 in let y = reach c.j d.j s n h low w.1 in
      (record { u = x.0; v = y.0 }, (x.1, y.1), (x.2, y.2)),
)

pub swallowed : (s n : ℕ) → n + n + 1 ≤ s → s ≤ n + n + 2 → (c d : Cell) → IsSwallowed c s d ↔ IsNear c d (pos n)
swallowed s n low high c d = (
  λ all.
      let p = all (record { u = d.i +ℤ d.i; v = d.j +ℤ d.j }) (first_half d.i, first_half d.j) in
      let q = all (record { u = d.i +ℤ d.i +ℤ pos 1; v = d.j +ℤ d.j +ℤ pos 1 }) (last_half d.i, last_half d.j) in
      (both c.i d.i s n high p.0 q.0, both c.j d.j s n high p.1 q.1),
  λ w h l. (all_reached c.i d.i h.u s n low w.0 l.0, all_reached c.j d.j h.v s n low w.1 l.1),
)

reached_more : (i u : ℤ) (s t : ℕ) → s ≤ t → IsUnder i s u → IsUnder i t u
reached_more i u s t e h = record { from = omega (arith, ints); before = omega (arith, ints) }

-- a larger footprint has what a smaller one has
pub footprint_grows : (c : Cell) (s t : ℕ) (h : Half) → s ≤ t → IsInFootprint c s h → IsInFootprint c t h
footprint_grows c s t h e (x, y) = (reached_more c.i h.u s t e x, reached_more c.j h.v s t e y)

-- a footprint has a half square of a rectangle exactly where a cell of the rectangle is near
pub footprint_near : (rect : Rect) (s n : ℕ) → 1 ≤ s → n + n ≤ s → s < n + n + 2 → (c : Cell) → ComesNear rect (pos n) c ↔ (h : Half) × IsOn (Has rect) h × IsInFootprint c s h
footprint_near rect s n h low high c = (
  λ near. let t = (touched s n h low high c near.0).1 near.2 in (t.0, (near.0, t.1, near.1), t.2),
  λ hit. let on = hit.1 in (on.0, on.2, (touched s n h low high c on.0).0 (hit.0, on.1, hit.2)),
)
