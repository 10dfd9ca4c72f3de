-- where the steps of a reference move points
use Rattle.std.proofs.Common.{ℕ, ◌≡◌, true, refl, ap, Option, Some, None, arith, ℤ, pos, neg_ℤ, ◌+ℤ◌, ◌*ℤ◌}
use Rattle.lists.proofs.Words.{ints}
use Rattle.std.proofs.Math.IntN.{zero-*ℤ}
use Rattle.geo_core.specs.Plane.{image_under}
use Rattle.geo_core.specs.declared.plane.Point.{Point}
use Rattle.geo_core.proofs.TurnLaws.{at, neg-neg, same_at}
use Rattle.library_model.specs.declared.element.Lattice.{Lattice}
use Rattle.library_model.specs.declared.element.Reference.{Reference}
use Rattle.flatten.specs.Steps.{Step, lattice_shift, moved_by, shifted, shift_of}

-- the first copy lies where the array begins
no_steps : (across up : ℤ) → (pos 0 *ℤ across) +ℤ (pos 0 *ℤ up) ≡ pos 0
no_steps across up = rw (zero-*ℤ across, zero-*ℤ up) refl

first : (lattice : Option Lattice) → lattice_shift lattice 0 0 ≡ at (pos 0) (pos 0)
first None = refl
first (Some lattice) = same_at _ _ _ _ (no_steps lattice.column_step.0 lattice.row_step.0) (no_steps lattice.column_step.1 lattice.row_step.1)

-- in one direction: the shift of a copy is that of the first, and its own
shifted_once_more : (z copy origin : ℤ) → z +ℤ (copy +ℤ origin) ≡ (z +ℤ (pos 0 +ℤ origin)) +ℤ copy
shifted_once_more z copy origin = omega (arith, ints)

pub copies_are_shifted : (reference : Reference) (column row : ℕ) (p : Point)
    → moved_by (record { reference = reference; column = column; row = row }) p
    ≡ shifted (lattice_shift reference.lattice column row) (moved_by (record { reference = reference; column = 0; row = 0 }) p)
copies_are_shifted reference column row p =
    let turned : Point = image_under reference.turn p in
    let copy : Point = lattice_shift reference.lattice column row in
    rw (first reference.lattice) (same_at _ _ _ _ (shifted_once_more turned.x copy.x reference.origin.x) (shifted_once_more turned.y copy.y reference.origin.y))

pub mirrored_first : (step : Step) (p : Point) → step.reference.turn.reflect ≡ true → step.reference.turn.quarters ≡ 1
    → moved_by step p ≡ shifted (shift_of step) (record { x = p.y; y = p.x })
mirrored_first step p mirrors quarter = rw (mirrors, quarter) (ap (shifted (shift_of step)) (same_at (neg_ℤ (neg_ℤ p.y)) p.x p.y p.x (neg-neg p.y) refl))
