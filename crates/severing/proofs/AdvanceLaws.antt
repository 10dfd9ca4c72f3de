-- along a line: what a defect gains that moves by one unit
use Rattle.std.proofs.Common.{ℕ, ◌≤◌, ◌≡◌, refl, arith, inl, inr, ◌⊎◌, ℤ, pos, ◌+ℤ◌, ◌-ℤ◌}
use Rattle.lists.proofs.Words.{ints, by_lt_z}
use Rattle.geo_core.specs.Plane.{Adjoins}
use Rattle.geo_core.specs.Intervals.{IsWithin}
use Rattle.fault_model.specs.Halves.{IsUnder}
use Rattle.severing.specs.Changes.{IsChange}

-- The defect has the half units `Before`, and then `After`. It gains two: `first`, which lies beside those that it had, and
-- `middle` behind it. Behind that lies `beyond`, which it does not have.
pub record Advances (Before After : ℤ → Type 0) (first middle beyond : ℤ) : Type 0 where
  pub first_middle : Adjoins first middle
  pub middle_beyond : Adjoins middle beyond
  pub beside_first : (x : ℤ) → Adjoins first x → (x ≡ middle) ⊎ Before x
  pub beside_middle : (x : ℤ) → Adjoins middle x → (x ≡ first) ⊎ (x ≡ beyond)
  pub gained : (x : ℤ) → After x → Before x ⊎ ((x ≡ first) ⊎ (x ≡ middle))
  pub beyond_free : After beyond → ⊥

-- what a defect at `i` gains by moving on to `k`
pub onward : (i k : ℤ) (s : ℕ) → i +ℤ pos 1 ≡ k → 1 ≤ s → Advances (IsUnder i s) (IsUnder k s) (i +ℤ i +ℤ pos 1 +ℤ pos s) (i +ℤ i +ℤ pos 2 +ℤ pos s) (i +ℤ i +ℤ pos 3 +ℤ pos s)
onward i k s next some = record {
  first_middle = inl (omega (arith, ints));
  middle_beyond = inl (omega (arith, ints));
  beside_first = beside_first;
  beside_middle = beside_middle;
  gained = gained;
  beyond_free = λ h. let b = h.before in absurd (omega (arith, ints));
} where
  beside_first : (x : ℤ) → Adjoins (i +ℤ i +ℤ pos 1 +ℤ pos s) x → (x ≡ i +ℤ i +ℤ pos 2 +ℤ pos s) ⊎ IsUnder i s x
  beside_first x (inl e) = inl (omega (arith, ints))
  beside_first x (inr e) = inr (record { from = omega (arith, ints); before = omega (arith, ints) })

  beside_middle : (x : ℤ) → Adjoins (i +ℤ i +ℤ pos 2 +ℤ pos s) x → (x ≡ i +ℤ i +ℤ pos 1 +ℤ pos s) ⊎ (x ≡ i +ℤ i +ℤ pos 3 +ℤ pos s)
  beside_middle x (inl e) = inr (omega (arith, ints))
  beside_middle x (inr e) = inl (omega (arith, ints))

  gained : (x : ℤ) → IsUnder k s x → IsUnder i s x ⊎ ((x ≡ i +ℤ i +ℤ pos 1 +ℤ pos s) ⊎ (x ≡ i +ℤ i +ℤ pos 2 +ℤ pos s))
  gained x h = let a = h.from in let b = h.before in by_lt_z x (i +ℤ i +ℤ pos 1 +ℤ pos s)
      (λ l. inl (record { from = omega (arith, ints); before = omega (arith, ints) }))
      (λ l. by_lt_z x (i +ℤ i +ℤ pos 2 +ℤ pos s) (λ m. inr (inl (omega (arith, ints)))) (λ m. inr (inr (omega (arith, ints)))))

-- what a defect at `k` gains by moving back to `i`
pub backward : (i k : ℤ) (s : ℕ) → i +ℤ pos 1 ≡ k → 1 ≤ s → Advances (IsUnder k s) (IsUnder i s) (i +ℤ i +ℤ pos 2 -ℤ pos s) (i +ℤ i +ℤ pos 1 -ℤ pos s) (i +ℤ i -ℤ pos s)
backward i k s next some = record {
  first_middle = inr (omega (arith, ints));
  middle_beyond = inr (omega (arith, ints));
  beside_first = beside_first;
  beside_middle = beside_middle;
  gained = gained;
  beyond_free = λ h. let b = h.from in absurd (omega (arith, ints));
} where
  beside_first : (x : ℤ) → Adjoins (i +ℤ i +ℤ pos 2 -ℤ pos s) x → (x ≡ i +ℤ i +ℤ pos 1 -ℤ pos s) ⊎ IsUnder k s x
  beside_first x (inl e) = inr (record { from = omega (arith, ints); before = omega (arith, ints) })
  beside_first x (inr e) = inl (omega (arith, ints))

  beside_middle : (x : ℤ) → Adjoins (i +ℤ i +ℤ pos 1 -ℤ pos s) x → (x ≡ i +ℤ i +ℤ pos 2 -ℤ pos s) ⊎ (x ≡ i +ℤ i -ℤ pos s)
  beside_middle x (inl e) = inl (omega (arith, ints))
  beside_middle x (inr e) = inr (omega (arith, ints))

  gained : (x : ℤ) → IsUnder i s x → IsUnder k s x ⊎ ((x ≡ i +ℤ i +ℤ pos 2 -ℤ pos s) ⊎ (x ≡ i +ℤ i +ℤ pos 1 -ℤ pos s))
  gained x h = let a = h.from in let b = h.before in by_lt_z x (i +ℤ i +ℤ pos 2 -ℤ pos s)
      (λ l. inr (inr (omega (arith, ints))))
      (λ l. by_lt_z x (i +ℤ i +ℤ pos 3 -ℤ pos s) (λ m. inr (inl (omega (arith, ints)))) (λ m. inl (record { from = omega (arith, ints); before = omega (arith, ints) })))

-- an edge is one of the two between the half unit in the middle and those beside it
abbrev pub IsEdgeOf : ℤ → ℤ → Type 0
IsEdgeOf middle edge = (edge ≡ middle) ⊎ (edge ≡ middle +ℤ pos 1)

-- The half unit in the middle of the three that an end of the defect passes as it moves on from `i`: one of the two defects
-- has it, none of the three is one that both have, and where an edge lies between them the next defect is a change.
pub record IsMiddle (i : ℤ) (s : ℕ) (middle : ℤ) : Type 0 where
  pub centre : ℤ
  pub either : (centre ≡ i) ⊎ (centre ≡ i +ℤ pos 1)
  pub reached : IsUnder centre s middle
  pub not_both : (x : ℤ) → IsWithin x middle (pos 1) → IsUnder i s x → IsUnder (i +ℤ pos 1) s x → ⊥
  pub changes : (edge : ℤ) → IsEdgeOf middle edge → IsChange edge s (i +ℤ pos 1)

-- the middles at the high end of the defect, and at the low one
pub front_middle : (i : ℤ) (s : ℕ) → 1 ≤ s → IsMiddle i s (i +ℤ i +ℤ pos 2 +ℤ pos s)
front_middle i s some = record {
  centre = i +ℤ pos 1;
  either = inr refl;
  reached = record { from = omega (arith, ints); before = omega (arith, ints) };
  not_both = λ x w h k. let a = w.1 in let b = h.before in absurd (omega (arith, ints));
  changes = changes;
} where
  changes : (edge : ℤ) → IsEdgeOf (i +ℤ i +ℤ pos 2 +ℤ pos s) edge → IsChange edge s (i +ℤ pos 1)
  changes edge (inl e) = inl (record { now = omega (arith, ints); not_before = omega (arith, ints) })
  changes edge (inr e) = inl (record { now = omega (arith, ints); not_before = omega (arith, ints) })

pub back_middle : (i : ℤ) (s : ℕ) → 1 ≤ s → IsMiddle i s (i +ℤ i +ℤ pos 1 -ℤ pos s)
back_middle i s some = record {
  centre = i;
  either = inl refl;
  reached = record { from = omega (arith, ints); before = omega (arith, ints) };
  not_both = λ x w h k. let a = w.0 in let b = k.from in absurd (omega (arith, ints));
  changes = changes;
} where
  changes : (edge : ℤ) → IsEdgeOf (i +ℤ i +ℤ pos 1 -ℤ pos s) edge → IsChange edge s (i +ℤ pos 1)
  changes edge (inl e) = inr (record { now = omega (arith, ints); not_before = omega (arith, ints) })
  changes edge (inr e) = inr (record { now = omega (arith, ints); not_before = omega (arith, ints) })
