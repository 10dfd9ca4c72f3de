-- which numbers of the sides of a ring a box has
use Rattle.std.proofs.Common.{List, Option, ◌≡◌, inl, inr, ◌⊎◌, arith, ℤ, pos, ◌+ℤ◌, ◌-ℤ◌, ◌≤ℤ◌, ◌↔◌}
use Rattle.lists.proofs.Words.{int_max, int_min, ints, clamps, by_lt_z}
use Rattle.geo_core.specs.Intervals.{IsIn}
use Rattle.half_boxes.specs.HalfBoxes.{HasHalf}
use Rattle.half_boxes.specs.declared.boxes.HalfBox.{HalfBox}
use Rattle.ring_test.specs.Rings.{Hole, HasSome, steps_across, steps_up, ring_of, IsRingNumber, hole_of}
use Rattle.ring_test.specs.declared.runs.Run.{Run}
use Rattle.ring_test.specs.inside.RingSides.{IsBelow, IsOnRight, IsAbove, IsOnLeft}
use Rattle.ring_test.specs.inside.NumberRuns.{IsInRunOf, IsInRuns}
use Rattle.ring_test.proofs.RingLaws.{at_below, at_right, at_above, at_left}

-- ---- numbers of what an interval has of a side, in one dimension

-- the numbers rise with the places
pub rising_are : (first low high p q k from to : ℤ) → from ≡ first +ℤ (int_max p low -ℤ low) → to ≡ first +ℤ (int_min q high -ℤ low)
    → IsIn from to k ↔ (IsIn first (first +ℤ (high -ℤ low)) k × IsIn p q (low +ℤ (k -ℤ first)))
rising_are first low high p q k from to e f = (
  λ i. (record { from = omega (arith, ints, clamps); before = omega (arith, ints, clamps) }, record { from = omega (arith, ints, clamps); before = omega (arith, ints, clamps) }),
  λ (a, b). record { from = omega (arith, ints, clamps); before = omega (arith, ints, clamps) },
)

-- they fall
pub falling_are : (first low high p q k from to : ℤ) → from ≡ first +ℤ (high -ℤ int_min q high) → to ≡ first +ℤ (high -ℤ int_max p low)
    → IsIn from to k ↔ (IsIn first (first +ℤ (high -ℤ low)) k × IsIn p q (high -ℤ pos 1 -ℤ (k -ℤ first)))
falling_are first low high p q k from to e f = (
  λ i. (record { from = omega (arith, ints, clamps); before = omega (arith, ints, clamps) }, record { from = omega (arith, ints, clamps); before = omega (arith, ints, clamps) }),
  λ (a, b). record { from = omega (arith, ints, clamps); before = omega (arith, ints, clamps) },
)

-- what is so exactly where something is that is so exactly where a third thing is
pub through : {A B C : Type 0} → A ↔ B → B ↔ C → A ↔ C
through f g = (λ a. g.0 (f.0 a), λ c. f.1 (g.1 c))

-- an interval without a number
pub none_in : (from to k : ℤ) → to ≤ℤ from → IsIn from to k → ⊥
none_in from to k none is = absurd (omega (arith, ints))

-- ---- half squares of a box on a side, by their numbers

module _ (hole : Hole) (some : HasSome hole) (one : HalfBox) (k : ℤ) where
  abbrev HasAt : Type 0
  HasAt = HasHalf one (ring_of hole k)

  pub below_has : (first low high line : ℤ) → first ≡ pos 0 → low ≡ hole.left -ℤ pos 1 → high ≡ hole.right → line ≡ hole.bottom -ℤ pos 1 → IsIn one.rows.low one.rows.high line
      → (IsIn first (first +ℤ (high -ℤ low)) k × IsIn one.columns.low one.columns.high (low +ℤ (k -ℤ first))) ↔ (IsBelow hole k × HasAt)
  below_has first low high line e f g d level = (
    λ (a, b).
        let p = at_below hole some k (omega (arith, ints)) (omega (arith, ints)) in (
          record { from = omega (arith, ints); before = omega (arith, ints) },
          record {
            across = record { from = omega (arith, ints); before = omega (arith, ints) };
            up = record { from = omega (arith, ints); before = omega (arith, ints) };
          },
        ),
    λ (a, h).
        let p = at_below hole some k (omega (arith, ints)) (omega (arith, ints)) in let x = h.across in
        (record { from = omega (arith, ints); before = omega (arith, ints) }, record { from = omega (arith, ints); before = omega (arith, ints) }),
  )

  pub none_below : (line : ℤ) → line ≡ hole.bottom -ℤ pos 1 → (IsIn one.rows.low one.rows.high line → ⊥) → IsBelow hole k → HasAt → ⊥
  none_below line d out a h = let p = at_below hole some k (omega (arith, ints)) (omega (arith, ints)) in let y = h.up in out (record { from = omega (arith, ints); before = omega (arith, ints) })

  pub right_has : (first low high line : ℤ) → first ≡ steps_across hole → low ≡ hole.bottom -ℤ pos 1 → high ≡ hole.top → line ≡ hole.right → IsIn one.columns.low one.columns.high line
      → (IsIn first (first +ℤ (high -ℤ low)) k × IsIn one.rows.low one.rows.high (low +ℤ (k -ℤ first))) ↔ (IsOnRight hole k × HasAt)
  right_has first low high line e f g d level = (
    λ (a, b).
        let p = at_right hole some k (omega (arith, ints)) (omega (arith, ints)) in (
          record { from = omega (arith, ints); before = omega (arith, ints) },
          record {
            across = record { from = omega (arith, ints); before = omega (arith, ints) };
            up = record { from = omega (arith, ints); before = omega (arith, ints) };
          },
        ),
    λ (a, h).
        let p = at_right hole some k (omega (arith, ints)) (omega (arith, ints)) in let x = h.up in
        (record { from = omega (arith, ints); before = omega (arith, ints) }, record { from = omega (arith, ints); before = omega (arith, ints) }),
  )

  pub none_on_right : (line : ℤ) → line ≡ hole.right → (IsIn one.columns.low one.columns.high line → ⊥) → IsOnRight hole k → HasAt → ⊥
  none_on_right line d out a h =
      let p = at_right hole some k (omega (arith, ints)) (omega (arith, ints)) in
      let y = h.across in
      out (record { from = omega (arith, ints); before = omega (arith, ints) })

  pub above_has : (first low high line : ℤ) → first ≡ steps_across hole +ℤ steps_up hole → low ≡ hole.left → high ≡ hole.right +ℤ pos 1 → line ≡ hole.top → IsIn one.rows.low one.rows.high line
      → (IsIn first (first +ℤ (high -ℤ low)) k × IsIn one.columns.low one.columns.high (high -ℤ pos 1 -ℤ (k -ℤ first))) ↔ (IsAbove hole k × HasAt)
  above_has first low high line e f g d level = (
    λ (a, b).
        let p = at_above hole some k (omega (arith, ints)) (omega (arith, ints)) in (
          record { from = omega (arith, ints); before = omega (arith, ints) },
          record {
            across = record { from = omega (arith, ints); before = omega (arith, ints) };
            up = record { from = omega (arith, ints); before = omega (arith, ints) };
          },
        ),
    λ (a, h).
        let p = at_above hole some k (omega (arith, ints)) (omega (arith, ints)) in let x = h.across in
        (record { from = omega (arith, ints); before = omega (arith, ints) }, record { from = omega (arith, ints); before = omega (arith, ints) }),
  )

  pub none_above : (line : ℤ) → line ≡ hole.top → (IsIn one.rows.low one.rows.high line → ⊥) → IsAbove hole k → HasAt → ⊥
  none_above line d out a h = let p = at_above hole some k (omega (arith, ints)) (omega (arith, ints)) in let y = h.up in out (record { from = omega (arith, ints); before = omega (arith, ints) })

  pub left_has : (first low high line : ℤ) → first ≡ steps_across hole +ℤ steps_up hole +ℤ steps_across hole → low ≡ hole.bottom → high ≡ hole.top +ℤ pos 1
      → line ≡ hole.left -ℤ pos 1 → IsIn one.columns.low one.columns.high line
      → (IsIn first (first +ℤ (high -ℤ low)) k × IsIn one.rows.low one.rows.high (high -ℤ pos 1 -ℤ (k -ℤ first))) ↔ (IsOnLeft hole k × HasAt)
  left_has first low high line e f g d level = (
    λ (a, b).
        let p = at_left hole some k (omega (arith, ints)) (omega (arith, ints)) in (
          record { from = omega (arith, ints); before = omega (arith, ints) },
          record {
            across = record { from = omega (arith, ints); before = omega (arith, ints) };
            up = record { from = omega (arith, ints); before = omega (arith, ints) };
          },
        ),
    λ (a, h).
        let p = at_left hole some k (omega (arith, ints)) (omega (arith, ints)) in let x = h.up in
        (record { from = omega (arith, ints); before = omega (arith, ints) }, record { from = omega (arith, ints); before = omega (arith, ints) }),
  )

  pub none_on_left : (line : ℤ) → line ≡ hole.left -ℤ pos 1 → (IsIn one.columns.low one.columns.high line → ⊥) → IsOnLeft hole k → HasAt → ⊥
  none_on_left line d out a h = let p = at_left hole some k (omega (arith, ints)) (omega (arith, ints)) in let y = h.across in out (record { from = omega (arith, ints); before = omega (arith, ints) })

  -- a number of the ring is one of one of its sides
  pub all_sides : (P : Type 0) → (IsRingNumber hole k × P) → (((IsBelow hole k × P) ⊎ (IsOnRight hole k × P)) ⊎ (IsAbove hole k × P)) ⊎ (IsOnLeft hole k × P)
  all_sides P (is, h) = by_lt_z k (steps_across hole)
      (λ l. inl (inl (inl (record { from = is.from; before = l }, h))))
      (λ m. by_lt_z k (steps_across hole +ℤ steps_up hole)
      (λ l. inl (inl (inr (record { from = m; before = l }, h))))
      (λ n. by_lt_z k (steps_across hole +ℤ steps_up hole +ℤ steps_across hole) (λ l. inl (inr (record { from = n; before = l }, h))) (λ o. inr (record { from = o; before = is.before }, h))))

  pub number_below : IsBelow hole k → IsRingNumber hole k
  number_below is = let a = some.up in let b = some.across in record { from = is.from; before = omega (arith, ints) }

  pub number_on_right : IsOnRight hole k → IsRingNumber hole k
  number_on_right is = let a = some.up in let b = some.across in record { from = omega (arith, ints); before = omega (arith, ints) }

  pub number_above : IsAbove hole k → IsRingNumber hole k
  number_above is = let a = some.up in let b = some.across in record { from = omega (arith, ints); before = omega (arith, ints) }

  pub number_on_left : IsOnLeft hole k → IsRingNumber hole k
  number_on_left is = let a = some.up in let b = some.across in record { from = omega (arith, ints); before = is.before }

-- a box has at least one half square
pub box_has_some : (one : HalfBox) → HasSome (hole_of one)
box_has_some one = record { across = one.columns.within.some; up = one.rows.within.some }

-- ---- a list of runs with those of the four sides

module _ (hole : Hole) (some : HasSome hole) (one : HalfBox) (k : ℤ) where
  abbrev IsOf : (Hole → ℤ → Type 0) → Type 0
  IsOf OnSide = OnSide hole k × HasHalf one (ring_of hole k)

  abbrev IsAdded : List Run → Option Run → List Run → Type 0
  IsAdded old run new = IsInRuns new k ↔ (IsInRuns old k ⊎ IsInRunOf run k)

  pub four_added : (r0 r1 r2 r3 r4 : List Run) (a b c d : Option Run) → IsInRunOf a k ↔ IsOf IsBelow → IsInRunOf b k ↔ IsOf IsOnRight → IsInRunOf c k ↔ IsOf IsAbove → IsInRunOf d k ↔ IsOf IsOnLeft
      → IsAdded r0 a r1 → IsAdded r1 b r2 → IsAdded r2 c r3 → IsAdded r3 d r4 → IsInRuns r4 k ↔ (IsInRuns r0 k ⊎ IsOf IsRingNumber)
  four_added r0 r1 r2 r3 r4 a b c d is_a is_b is_c is_d add_a add_b add_c add_d = (
    λ i. elim (add_d.0 i) [
      | inr y ↦ let s = is_d.0 y in inr (number_on_left hole some one k s.0, s.1)
      | inl i3 ↦ elim (add_c.0 i3) [
        | inr y ↦ let s = is_c.0 y in inr (number_above hole some one k s.0, s.1)
        | inl i2 ↦ elim (add_b.0 i2) [
          | inr y ↦ let s = is_b.0 y in inr (number_on_right hole some one k s.0, s.1)
          | inl i1 ↦ elim (add_a.0 i1) [ inr y ↦ let s = is_a.0 y in inr (number_below hole some one k s.0, s.1) | inl i0 ↦ inl i0 ]
        ]
      ]
    ],
    λ e. elim e [
      | inl i0 ↦ add_d.1 (inl (add_c.1 (inl (add_b.1 (inl (add_a.1 (inl i0)))))))
      | inr s ↦ elim (all_sides hole some one k (HasHalf one (ring_of hole k)) s) [
        | inr y ↦ add_d.1 (inr (is_d.1 y))
        | inl (inr y) ↦ add_d.1 (inl (add_c.1 (inr (is_c.1 y))))
        | inl (inl (inr y)) ↦ add_d.1 (inl (add_c.1 (inl (add_b.1 (inr (is_b.1 y))))))
        | inl (inl (inl y)) ↦ add_d.1 (inl (add_c.1 (inl (add_b.1 (inl (add_a.1 (inr (is_a.1 y))))))))
      ]
    ],
  )
