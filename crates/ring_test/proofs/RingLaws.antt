-- which half square has which number of a ring, side by side
use Rattle.std.proofs.Common.{◌≡◌, sym, subst, ap, ◌∙◌, arith, inl, inr, ℤ, pos, ◌+ℤ◌, ◌-ℤ◌, ◌≤ℤ◌, ◌<ℤ◌}
use Rattle.std.specs.Int.{int_max, int_min}
use Rattle.lists.proofs.Words.{ints, clamps, by_lt_z}
use Rattle.geo_core.specs.Intervals.{IsIn, IsWithin}
use Rattle.geo_core.specs.declared.plane.Half.{Half}
use Rattle.fault_model.specs.FaultNames.{Neighbours}
use Rattle.ring_test.specs.Rings.{Hole, HasSome, IsInHole, IsRound, steps_across, steps_up, steps_before, ring_of, ring_length, IsRingNumber}

-- ---- steps, in one dimension

none_before : (first count k : ℤ) → pos 0 ≤ℤ count → k ≤ℤ first → steps_before first count k ≡ pos 0
unfolding steps_before
none_before first count k some early = omega (arith, ints, clamps)

some_before : (first count k : ℤ) → first ≤ℤ k → k ≤ℤ (first +ℤ count) → steps_before first count k ≡ k -ℤ first
unfolding steps_before
some_before first count k from to = omega (arith, ints, clamps)

all_before : (first count k : ℤ) → pos 0 ≤ℤ count → (first +ℤ count) ≤ℤ k → steps_before first count k ≡ count
unfolding steps_before
all_before first count k some late = omega (arith, ints, clamps)

same_half : (p q : Half) → p.u ≡ q.u → p.v ≡ q.v → p ≡ q
same_half p q e f = let at : ℤ → ℤ → Half = λ u v. record { u = u; v = v } in ap (λ u. at u p.v) e ∙ ap (at q.u) f

-- ---- the four sides, each with the corner at its end

abbrev pub IsAtPlace : Half → ℤ → ℤ → Type 0
IsAtPlace h u v = (h.u ≡ u) × (h.v ≡ v)

module _ (hole : Hole) (some : HasSome hole) where
  abbrev across : ℤ
  across = steps_across hole

  abbrev up : ℤ
  up = steps_up hole

  pub at_below : (k : ℤ) → pos 0 ≤ℤ k → k ≤ℤ across → IsAtPlace (ring_of hole k) (hole.left -ℤ pos 1 +ℤ k) (hole.bottom -ℤ pos 1)
  at_below k from to =
      let a = some_before (pos 0) across k from (omega (arith, ints)) in
      let b = none_before (across +ℤ up) across k (omega (arith, ints)) (omega (arith, ints)) in
      let c = none_before across up k (omega (arith, ints)) to in
      let d = none_before (across +ℤ up +ℤ across) up k (omega (arith, ints)) (omega (arith, ints)) in
      (omega (arith, ints), omega (arith, ints))

  pub at_right : (k : ℤ) → across ≤ℤ k → k ≤ℤ (across +ℤ up) → IsAtPlace (ring_of hole k) hole.right (hole.bottom -ℤ pos 1 +ℤ (k -ℤ across))
  at_right k from to =
      let a = all_before (pos 0) across k (omega (arith, ints)) (omega (arith, ints)) in
      let b = none_before (across +ℤ up) across k (omega (arith, ints)) to in
      let c = some_before across up k from to in
      let d = none_before (across +ℤ up +ℤ across) up k (omega (arith, ints)) (omega (arith, ints)) in
      (omega (arith, ints), omega (arith, ints))

  pub at_above : (k : ℤ) → (across +ℤ up) ≤ℤ k → k ≤ℤ (across +ℤ up +ℤ across) → IsAtPlace (ring_of hole k) (hole.right -ℤ (k -ℤ (across +ℤ up))) hole.top
  at_above k from to =
      let a = all_before (pos 0) across k (omega (arith, ints)) (omega (arith, ints)) in
      let b = some_before (across +ℤ up) across k from to in
      let c = all_before across up k (omega (arith, ints)) from in
      let d = none_before (across +ℤ up +ℤ across) up k (omega (arith, ints)) to in
      (omega (arith, ints), omega (arith, ints))

  pub at_left : (k : ℤ) → (across +ℤ up +ℤ across) ≤ℤ k → k ≤ℤ ring_length hole → IsAtPlace (ring_of hole k) (hole.left -ℤ pos 1) (hole.top -ℤ (k -ℤ (across +ℤ up +ℤ across)))
  at_left k from to =
      let a = all_before (pos 0) across k (omega (arith, ints)) (omega (arith, ints)) in
      let b = all_before (across +ℤ up) across k (omega (arith, ints)) from in
      let c = all_before across up k (omega (arith, ints)) (omega (arith, ints)) in
      let d = some_before (across +ℤ up +ℤ across) up k from to in
      (omega (arith, ints), omega (arith, ints))

-- ---- the half square with a number, by the side that it stands on

pub data Place (hole : Hole) (k : ℤ) (h : Half) : Type 0 where
  below : pos 0 ≤ℤ k → k <ℤ steps_across hole → h.u ≡ hole.left -ℤ pos 1 +ℤ k → h.v ≡ hole.bottom -ℤ pos 1 → Place hole k h
  right : steps_across hole ≤ℤ k → k <ℤ (steps_across hole +ℤ steps_up hole) → h.u ≡ hole.right → h.v ≡ hole.bottom -ℤ pos 1 +ℤ (k -ℤ steps_across hole) → Place hole k h
  above : (steps_across hole +ℤ steps_up hole) ≤ℤ k → k <ℤ (steps_across hole +ℤ steps_up hole +ℤ steps_across hole) → h.u ≡ hole.right -ℤ (k -ℤ (steps_across hole +ℤ steps_up hole)) → h.v ≡ hole.top
      → Place hole k h
  left : (steps_across hole +ℤ steps_up hole +ℤ steps_across hole) ≤ℤ k → k <ℤ ring_length hole → h.u ≡ hole.left -ℤ pos 1
      → h.v ≡ hole.top -ℤ (k -ℤ (steps_across hole +ℤ steps_up hole +ℤ steps_across hole)) → Place hole k h

module _ (hole : Hole) (some : HasSome hole) where
  pub place_of : (k : ℤ) → IsRingNumber hole k → Place hole k (ring_of hole k)
  place_of k is = by_lt_z k (steps_across hole)
      (λ l. let p = at_below hole some k is.from (omega (arith, ints)) in below is.from l p.0 p.1)
      (λ m. by_lt_z k (steps_across hole +ℤ steps_up hole)
      (λ l. let p = at_right hole some k m (omega (arith, ints)) in right m l p.0 p.1)
      (λ n. by_lt_z k (steps_across hole +ℤ steps_up hole +ℤ steps_across hole)
      (λ l. let p = at_above hole some k n (omega (arith, ints)) in above n l p.0 p.1)
      (λ o. let p = at_left hole some k o (omega (arith, ints)) in left o is.before p.0 p.1)))

  pub place_number : (k : ℤ) (h : Half) → Place hole k h → IsRingNumber hole k
  place_number k h (below from to u v) = record { from = omega (arith, ints); before = omega (arith, ints) }
  place_number k h (right from to u v) = record { from = omega (arith, ints); before = omega (arith, ints) }
  place_number k h (above from to u v) = record { from = omega (arith, ints); before = omega (arith, ints) }
  place_number k h (left from to u v) = record { from = omega (arith, ints); before = to }

  pub place_is : (k : ℤ) (h : Half) → Place hole k h → ring_of hole k ≡ h
  place_is k h (below from to u v) = let p = at_below hole some k from (omega (arith, ints)) in same_half (ring_of hole k) h (p.0 ∙ sym u) (p.1 ∙ sym v)
  place_is k h (right from to u v) = let p = at_right hole some k from (omega (arith, ints)) in same_half (ring_of hole k) h (p.0 ∙ sym u) (p.1 ∙ sym v)
  place_is k h (above from to u v) = let p = at_above hole some k from (omega (arith, ints)) in same_half (ring_of hole k) h (p.0 ∙ sym u) (p.1 ∙ sym v)
  place_is k h (left from to u v) = let p = at_left hole some k from (omega (arith, ints)) in same_half (ring_of hole k) h (p.0 ∙ sym u) (p.1 ∙ sym v)

  -- a half square stands at one place alone
  pub one_place : (k l : ℤ) (h : Half) → Place hole k h → Place hole l h → k ≡ l
  one_place k l h (below a b u v) (below c d x y) = omega (arith, ints)
  one_place k l h (below a b u v) (right c d x y) = omega (arith, ints)
  one_place k l h (below a b u v) (above c d x y) = omega (arith, ints)
  one_place k l h (below a b u v) (left c d x y) = omega (arith, ints)
  one_place k l h (right a b u v) (below c d x y) = omega (arith, ints)
  one_place k l h (right a b u v) (right c d x y) = omega (arith, ints)
  one_place k l h (right a b u v) (above c d x y) = omega (arith, ints)
  one_place k l h (right a b u v) (left c d x y) = omega (arith, ints)
  one_place k l h (above a b u v) (below c d x y) = omega (arith, ints)
  one_place k l h (above a b u v) (right c d x y) = omega (arith, ints)
  one_place k l h (above a b u v) (above c d x y) = omega (arith, ints)
  one_place k l h (above a b u v) (left c d x y) = omega (arith, ints)
  one_place k l h (left a b u v) (below c d x y) = omega (arith, ints)
  one_place k l h (left a b u v) (right c d x y) = omega (arith, ints)
  one_place k l h (left a b u v) (above c d x y) = omega (arith, ints)
  one_place k l h (left a b u v) (left c d x y) = omega (arith, ints)

  -- ---- half squares round the hole are those with a place

  pub place_outside : (k : ℤ) (h : Half) → Place hole k h → IsInHole hole h → ⊥
  place_outside k h (below a b u v) (x, y) = absurd (omega (arith, ints))
  place_outside k h (right a b u v) (x, y) = absurd (omega (arith, ints))
  place_outside k h (above a b u v) (x, y) = absurd (omega (arith, ints))
  place_outside k h (left a b u v) (x, y) = absurd (omega (arith, ints))

  -- it is in a column and a row of the hole, or in those next to them
  place_columns : (k : ℤ) (h : Half) → Place hole k h → IsIn (hole.left -ℤ pos 1) (hole.right +ℤ pos 1) h.u
  place_columns k h (below a b u v) = record { from = omega (arith, ints); before = omega (arith, ints) }
  place_columns k h (right a b u v) = let s = some.across in record { from = omega (arith, ints); before = omega (arith, ints) }
  place_columns k h (above a b u v) = record { from = omega (arith, ints); before = omega (arith, ints) }
  place_columns k h (left a b u v) = let s = some.across in record { from = omega (arith, ints); before = omega (arith, ints) }

  place_rows : (k : ℤ) (h : Half) → Place hole k h → IsIn (hole.bottom -ℤ pos 1) (hole.top +ℤ pos 1) h.v
  place_rows k h (below a b u v) = let s = some.up in record { from = omega (arith, ints); before = omega (arith, ints) }
  place_rows k h (right a b u v) = record { from = omega (arith, ints); before = omega (arith, ints) }
  place_rows k h (above a b u v) = let s = some.up in record { from = omega (arith, ints); before = omega (arith, ints) }
  place_rows k h (left a b u v) = record { from = omega (arith, ints); before = omega (arith, ints) }

-- a number next to an interval, or in it, has one of the interval's at most one away
nearest : (low high x : ℤ) → low <ℤ high → IsIn (low -ℤ pos 1) (high +ℤ pos 1) x → (y : ℤ) × IsIn low high y × IsWithin x y (pos 1)
nearest low high x some is = (
  int_max low (int_min (high -ℤ pos 1) x),
  record { from = omega (arith, ints, clamps); before = omega (arith, ints, clamps) },
  (omega (arith, ints, clamps), omega (arith, ints, clamps)),
)

next_to : (low high x y : ℤ) → IsIn low high y → IsWithin x y (pos 1) → IsIn (low -ℤ pos 1) (high +ℤ pos 1) x
next_to low high x y is near = let a = near.0 in let b = near.1 in record { from = omega (arith, ints); before = omega (arith, ints) }

module _ (hole : Hole) (some : HasSome hole) where
  pub place_round : (k : ℤ) (h : Half) → Place hole k h → IsRound hole h
  place_round k h place =
      let u = nearest hole.left hole.right h.u some.across (place_columns hole some k h place) in
      let v = nearest hole.bottom hole.top h.v some.up (place_rows hole some k h place) in
      record { outside = place_outside hole some k h place; inner = record { u = u.0; v = v.0 }; inside = (u.1, v.1); beside = u.2; level = v.2 }

  -- the place of a half square that is in the rows of the hole, and outside it
  beside_place : (h : Half) → IsIn (hole.left -ℤ pos 1) (hole.right +ℤ pos 1) h.u → IsIn hole.bottom hole.top h.v → (IsInHole hole h → ⊥) → (k : ℤ) × Place hole k h
  beside_place h u v out = by_lt_z h.u hole.left
      (λ l. (steps_across hole +ℤ steps_up hole +ℤ steps_across hole +ℤ (hole.top -ℤ h.v), left (omega (arith, ints)) (omega (arith, ints)) (omega (arith, ints)) (omega (arith, ints))))
      (λ m. by_lt_z h.u hole.right (λ l. absurd (out (record { from = m; before = l }, v)))
      (λ n. (steps_across hole +ℤ (h.v -ℤ (hole.bottom -ℤ pos 1)), right (omega (arith, ints)) (omega (arith, ints)) (omega (arith, ints)) (omega (arith, ints)))))

  below_place : (h : Half) → IsIn (hole.left -ℤ pos 1) (hole.right +ℤ pos 1) h.u → h.v ≡ hole.bottom -ℤ pos 1 → (k : ℤ) × Place hole k h
  below_place h u v = by_lt_z h.u hole.right
      (λ l. (h.u -ℤ (hole.left -ℤ pos 1), below (omega (arith, ints)) (omega (arith, ints)) (omega (arith, ints)) v))
      (λ m. (steps_across hole, right (omega (arith, ints)) (let s = some.up in omega (arith, ints)) (omega (arith, ints)) (omega (arith, ints))))

  above_place : (h : Half) → IsIn (hole.left -ℤ pos 1) (hole.right +ℤ pos 1) h.u → h.v ≡ hole.top → (k : ℤ) × Place hole k h
  above_place h u v = by_lt_z h.u hole.left
      (λ l. (steps_across hole +ℤ steps_up hole +ℤ steps_across hole, left (omega (arith, ints)) (let s = some.up in omega (arith, ints)) (omega (arith, ints)) (omega (arith, ints))))
      (λ m. (steps_across hole +ℤ steps_up hole +ℤ (hole.right -ℤ h.u), above (omega (arith, ints)) (omega (arith, ints)) (omega (arith, ints)) v))

  pub round_place : (h : Half) → IsRound hole h → (k : ℤ) × Place hole k h
  round_place h is =
      let u = next_to hole.left hole.right h.u is.inner.u is.inside.0 is.beside in
      let v = next_to hole.bottom hole.top h.v is.inner.v is.inside.1 is.level in
      by_lt_z h.v hole.bottom
      (λ l. below_place h u (omega (arith, ints)))
      (λ m. by_lt_z h.v hole.top (λ l. beside_place h u (record { from = m; before = l }) is.outside)
      (λ n. above_place h u (omega (arith, ints))))

  pub round_number : (h : Half) → IsRound hole h → (k : ℤ) × IsRingNumber hole k × (ring_of hole k ≡ h)
  round_number h is = let p = round_place h is in (p.0, place_number hole some p.0 h p.1, place_is hole some p.0 h p.1)

  pub number_round : (h : Half) (k : ℤ) → IsRingNumber hole k → ring_of hole k ≡ h → IsRound hole h
  number_round h k is e = subst (IsRound hole) e (place_round k (ring_of hole k) (place_of hole some k is))

  pub numbers_once : (k l : ℤ) → IsRingNumber hole k → IsRingNumber hole l → ring_of hole k ≡ ring_of hole l → k ≡ l
  numbers_once k l is also e = one_place hole some k l (ring_of hole l) (subst (Place hole k) e (place_of hole some k is)) (place_of hole some l also)

  -- ---- from each number to the next

  pub next_beside : (k : ℤ) → IsRingNumber hole k → Neighbours (ring_of hole k) (ring_of hole (k +ℤ pos 1))
  next_beside k is = by_lt_z k (steps_across hole)
      (λ l. let p = at_below hole some k is.from (omega (arith, ints)) in let q = at_below hole some (k +ℤ pos 1) (let f = is.from in omega (arith, ints)) (omega (arith, ints)) in
      inl (p.1 ∙ sym q.1, inl (omega (arith, ints))))
      (λ m. by_lt_z k (steps_across hole +ℤ steps_up hole)
      (λ l. let p = at_right hole some k m (omega (arith, ints)) in let q = at_right hole some (k +ℤ pos 1) (omega (arith, ints)) (omega (arith, ints)) in
      inr (p.0 ∙ sym q.0, inl (omega (arith, ints))))
      (λ n. by_lt_z k (steps_across hole +ℤ steps_up hole +ℤ steps_across hole)
      (λ l. let p = at_above hole some k n (omega (arith, ints)) in let q = at_above hole some (k +ℤ pos 1) (omega (arith, ints)) (omega (arith, ints)) in
      inl (p.1 ∙ sym q.1, inr (omega (arith, ints))))
      (λ o. let p = at_left hole some k o (let t = is.before in omega (arith, ints)) in let q = at_left hole some (k +ℤ pos 1) (omega (arith, ints)) (let t = is.before in omega (arith, ints)) in
      inr (p.0 ∙ sym q.0, inr (omega (arith, ints))))))

  -- once round
  round_again : ring_of hole (ring_length hole) ≡ ring_of hole (pos 0)
  round_again =
      let a = some.across in let b = some.up in
      let p = at_below hole some (pos 0) (omega (arith, ints)) (omega (arith, ints)) in
      let q = at_left hole some (ring_length hole) (omega (arith, ints)) (omega (arith, ints)) in
      same_half (ring_of hole (ring_length hole)) (ring_of hole (pos 0)) (omega (arith, ints)) (omega (arith, ints))

  pub last_beside : Neighbours (ring_of hole (ring_length hole -ℤ pos 1)) (ring_of hole (pos 0))
  last_beside =
      let a = some.across in let b = some.up in
      let e : ring_length hole -ℤ pos 1 +ℤ pos 1 ≡ ring_length hole = omega (arith, ints) in
      subst (Neighbours (ring_of hole (ring_length hole -ℤ pos 1))) (ap (ring_of hole) e ∙ round_again)
      (next_beside (ring_length hole -ℤ pos 1) (record { from = omega (arith, ints); before = omega (arith, ints) }))

  pub first_corner : ring_of hole (pos 0) ≡ record { u = hole.left -ℤ pos 1; v = hole.bottom -ℤ pos 1 }
  first_corner =
      let a = some.across in
      let p = at_below hole some (pos 0) (omega (arith, ints)) (omega (arith, ints)) in
      same_half (ring_of hole (pos 0)) (record { u = hole.left -ℤ pos 1; v = hole.bottom -ℤ pos 1 }) (omega (arith, ints)) p.1

  pub second_corner : ring_of hole (steps_across hole) ≡ record { u = hole.right; v = hole.bottom -ℤ pos 1 }
  second_corner =
      let a = some.across in
      let p = at_below hole some (steps_across hole) (omega (arith, ints)) (omega (arith, ints)) in
      same_half (ring_of hole (steps_across hole)) (record { u = hole.right; v = hole.bottom -ℤ pos 1 }) (omega (arith, ints)) p.1
