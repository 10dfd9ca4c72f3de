-- where what a set has of the ring round a hole is one arc, removing the hole parts nothing of what is left of the set
use Rattle.std.proofs.Common.{ℕ, zero, suc, ◌≤◌, ◌≡◌, refl, sym, subst, arith, inl, inr, ◌⊎◌, ℤ, pos, ◌+ℤ◌, ◌-ℤ◌, ◌≤ℤ◌, ◌<ℤ◌}
use Rattle.lists.proofs.Words.{ints, by_lt_z}
use Rattle.paths.specs.Paths.{stay, step}
use Rattle.paths.proofs.PathLaws.{first, append, reverse}
use Rattle.geo_core.specs.declared.plane.Half.{Half}
use Rattle.geo_core.proofs.IntervalLaws.{in_or_not}
use Rattle.fault_model.specs.FaultNames.{Neighbours, Walk, or_zero}
use Rattle.fault_model.proofs.HalfLaws.{Neighbours-sym}
use Rattle.fault_model.proofs.RangeLaws.{or_zero_is}
use Rattle.severing.specs.Severing.{IsLeft}
use Rattle.ring_test.specs.Rings.{Hole, HasSome, IsInHole, IsRound, IsRingNumber, ring_of, ring_length, HasOneArc}
use Rattle.ring_test.proofs.RingLaws.{number_round, round_number, next_beside, last_beside}

-- a half square lies in a hole, or not
pub in_hole_or_not : (hole : Hole) (h : Half) → IsInHole hole h ⊎ (IsInHole hole h → ⊥)
in_hole_or_not hole h = elim (in_or_not hole.left hole.right h.u) [
  | inl x ↦ elim (in_or_not hole.bottom hole.top h.v) [ inl y ↦ inl (x, y) | inr n ↦ inr (λ is. n is.1) ]
  | inr n ↦ inr (λ is. n is.0)
]

module _ (hole : Hole) (some : HasSome hole) (on : Half → Type 0) where
  abbrev Left : Half → Type 0
  Left = IsLeft on (IsInHole hole)

  -- the half square with this number is one of the ring's, and of the set
  abbrev IsOnAt : ℤ → Type 0
  IsOnAt k = IsRingNumber hole k × on (ring_of hole k)

  left_at : (k : ℤ) → IsOnAt k → Left (ring_of hole k)
  left_at k is = (is.1, (number_round hole some (ring_of hole k) k is.0 refl).outside)

  -- ---- along the ring

  forward : (k : ℤ) (n : ℕ) → ((m : ℕ) → m ≤ n → IsOnAt (k +ℤ pos m)) → Walk Left (ring_of hole k) (ring_of hole (k +ℤ pos n))
  forward k zero all = let e : k +ℤ pos 0 ≡ k = omega (arith, ints) in subst (λ x. Walk Left (ring_of hole x) (ring_of hole (k +ℤ pos 0))) e (stay (left_at (k +ℤ pos 0) (all 0 (omega arith))))
  forward k (suc n) all =
      let e : k +ℤ pos n +ℤ pos 1 ≡ k +ℤ pos (suc n) = omega (arith, ints) in
      let here = all n (omega arith) in
      append (forward k n (λ m h. all m (omega arith)))
      (step (left_at (k +ℤ pos n) here) (subst (λ x. Neighbours (ring_of hole (k +ℤ pos n)) (ring_of hole x)) e (next_beside hole some (k +ℤ pos n) here.0))
      (stay (left_at (k +ℤ pos (suc n)) (all (suc n) (omega arith)))))

  -- from a number to a later one, over all between them
  along : (k l : ℤ) → IsRingNumber hole k → IsRingNumber hole l → k ≤ℤ l → ((x : ℤ) → k ≤ℤ x → x ≤ℤ l → IsRingNumber hole x → on (ring_of hole x)) → Walk Left (ring_of hole k) (ring_of hole l)
  along k l is also le all =
      let n = or_zero_is (l -ℤ k) (omega (arith, ints)) in
      let e : k +ℤ pos (or_zero (l -ℤ k)) ≡ l = omega (arith, ints) in
      subst (λ x. Walk Left (ring_of hole k) (ring_of hole x)) e (forward k (or_zero (l -ℤ k)) (λ m h.
      let x : IsRingNumber hole (k +ℤ pos m) = record { from = omega (arith, ints); before = omega (arith, ints) } in
      (x, all (k +ℤ pos m) (omega (arith, ints)) (omega (arith, ints)) x)))

  -- from a number down to 0, and on from the last one down to another
  around : (k l : ℤ) → IsRingNumber hole k → IsRingNumber hole l → ((x : ℤ) → x ≤ℤ k → IsRingNumber hole x → on (ring_of hole x))
      → ((x : ℤ) → l ≤ℤ x → IsRingNumber hole x → on (ring_of hole x)) → Walk Left (ring_of hole k) (ring_of hole l)
  around k l is also low high =
      let zeroth : IsRingNumber hole (pos 0) = record { from = omega (arith, ints); before = omega (arith, ints) } in
      let last : IsRingNumber hole (ring_length hole -ℤ pos 1) = record { from = omega (arith, ints); before = omega (arith, ints) } in
      append (reverse Neighbours-sym (along (pos 0) k zeroth is is.from (λ x from to. low x to)))
      (step (left_at (pos 0) (zeroth, low (pos 0) is.from zeroth)) (Neighbours-sym _ _ (last_beside hole some))
      (reverse Neighbours-sym (along l (ring_length hole -ℤ pos 1) also last (omega (arith, ints)) (λ x from to. high x from))))

  module _ (arc : HasOneArc hole on) where
    -- two half squares of one arc are joined along it
    arc_upward : (k l : ℤ) → IsOnAt k → IsOnAt l → k ≤ℤ l → Walk Left (ring_of hole k) (ring_of hole l)
    arc_upward k l is also le = elim arc.either [
      | inl run ↦
          let a = (run k is.0).0 is.1 in let b = (run l also.0).0 also.1 in
          along k l is.0 also.0 le (λ x from to number. (run x number).1 (record { from = omega (arith, ints); before = omega (arith, ints) }))
      | inr others ↦
          let a = (others k is.0).0 is.1 in let b = (others l also.0).0 also.1 in
          let before : (x : ℤ) → x <ℤ arc.from → IsRingNumber hole x → on (ring_of hole x) = λ x small number. (others x number).1 (λ i. let f = i.from in absurd (omega (arith, ints))) in
          let behind : (x : ℤ) → arc.to ≤ℤ x → IsRingNumber hole x → on (ring_of hole x) = λ x large number. (others x number).1 (λ i. let f = i.before in absurd (omega (arith, ints))) in
          by_lt_z k arc.from
          (λ m. by_lt_z l arc.from (λ n. along k l is.0 also.0 le (λ x from to. before x (omega (arith, ints))))
          (λ n. by_lt_z l arc.to (λ o. absurd (b (record { from = n; before = o })))
          (λ o. around k l is.0 also.0 (λ x to. before x (omega (arith, ints))) (λ x from. behind x (omega (arith, ints))))))
          (λ m. by_lt_z k arc.to (λ n. absurd (a (record { from = m; before = n })))
          (λ n. along k l is.0 also.0 le (λ x from to. behind x (omega (arith, ints)))))
    ]

    arc_joins : (k l : ℤ) → IsOnAt k → IsOnAt l → Walk Left (ring_of hole k) (ring_of hole l)
    arc_joins k l is also = by_lt_z l k (λ m. reverse Neighbours-sym (arc_upward l k also is (omega (arith, ints)))) (λ m. arc_upward k l is also m)

    -- ---- a walk within the set keeps out of the hole, or both its ends come to the ring

    -- a walk on what is left leads to the ring
    abbrev Comes : Half → Type 0
    Comes p = (k : ℤ) × IsOnAt k × Walk Left p (ring_of hole k)

    at_ring : (p q : Half) → on p → (IsInHole hole p → ⊥) → IsInHole hole q → Neighbours p q → Comes p
    at_ring p q on_p out inside n =
        let k = round_number hole some p (beside n) in
        (k.0, (k.1, subst on (sym k.2) on_p), subst (λ x. Walk Left p x) (sym k.2) (stay (on_p, out)))
      where
        beside : Neighbours p q → IsRound hole p
        beside (inl (e, inl a)) = record { outside = out; inner = q; inside = inside; beside = (omega (arith, ints), omega (arith, ints)); level = (omega (arith, ints), omega (arith, ints)) }
        beside (inl (e, inr a)) = record { outside = out; inner = q; inside = inside; beside = (omega (arith, ints), omega (arith, ints)); level = (omega (arith, ints), omega (arith, ints)) }
        beside (inr (e, inl a)) = record { outside = out; inner = q; inside = inside; beside = (omega (arith, ints), omega (arith, ints)); level = (omega (arith, ints), omega (arith, ints)) }
        beside (inr (e, inr a)) = record { outside = out; inner = q; inside = inside; beside = (omega (arith, ints), omega (arith, ints)); level = (omega (arith, ints), omega (arith, ints)) }

    -- what is so of a walk to a half square outside the hole, by where it begins
    abbrev Turns : Half → Half → Type 0
    Turns p q = ((IsInHole hole p → ⊥) → Walk Left p q ⊎ (Comes p × Comes q)) × (IsInHole hole p → Comes q)

    -- one step more at the front, from outside the hole or from within it, to a half square outside
    turns_outside : (p o q : Half) → on p → on o → Neighbours p o → (IsInHole hole o → ⊥) → Walk Left o q ⊎ (Comes o × Comes q) → Turns p q
    turns_outside p o q on_p on_o n out (inl w) = (
      λ out_p. inl (step (on_p, out_p) n w),
      λ in_p. let c = at_ring o p on_o out in_p (Neighbours-sym p o n) in (c.0, c.1, append (reverse Neighbours-sym w) c.2),
    )
    turns_outside p o q on_p on_o n out (inr (a, b)) = (λ out_p. inr ((a.0, a.1, step (on_p, out_p) n a.2), b), λ in_p. b)

    turns : {p q : Half} → Walk on p q → (IsInHole hole q → ⊥) → Turns p q
    turns (stay h) out = (λ out_p. inl (stay (h, out_p)), λ in_p. absurd (out in_p))
    turns (step {a = p} {b = o} {c = q} h n w) out =
        let rest = turns w out in
        elim (in_hole_or_not hole o) [
          | inl in_o ↦ (λ out_p. inr (at_ring p o h out_p in_o n, rest.1 in_o), λ in_p. rest.1 in_o)
          | inr out_o ↦ turns_outside p o q h (first w) n out_o (rest.0 out_o)
        ]

    -- what the set joins stays joined outside the hole
    pub stays_joined : (p q : Half) → Walk on p q → (IsInHole hole p → ⊥) → (IsInHole hole q → ⊥) → Walk Left p q
    stays_joined p q w out_p out_q = elim ((turns w out_q).0 out_p) [
      | inl v ↦ v
      | inr (a, b) ↦ append a.2 (append (arc_joins a.0 b.0 a.1 b.1) (reverse Neighbours-sym b.2))
    ]
