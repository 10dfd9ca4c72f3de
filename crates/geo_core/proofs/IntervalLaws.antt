-- whole numbers, and intervals of them
use Rattle.std.proofs.Common.{◌≡◌, refl, arith, inl, inr, ◌⊎◌, ℤ, pos, ◌+ℤ◌, ◌-ℤ◌, ◌≤ℤ◌, ◌<ℤ◌, ◌↔◌}
use Rattle.lists.proofs.Words.{int_max, int_min, ints, clamps, by_lt_z}
use Rattle.geo_core.specs.Plane.{IsIn, IsInterval, Adjoins, ComesWithin, IntervalsOverlap, IntervalsTouch, IsPartOf, IsIntervalJoin}

-- two numbers are one, or not
pub equal_or_not : (a b : ℤ) → (a ≡ b) ⊎ (a ≡ b → ⊥)
equal_or_not a b = by_lt_z a b (λ l. inr (λ e. absurd (omega (arith, ints))))
    (λ k. by_lt_z b a (λ l. inr (λ e. absurd (omega (arith, ints)))) (λ l. inl (omega (arith, ints))))

-- a number is in an interval, or not
pub in_or_not : (low high x : ℤ) → IsIn low high x ⊎ (IsIn low high x → ⊥)
in_or_not low high x = by_lt_z x low (λ l. inr (λ h. let f = h.from in absurd (omega (arith, ints))))
    (λ k. by_lt_z x high (λ l. inl (record { from = k; before = l })) (λ l. inr (λ h. let f = h.before in absurd (omega (arith, ints)))))

pub Adjoins-sym : (a b : ℤ) → Adjoins a b → Adjoins b a
Adjoins-sym a b (inl e) = inr e
Adjoins-sym a b (inr e) = inl e

pub Adjoins-apart : (a b : ℤ) → Adjoins a b → a ≡ b → ⊥
Adjoins-apart a b (inl e) f = absurd (omega (arith, ints))
Adjoins-apart a b (inr e) f = absurd (omega (arith, ints))

-- the same interval by equal ends
pub IsIn-at : {low high x : ℤ} (low' high' x' : ℤ) → IsIn low high x → low' ≡ low → high' ≡ high → x' ≡ x → IsIn low' high' x'
IsIn-at low' high' x' h e f g = let a = h.from in let b = h.before in record { from = omega (arith, ints); before = omega (arith, ints) }

-- an interval moved out by a number
pub grown : (low high by x : ℤ) → low <ℤ high → pos 0 ≤ℤ by → IsIn (low -ℤ by) (high +ℤ by) x ↔ ComesWithin low high by x
grown low high by x some p = (
  λ h.
      let a = h.from in let b = h.before in
      let d : ℤ = int_max low (int_min (high -ℤ pos 1) x) in
      (d, record { from = omega (arith, ints, clamps); before = omega (arith, ints, clamps) }, (omega (arith, ints, clamps), omega (arith, ints, clamps))),
  λ near. let f = near.1.from in let g = near.1.before in let k = near.2.0 in let l = near.2.1 in
      record { from = omega (arith, ints); before = omega (arith, ints) },
)

-- the greater of the low ends and the lesser of the high ones
pub clipped : (a0 a1 b0 b1 low high x : ℤ) → low ≡ int_max a0 b0 → high ≡ int_min a1 b1 → IsIn low high x ↔ (IsIn a0 a1 x × IsIn b0 b1 x)
clipped a0 a1 b0 b1 low high x e f = (
  λ h. let a = h.from in let b = h.before in (
    record { from = omega (arith, ints, clamps); before = omega (arith, ints, clamps) },
    record { from = omega (arith, ints, clamps); before = omega (arith, ints, clamps) },
  ),
  λ h. let a = h.0.from in let b = h.0.before in let c = h.1.from in let d = h.1.before in
      record { from = omega (arith, ints, clamps); before = omega (arith, ints, clamps) },
)

pub clip_none : (a0 a1 b0 b1 low high : ℤ) → low ≡ int_max a0 b0 → high ≡ int_min a1 b1 → high ≤ℤ low → IntervalsOverlap a0 a1 b0 b1 → ⊥
clip_none a0 a1 b0 b1 low high e f none (x, h, k) = let c = (clipped a0 a1 b0 b1 low high x e f).1 (h, k) in let a = c.from in let b = c.before in absurd (omega (arith, ints))

-- an interval with a number, by its ends
pub overlapping : (a0 a1 b0 b1 : ℤ) → a0 <ℤ a1 → b0 <ℤ b1 → ((a0 <ℤ b1) × (b0 <ℤ a1)) ↔ IntervalsOverlap a0 a1 b0 b1
overlapping a0 a1 b0 b1 some also = (
  λ h. let k = h.0 in let l = h.1 in (
    int_max a0 b0,
    record { from = omega (arith, ints, clamps); before = omega (arith, ints, clamps) },
    record { from = omega (arith, ints, clamps); before = omega (arith, ints, clamps) },
  ),
  λ o. let a = o.1.from in let b = o.1.before in let c = o.2.from in let d = o.2.before in (omega (arith, ints), omega (arith, ints)),
)

pub IntervalsTouch-overlap : (a0 a1 b0 b1 : ℤ) → IntervalsOverlap a0 a1 b0 b1 → IntervalsTouch a0 a1 b0 b1
IntervalsTouch-overlap a0 a1 b0 b1 (x, h, k) = (x, x, h, k, inl refl)

touch_ends : (a0 a1 b0 b1 : ℤ) → IntervalsTouch a0 a1 b0 b1 → (a0 ≤ℤ b1) × (b0 ≤ℤ a1)
touch_ends a0 a1 b0 b1 (x, y, h, k, inl e) = let a = h.from in let b = h.before in let c = k.from in let d = k.before in (omega (arith, ints), omega (arith, ints))
touch_ends a0 a1 b0 b1 (x, y, h, k, inr (inl e)) = let a = h.from in let b = h.before in let c = k.from in let d = k.before in (omega (arith, ints), omega (arith, ints))
touch_ends a0 a1 b0 b1 (x, y, h, k, inr (inr e)) = let a = h.from in let b = h.before in let c = k.from in let d = k.before in (omega (arith, ints), omega (arith, ints))

touch_from_ends : (a0 a1 b0 b1 : ℤ) → a0 <ℤ a1 → b0 <ℤ b1 → a0 ≤ℤ b1 → b0 ≤ℤ a1 → IntervalsTouch a0 a1 b0 b1
touch_from_ends a0 a1 b0 b1 some also p q = by_lt_z a0 b1
    (λ l. by_lt_z b0 a1
    (λ m. IntervalsTouch-overlap a0 a1 b0 b1 ((overlapping a0 a1 b0 b1 some also).0 (l, m)))
    (λ m. (a1 -ℤ pos 1, b0, record { from = omega (arith, ints); before = omega (arith, ints) }, record { from = omega (arith, ints); before = omega (arith, ints) }, inr (inl (omega (arith, ints))))))
    (λ l. (a0, b1 -ℤ pos 1, record { from = omega (arith, ints); before = omega (arith, ints) }, record { from = omega (arith, ints); before = omega (arith, ints) }, inr (inr (omega (arith, ints)))))

pub touching : (a0 a1 b0 b1 : ℤ) → a0 <ℤ a1 → b0 <ℤ b1 → ((a0 ≤ℤ b1) × (b0 ≤ℤ a1)) ↔ IntervalsTouch a0 a1 b0 b1
touching a0 a1 b0 b1 some also = (λ h. touch_from_ends a0 a1 b0 b1 some also h.0 h.1, touch_ends a0 a1 b0 b1)

-- an interval with a number lies in another exactly where its ends do
pub ends_in : (a0 a1 b0 b1 : ℤ) → a0 <ℤ a1 → IsPartOf a0 a1 b0 b1 → (b0 ≤ℤ a0) × (a1 ≤ℤ b1)
ends_in a0 a1 b0 b1 some inside =
    let low = inside a0 (record { from = omega (arith, ints); before = some }) in
    let high = inside (a1 -ℤ pos 1) (record { from = omega (arith, ints); before = omega (arith, ints) }) in
    let a = low.from in let b = high.before in (omega (arith, ints), omega (arith, ints))

pub in_ends : (a0 a1 b0 b1 : ℤ) → b0 ≤ℤ a0 → a1 ≤ℤ b1 → IsPartOf a0 a1 b0 b1
in_ends a0 a1 b0 b1 p q x h = let a = h.from in let b = h.before in record { from = omega (arith, ints); before = omega (arith, ints) }

-- the lesser of the low ends and the greater of the high ones
pub joined : (a0 a1 b0 b1 low high : ℤ) → a0 <ℤ a1 → b0 <ℤ b1 → low ≡ int_min a0 b0 → high ≡ int_max a1 b1 → IsIntervalJoin a0 a1 b0 b1 low high
joined a0 a1 b0 b1 low high some also e f = record {
  first = in_ends a0 a1 low high (omega (arith, ints, clamps)) (omega (arith, ints, clamps));
  second = in_ends b0 b1 low high (omega (arith, ints, clamps)) (omega (arith, ints, clamps));
  least = λ c0 c1 p q.
      let a = ends_in a0 a1 c0 c1 some p in let b = ends_in b0 b1 c0 c1 also q in
      in_ends low high c0 c1 (omega (arith, ints, clamps)) (omega (arith, ints, clamps));
}

-- what is within a bound stays within it
pub join_within : (far a0 a1 b0 b1 low high : ℤ) → low ≡ int_min a0 b0 → high ≡ int_max a1 b1 → IsInterval far a0 a1 → IsInterval far b0 b1 → IsInterval far low high
join_within far a0 a1 b0 b1 low high e f p q =
    let a = p.some in let b = p.least in let c = p.most in let d = q.some in let g = q.least in let h = q.most in
    record { some = omega (arith, ints, clamps); least = omega (arith, ints, clamps); most = omega (arith, ints, clamps) }

pub clip_within : (far a0 a1 b0 b1 low high : ℤ) → low ≡ int_max a0 b0 → high ≡ int_min a1 b1 → low <ℤ high → IsInterval far a0 a1 → IsInterval far b0 b1 → IsInterval far low high
clip_within far a0 a1 b0 b1 low high e f some p q =
    let b = p.least in let c = p.most in
    record { some = some; least = omega (arith, ints, clamps); most = omega (arith, ints, clamps) }
