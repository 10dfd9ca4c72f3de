-- at which places along an axis a defect reaches so far
use Rattle.std.proofs.Common.{ℕ, ◌+◌, ◌<◌, ◌≤◌, ◌≡◌, sym, subst, ◌∙◌, List, [], length, take, take_all, get_or, Contains, arith, inl, inr, ◌⊎◌, ℤ, neg_ℤ, ◌≤ℤ◌, ◌<ℤ◌, ◌↔◌}
use Rattle.lists.proofs.Words.{clamps, ints, by_lt_z, int_max, int_min}
use Rattle.lists.proofs.Containing.{Contains-none}
use Rattle.geo_core.specs.Plane.{IsIn}
use Rattle.geo_core.specs.declared.axis.Axis.{Axis}
use Rattle.geo_core.specs.declared.interval.Interval.{Interval}
use Rattle.geo_core.proofs.IntervalLaws.{clipped}
use Rattle.half_boxes.specs.HalfBoxes.{span_along}
use Rattle.half_boxes.specs.declared.boxes.HalfBox.{HalfBox}
use Rattle.half_boxes.specs.declared.span.HalfSpan.{HalfSpan}
use Rattle.half_boxes.specs.declared.span.TheConstants.{FARTHEST_HALF}
use Rattle.open_grid.specs.inside.Wires.{AreEndsAmong, BoundEnds, Spans, high_end, low_end}
use Rattle.open_grid.proofs.BoxLaws.{among_more}

-- ---- places along an axis

-- the defect spans exactly from the place from which on it ends so high to before the one from which on it begins higher
spans_between : (first past low high : ℤ) (side : ℕ) → ((x : ℤ) → (first ≤ℤ x) ↔ (high ≤ℤ high_end x side)) → ((x : ℤ) → (past ≤ℤ x) ↔ (low <ℤ low_end x side)) → (x : ℤ)
    → Spans low high side x ↔ IsIn first past x
spans_between first past low high side from to x = (
  λ s. record { from = (from x).1 s.ends; before = by_lt_z x past (λ l. l) (λ l. let m = (to x).0 l in let b = s.begins in absurd (omega (arith, ints))) },
  λ h. record { begins = by_lt_z low (low_end x side) (λ l. let m = (to x).1 l in let b = h.before in absurd (omega (arith, ints))) (λ l. l); ends = (from x).0 h.from },
)

-- The ends are as they were read, and the places are those of a window.
module _ (window : Interval) (low high low_read high_read first past from to : ℤ) (side : ℕ) (low_is : low_read ≡ low) (high_is : high_read ≡ high)
    (ends : (x : ℤ) → (first ≤ℤ x) ↔ (high_read ≤ℤ high_end x side)) (begins : (x : ℤ) → (past ≤ℤ x) ↔ (low_read <ℤ low_end x side))
    (from_is : from ≡ int_max window.low first) (to_is : to ≡ int_min window.high past) (x : ℤ) where
  pub spanning_places : IsIn from to x ↔ (IsIn window.low window.high x × Spans low high side x)
  spanning_places =
      let both = clipped window.low window.high first past from to x from_is to_is in
      let spans = subst (λ l. Spans l high side x ↔ IsIn first past x) low_is
      (subst (λ h. Spans low_read h side x ↔ IsIn first past x) high_is (spans_between first past low_read high_read side ends begins x)) in (
        λ h. let k = both.0 h in (k.0, spans.1 k.1),
        λ k. both.1 (k.0, spans.0 k.1),
      )

  pub no_places : to ≤ℤ from → IsIn window.low window.high x → Spans low high side x → ⊥
  no_places none inside spans = let h = spanning_places.1 (inside, spans) in let a = h.from in let b = h.before in absurd (omega (arith, ints))

-- ---- the greatest low end, and the least high end

-- a number that a span may have, and the end of a span: the greater and the lesser are such numbers, too
pub max_within : (a m : ℤ) (span : HalfSpan) → m ≡ int_max a span.low → neg_ℤ FARTHEST_HALF ≤ℤ a → a ≤ℤ FARTHEST_HALF → (neg_ℤ FARTHEST_HALF ≤ℤ m) × (m ≤ℤ FARTHEST_HALF)
max_within a m span e least most =
    let w = span.within in let f = w.some in let g = w.most in
    (omega (arith, ints, clamps), omega (arith, ints, clamps))

pub min_within : (a m : ℤ) (span : HalfSpan) → m ≡ int_min a span.high → neg_ℤ FARTHEST_HALF ≤ℤ a → a ≤ℤ FARTHEST_HALF → (neg_ℤ FARTHEST_HALF ≤ℤ m) × (m ≤ℤ FARTHEST_HALF)
min_within a m span e least most =
    let w = span.within in let f = w.some in let g = w.least in
    (omega (arith, ints, clamps), omega (arith, ints, clamps))

either_max : (a b m : ℤ) → m ≡ int_max a b → (m ≡ a) ⊎ (m ≡ b)
either_max a b m e = by_lt_z b a (λ l. inl (omega (arith, ints, clamps))) (λ l. inr (omega (arith, ints, clamps)))

either_min : (a b m : ℤ) → m ≡ int_min a b → (m ≡ a) ⊎ (m ≡ b)
either_min a b m e = by_lt_z a b (λ l. inl (omega (arith, ints, clamps))) (λ l. inr (omega (arith, ints, clamps)))

module _ (axis : Axis) (boxes : List HalfBox) where
  pub ends_at_first : (one : HalfBox) (low high : ℤ) → Contains boxes one → low ≡ (span_along axis one).low → high ≡ (span_along axis one).high → AreEndsAmong axis boxes low high
  ends_at_first one low high among low_is high_is = record { low_of = one; high_of = one; low_among = among; high_among = among; low_is = sym low_is; high_is = sym high_is }

  pub bounds_at_first : (low high : ℤ) → BoundEnds axis [] low high
  bounds_at_first low high = record { no_higher = λ one among. absurd (Contains-none among); no_lower = λ one among. absurd (Contains-none among) }

  pub ends_more : (one : HalfBox) (low high from to : ℤ) → Contains boxes one → from ≡ int_max low (span_along axis one).low → to ≡ int_min high (span_along axis one).high
      → AreEndsAmong axis boxes low high → AreEndsAmong axis boxes from to
  ends_more one low high from to among from_is to_is ends = with_high (with_low ends)
    where
      with_low : AreEndsAmong axis boxes low high → AreEndsAmong axis boxes from high
      with_low e = elim (either_max low (span_along axis one).low from from_is) [
        | inl same ↦ record { low_of = e.low_of; high_of = e.high_of; low_among = e.low_among; high_among = e.high_among; low_is = e.low_is ∙ sym same; high_is = e.high_is }
        | inr new ↦ record { low_of = one; high_of = e.high_of; low_among = among; high_among = e.high_among; low_is = sym new; high_is = e.high_is }
      ]

      with_high : AreEndsAmong axis boxes from high → AreEndsAmong axis boxes from to
      with_high e = elim (either_min high (span_along axis one).high to to_is) [
        | inl same ↦ record { low_of = e.low_of; high_of = e.high_of; low_among = e.low_among; high_among = e.high_among; low_is = e.low_is; high_is = e.high_is ∙ sym same }
        | inr new ↦ record { low_of = e.low_of; high_of = one; low_among = e.low_among; high_among = among; low_is = e.low_is; high_is = sym new }
      ]

  pub bounds_more : (i : ℕ) (one : HalfBox) (low high from to : ℤ) → i < length boxes → one ≡ get_or boxes i one
      → from ≡ int_max low (span_along axis one).low → to ≡ int_min high (span_along axis one).high
      → BoundEnds axis (take i boxes) low high → BoundEnds axis (take (i + 1) boxes) from to
  bounds_more i one low high from to small is from_is to_is b = record {
    no_higher = λ other among. elim ((among_more boxes i one small is other).0 among) [
      | inl before ↦ let h = b.no_higher other before in omega (arith, ints, clamps)
      | inr e ↦ subst (λ (o : HalfBox). (span_along axis o).low ≤ℤ from) e (omega (arith, ints, clamps))
    ];
    no_lower = λ other among. elim ((among_more boxes i one small is other).0 among) [
      | inl before ↦ let h = b.no_lower other before in omega (arith, ints, clamps)
      | inr e ↦ subst (λ (o : HalfBox). to ≤ℤ (span_along axis o).high) e (omega (arith, ints, clamps))
    ];
  }

  pub bounds_all : (i : ℕ) (low high : ℤ) → length boxes ≤ i → BoundEnds axis (take i boxes) low high → BoundEnds axis boxes low high
  bounds_all i low high past b = subst (λ (bs : List HalfBox). BoundEnds axis bs low high) (take_all i boxes past) b

  -- with these a defect cuts exactly where it cuts with some two
  module _ (low high : ℤ) (ends : AreEndsAmong axis boxes low high) (bounds : BoundEnds axis boxes low high) (side : ℕ) (x : ℤ) where
    pub spans_of_two : Spans low high side x → Spans (span_along axis ends.low_of).low (span_along axis ends.high_of).high side x
    spans_of_two s =
        let a = s.begins in let b = s.ends in let e = ends.low_is in let f = ends.high_is in
        record { begins = omega (arith, ints); ends = omega (arith, ints) }

    pub spans_of_all : (first last : HalfBox) → Contains boxes first → Contains boxes last → Spans (span_along axis last).low (span_along axis first).high side x → Spans low high side x
    spans_of_all first last first_among last_among s =
        let a = s.begins in let b = s.ends in let e = bounds.no_higher last last_among in let f = bounds.no_lower first first_among in
        record { begins = omega (arith, ints); ends = omega (arith, ints) }
