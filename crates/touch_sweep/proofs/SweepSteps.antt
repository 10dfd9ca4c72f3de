-- the steps of a sweep up the rows
use Rattle.std.proofs.Common.{ℕ, ◌+◌, ◌<◌, ◌≤◌, ◌≡◌, ◌∙◌, refl, sym, subst, List, [], ◌∷◌, ◌++◌, length, get_or, take, arith, inl, inr, ◌⊎◌, Contains, ◌≤ℤ◌, ◌<ℤ◌, take_all}
use Rattle.lists.proofs.Words.{ints}
use Rattle.geo_core.specs.Plane.{Touch}
use Rattle.touch_sweep.specs.inside.Entries.{IsByRow}
use Rattle.touch_sweep.specs.inside.Matches.{IsMatch, IsMatchWith, IsMatchOf, Gains}
use Rattle.touch_sweep.specs.declared.numbered.Numbered.{Numbered}
use Rattle.touch_sweep.proofs.GainLaws.{gains_nothing, gains_one, gains_both, gains_less}
use Rattle.touch_sweep.proofs.TouchLaws.{touch_begins, IsMatch-sym}
use Rattle.lists.proofs.Containing.{Contains-cons_cases, Contains-head, Contains-none, Contains-tail, Contains-take_cases}
use Rattle.lists.proofs.Differing.{AllPairs-tail, at_or_past}

pub IsByRow-tail : (x : Numbered) (rest : List Numbered) → IsByRow (x ∷ rest) → IsByRow rest
IsByRow-tail = AllPairs-tail (λ a b. a.rect.y0 ≤ℤ b.rect.y0)

-- ---- two entries

module _ (one other : Numbered) (pairs : List (ℕ × ℕ)) where
  pub apart : (Touch one.rect other.rect → ⊥) → Gains (IsMatch one other) (IsMatch one other) pairs pairs
  apart not = gains_nothing pairs (λ p m. not m.touch)

  pub first_is_lesser : Touch one.rect other.rect → one.number < other.number → Gains (IsMatch one other) (IsMatch one other) pairs (pairs ++ (one.number, other.number) ∷ [])
  first_is_lesser touch less = gains_one pairs (one.number, other.number)
      (λ p m. elim m.numbers [ inl h ↦ h.1 | inr h ↦ absurd (let f = h.0 in omega arith) ])
      (record { touch = touch; numbers = inl (less, refl) })

  pub second_is_lesser : Touch one.rect other.rect → other.number < one.number → Gains (IsMatch one other) (IsMatch one other) pairs (pairs ++ (other.number, one.number) ∷ [])
  second_is_lesser touch less = gains_one pairs (other.number, one.number)
      (λ p m. elim m.numbers [ inl h ↦ absurd (let f = h.0 in omega arith) | inr h ↦ h.1 ])
      (record { touch = touch; numbers = inr (less, refl) })

  pub itself : other.number ≤ one.number → one.number ≤ other.number → Gains (IsMatch one other) (IsMatch one other) pairs pairs
  itself f g = gains_nothing pairs (λ p m. elim m.numbers [ inl h ↦ absurd (let k = h.0 in omega arith) | inr h ↦ absurd (let k = h.0 in omega arith) ])

-- ---- one entry with the others, as far as the first `i` of them

module _ (one : Numbered) (others : List Numbered) where
  abbrev pub GainsFirst : ℕ → List (ℕ × ℕ) → List (ℕ × ℕ) → Type 0
  GainsFirst i = Gains (IsMatchWith one (take i others)) (IsMatchWith one others)

  pub none_yet : (pairs : List (ℕ × ℕ)) → GainsFirst 0 pairs pairs
  none_yet pairs = gains_nothing pairs (λ p m. Contains-none m.among)

  pub one_more : (i : ℕ) (x : Numbered) (old middle new : List (ℕ × ℕ)) → i < length others → x ≡ get_or others i x
      → GainsFirst i old middle → Gains (IsMatch one x) (IsMatch one x) middle new → GainsFirst (i + 1) old new
  one_more i x old middle new small at g h = gains_both g h
      (λ p (m : IsMatchWith one (take (i + 1) others) p). elim (Contains-take_cases others i x m.other small m.among) [
        | inl c ↦ inl (record { other = m.other; among = c; match = m.match })
        | inr e ↦ inr (subst (λ y. IsMatch one y p) (sym e ∙ sym at) m.match)
      ])
      (λ p m. m)
      (λ p m. record { other = x; among = (i, small, sym at); match = m })

  -- the others from `i` on begin above this one
  pub rest_apart : (i : ℕ) (x : Numbered) (old new : List (ℕ × ℕ)) → i < length others → x ≡ get_or others i x → IsByRow others → one.rect.y1 <ℤ x.rect.y0
      → GainsFirst i old new → Gains (IsMatchWith one others) (IsMatchWith one others) old new
  rest_apart i x old new small at by_row above g = gains_less g (λ p m. record { other = m.other; among = before p m; match = m.match }) (λ p m. m) where
    before : (p : ℕ × ℕ) (m : IsMatchWith one others p) → Contains (take i others) m.other
    before p m = elim (at_or_past (λ a b. a.rect.y0 ≤ℤ b.rect.y0) others by_row (λ a. omega (arith, ints)) i x m.other small at m.among) [
      | inl c ↦ c
      | inr h ↦ absurd (let f = (touch_begins one.rect m.other.rect m.match.touch).1 in omega (arith, ints))
    ]

  pub all_others : (i : ℕ) (old new : List (ℕ × ℕ)) → length others ≤ i → GainsFirst i old new → Gains (IsMatchWith one others) (IsMatchWith one others) old new
  all_others i old new long g = gains_less g (λ p m. record { other = m.other; among = subst (λ ys. Contains ys m.other) (sym (take_all i others long)) m.among; match = m.match }) (λ p m. m)

-- ---- two lists of entries, of which the first ones are done

-- of the matches of the two lists those are left that the rests of the lists have
pub record Swept (all_points all_spans points spans : List Numbered) (old new : List (ℕ × ℕ)) : Type 0 where
  pub gains : Gains (λ _. ⊥) (IsMatchOf all_points all_spans) old new
  pub left : (p : ℕ × ℕ) → IsMatchOf all_points all_spans p → Contains new p ⊎ IsMatchOf points spans p
  pub points_among : (e : Numbered) → Contains points e → Contains all_points e
  pub spans_among : (e : Numbered) → Contains spans e → Contains all_spans e
  pub points_by_row : IsByRow points
  pub spans_by_row : IsByRow spans

pub none_swept : (points spans : List Numbered) (pairs : List (ℕ × ℕ)) → IsByRow points → IsByRow spans → Swept points spans points spans pairs pairs
none_swept points spans pairs by_row also = record {
  gains = gains_nothing pairs (λ p h. h);
  left = λ p m. inr m;
  points_among = λ e c. c;
  spans_among = λ e c. c;
  points_by_row = by_row;
  spans_by_row = also;
}

module _ {all_points all_spans points spans : List Numbered} {old middle new : List (ℕ × ℕ)} (s : Swept all_points all_spans points spans old middle) where
  -- the first point is paired with all spans that are left
  pub point_done : (x : Numbered) (rest : List Numbered) → points ≡ x ∷ rest → Gains (IsMatchWith x spans) (IsMatchWith x spans) middle new → Swept all_points all_spans rest spans old new
  point_done x rest e g =
      let among : (y : Numbered) → Contains (x ∷ rest) y → Contains all_points y = λ y c. s.points_among y (subst (λ ys. Contains ys y) (sym e) c) in
      record {
        gains = gains_both s.gains g (λ p h. absurd h) (λ p m. m) (λ p m. record {
          point = x;
          among = among x (Contains-head x rest);
          match = record { other = m.other; among = s.spans_among m.other m.among; match = m.match };
        });
        left = λ p m. elim (s.left p m) [
          | inl c ↦ inl (g.kept p c)
          | inr n ↦ elim (Contains-cons_cases x rest n.point (subst (λ ys. Contains ys n.point) e n.among)) [
            | inl same ↦ inl (g.all p (subst (λ y. IsMatchWith y spans p) (sym same) n.match))
            | inr c ↦ inr (record { point = n.point; among = c; match = n.match })
          ]
        ];
        points_among = λ y c. among y (Contains-tail x rest y c);
        spans_among = s.spans_among;
        points_by_row = IsByRow-tail x rest (subst IsByRow e s.points_by_row);
        spans_by_row = s.spans_by_row;
      }

  -- the first span is paired with all points that are left
  pub span_done : (x : Numbered) (rest : List Numbered) → spans ≡ x ∷ rest → Gains (IsMatchWith x points) (IsMatchWith x points) middle new → Swept all_points all_spans points rest old new
  span_done x rest e g =
      let among : (y : Numbered) → Contains (x ∷ rest) y → Contains all_spans y = λ y c. s.spans_among y (subst (λ ys. Contains ys y) (sym e) c) in
      record {
        gains = gains_both s.gains g (λ p h. absurd h) (λ p m. m) (λ p m. record {
          point = m.other;
          among = s.points_among m.other m.among;
          match = record { other = x; among = among x (Contains-head x rest); match = IsMatch-sym x m.other p m.match };
        });
        left = λ p m. elim (s.left p m) [
          | inl c ↦ inl (g.kept p c)
          | inr n ↦ elim (Contains-cons_cases x rest n.match.other (subst (λ ys. Contains ys n.match.other) e n.match.among)) [
            | inl same ↦ inl (g.all p (record { other = n.point; among = n.among; match = subst (λ y. IsMatch y n.point p) (sym same) (IsMatch-sym n.point n.match.other p n.match.match) }))
            | inr c ↦ inr (record { point = n.point; among = n.among; match = record { other = n.match.other; among = c; match = n.match.match } })
          ]
        ];
        points_among = s.points_among;
        spans_among = λ y c. among y (Contains-tail x rest y c);
        points_by_row = s.points_by_row;
        spans_by_row = IsByRow-tail x rest (subst IsByRow e s.spans_by_row);
      }

module _ {all_points all_spans points spans : List Numbered} {old new : List (ℕ × ℕ)} (s : Swept all_points all_spans points spans old new) where
  none_left : ((p : ℕ × ℕ) → IsMatchOf points spans p → ⊥) → Gains (IsMatchOf all_points all_spans) (IsMatchOf all_points all_spans) old new
  none_left none = record {
    kept = s.gains.kept;
    all = λ p m. elim (s.left p m) [ inl c ↦ c | inr n ↦ absurd (none p n) ];
    none_else = s.gains.none_else;
  }

  pub no_points_left : length points ≡ 0 → Gains (IsMatchOf all_points all_spans) (IsMatchOf all_points all_spans) old new
  no_points_left none = none_left (λ p m. absurd (let small = m.among.1 in omega arith))

  pub no_spans_left : length spans ≡ 0 → Gains (IsMatchOf all_points all_spans) (IsMatchOf all_points all_spans) old new
  no_spans_left none = none_left (λ p m. absurd (let small = m.match.among.1 in omega arith))
