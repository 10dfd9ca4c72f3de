-- from what the search found to the answer
use Rattle.std.proofs.Common.{ℕ, ◌<◌, ◌≡◌, refl, sym, subst, List, [], ◌∷◌, arith, inl, inr, Bool, true, Some, ℤ, ◌&&◌, nat_eq, All, AllPairs, Contains, slice_get, ◌↔◌, ◌≤ℤ◌}
use Rattle.lists.proofs.Words.{IsEquivalence, dedup, IsPermutation, IsSorted, MatchOrdering, Ordering, Less, Equal, Greater, nat_tests, on_equiv, and_equiv, nat_eq_equiv, ints, by_lt_z, All-contains, All-from_recursion, All-weaker, AllPairs-cons, Contains-dedup, Contains-from_dedup, Contains-permutation, IsPermutation-sym}
use Rattle.std.specs.Cmp.{IsTotalOrder, nat_cmp_total}
use Rattle.std.specs.List.Sorted.{IsStrictlySortedBy}
use Rattle.std.specs.Ordering.{nat_cmp, ordering_then, eq_by_cmp}
use Rattle.std.proofs.lemmas.Cmp.{ranked, on_total, then_total}
use Rattle.std.proofs.lemmas.List.Kept.{IsStrictlySortedBy-dedup}
use Rattle.geo_core.specs.Cells.{Touch}
use Rattle.geo_core.specs.Plane.{IsIn}
use Rattle.geo_core.specs.declared.plane.Rect.{Rect}
use Rattle.geo_core.proofs.RectLaws.{Touch-sym}
use Rattle.touch_sweep.specs.inside.Entries.{AreNumbered}
use Rattle.touch_sweep.specs.inside.Matches.{IsPairOf, IsMatchOf, IsMatchFrom, Gains}
use Rattle.touch_sweep.specs.Touching.{AreTouching, ComesBefore}
use Rattle.touch_sweep.specs.declared.numbered.Numbered.{Numbered}
use Rattle.lists.proofs.Containing.{Contains-none}

-- ---- pairs of numbers in rising order, each once

abbrev pub pair_cmp : ℕ × ℕ → ℕ × ℕ → Ordering
pair_cmp p q = ordering_then (nat_cmp p.0 q.0) (nat_cmp p.1 q.1)

before : (p q : ℕ × ℕ) → pair_cmp p q ≡ Less → ComesBefore p q
before p q less = by_parts (nat_cmp p.0 q.0) (nat_cmp p.1 q.1) (ranked p.0 q.0 (nat_cmp p.0 q.0) refl) (ranked p.1 q.1 (nat_cmp p.1 q.1) refl) less where
  by_parts : (r s : Ordering) → MatchOrdering r (p.0 < q.0) (p.0 ≡ q.0) (q.0 < p.0) → MatchOrdering s (p.1 < q.1) (p.1 ≡ q.1) (q.1 < p.1) → ordering_then r s ≡ Less → ComesBefore p q
  by_parts Less s m n e = inl m
  by_parts Equal Less m n e = inr (m, n)
  by_parts Equal Equal m n e = cc
  by_parts Equal Greater m n e = cc
  by_parts Greater s m n e = cc

rising : (pairs : List (ℕ × ℕ)) → IsStrictlySortedBy pair_cmp pairs → AllPairs ComesBefore pairs
unfolding IsStrictlySortedBy
rising [] h = λ i j d less small. absurd (omega arith)
rising (p ∷ pairs) h = AllPairs-cons ComesBefore p pairs
    (All-weaker (λ q. pair_cmp p q ≡ Less) (ComesBefore p) (before p) pairs (All-from_recursion (λ q. pair_cmp p q ≡ Less) pairs h.0))
    (rising pairs h.1)

abbrev pub pair_eq : ℕ × ℕ → ℕ × ℕ → Bool
pair_eq p q = nat_eq p.0 q.0 && nat_eq p.1 q.1

pair_cmp_total : IsTotalOrder pair_cmp
pair_cmp_total = then_total (on_total (λ (p : ℕ × ℕ). p.0) nat_cmp_total) (on_total (λ (p : ℕ × ℕ). p.1) nat_cmp_total)

pair_eq_equiv : IsEquivalence pair_eq
pair_eq_equiv = and_equiv (on_equiv (λ (p : ℕ × ℕ). p.0) nat_eq_equiv) (on_equiv (λ (p : ℕ × ℕ). p.1) nat_eq_equiv)

same_pair : (p q : ℕ × ℕ) → pair_eq p q ≡ true → p ≡ q
same_pair (a, b) (c, d) e = let f : a ≡ c = grind (arith, nat_tests) in let g : b ≡ d = grind (arith, nat_tests) in cc

ties : (p q : ℕ × ℕ) → pair_eq p q ≡ eq_by_cmp pair_cmp p q
ties p q = grind (arith, nat_tests)

-- what `sort_unstable` and `dedup` make of pairs
pub rising_pairs : (sorted pairs : List (ℕ × ℕ)) → IsSorted pair_cmp sorted → pairs ≡ dedup pair_eq sorted → AllPairs ComesBefore pairs
rising_pairs sorted pairs up e = subst (AllPairs ComesBefore) (sym e) (rising (dedup pair_eq sorted) (IsStrictlySortedBy-dedup pair_cmp_total ties sorted up))

pub same_pairs : (found sorted pairs : List (ℕ × ℕ)) → IsPermutation found sorted → pairs ≡ dedup pair_eq sorted → (a b : ℕ) → Contains pairs (a, b) ↔ Contains found (a, b)
same_pairs found sorted pairs moved e a b = (
  λ c. Contains-permutation sorted found (a, b) (IsPermutation-sym found sorted moved) (Contains-from_dedup pair_eq sorted (a, b) (subst (λ ps. Contains ps (a, b)) e c)),
  λ c. subst (λ ps. Contains ps (a, b)) (sym e) (Contains-dedup pair_eq_equiv same_pair sorted (a, b) (Contains-permutation found sorted (a, b) moved c)),
)

-- ---- the pairs of numbers of rectangles that touch

-- of two that touch, the one with the lesser number is told first
touch_in_order : (rects : List Rect) (entries : List Numbered) → AreNumbered rects entries → (one other : Numbered) → Contains entries one → Contains entries other
    → Touch one.rect other.rect → one.number < other.number → AreTouching rects one.number other.number
touch_in_order rects entries all one other has_one has_other touch lesser = record {
  lesser = lesser;
  one = one.rect;
  other = other.rect;
  one_at = (all one).0 has_one;
  other_at = (all other).0 has_other;
  touch = touch;
}

pub touching_from_match : (rects : List Rect) (entries : List Numbered) → AreNumbered rects entries → (a b : ℕ) → IsMatchOf entries entries (a, b) → AreTouching rects a b
touching_from_match rects entries all a b m = by_numbers m.match.match.numbers where
  one : Numbered
  one = m.point

  other : Numbered
  other = m.match.other

  by_numbers : IsPairOf one.number other.number (a, b) → AreTouching rects a b
  by_numbers (inl (less, e)) =
      subst (λ (p : ℕ × ℕ). AreTouching rects p.0 p.1) (sym e) (touch_in_order rects entries all one other m.among m.match.among m.match.match.touch less)
  by_numbers (inr (less, e)) =
      subst (λ (p : ℕ × ℕ). AreTouching rects p.0 p.1) (sym e)
      (touch_in_order rects entries all other one m.match.among m.among (Touch-sym one.rect other.rect m.match.match.touch) less)

-- a point and a span that touch, of which the point begins no earlier
match_of_point : (entries : List Numbered) (low high : ℤ) → All (λ e. IsIn low high e.rect.x0) entries → {p : ℕ × ℕ} (point span : Numbered)
    → Contains entries point → Contains entries span → Touch point.rect span.rect → IsPairOf point.number span.number p → span.rect.x0 ≤ℤ point.rect.x0
    → IsMatchFrom low high entries entries p
match_of_point entries low high within point span has_point has_span touch numbers reached = record {
  found = record { point = point; among = has_point; match = record { other = span; among = has_span; match = record { touch = touch; numbers = numbers } } };
  begins = All-contains (λ e. IsIn low high e.rect.x0) entries point within has_point;
  reached = reached;
}

-- of two that touch, the one that begins no earlier is the point, and the other one is the span
pub match_from_touching : (rects : List Rect) (entries : List Numbered) (low high : ℤ) → AreNumbered rects entries → All (λ e. IsIn low high e.rect.x0) entries
    → (a b : ℕ) → AreTouching rects a b → IsMatchFrom low high entries entries (a, b)
match_from_touching rects entries low high all within a b t = by_lt_z t.one.x0 t.other.x0 (λ l. second_begins (omega (arith, ints))) first_begins where
  first : Numbered
  first = record { number = a; rect = t.one }

  second : Numbered
  second = record { number = b; rect = t.other }

  has_first : Contains entries first
  has_first = (all first).1 t.one_at

  has_second : Contains entries second
  has_second = (all second).1 t.other_at

  second_begins : t.one.x0 ≤ℤ t.other.x0 → IsMatchFrom low high entries entries (a, b)
  second_begins = match_of_point entries low high within second first has_second has_first (Touch-sym t.one t.other t.touch) (inr (t.lesser, refl))

  first_begins : t.other.x0 ≤ℤ t.one.x0 → IsMatchFrom low high entries entries (a, b)
  first_begins = match_of_point entries low high within first second has_first has_second t.touch (inl (t.lesser, refl))

-- what was found are the pairs of rectangles that touch, where these are the same pairs in order
pub exact_pairs : (rects : List Rect) (entries : List Numbered) (low high : ℤ) (found pairs : List (ℕ × ℕ)) → AreNumbered rects entries → All (λ e. IsIn low high e.rect.x0) entries
    → Gains (IsMatchFrom low high entries entries) (IsMatchOf entries entries) [] found → ((a b : ℕ) → Contains pairs (a, b) ↔ Contains found (a, b))
    → (a b : ℕ) → Contains pairs (a, b) ↔ AreTouching rects a b
exact_pairs rects entries low high found pairs all within g same a b = (
  λ c. elim (g.none_else (a, b) ((same a b).0 c)) [ inl d ↦ absurd (Contains-none d) | inr m ↦ touching_from_match rects entries all a b m ],
  λ t. (same a b).1 (g.all (a, b) (match_from_touching rects entries low high all within a b t)),
)
