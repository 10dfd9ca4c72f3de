-- pairs of rectangles of two lists, in one numbering and in two
use Rattle.std.proofs.Common.{◌∙◌, ℕ, ◌+◌, ◌-◌, ◌<◌, ◌≤◌, ◌≡◌, refl, sym, ap, subst, List, [], ◌∷◌, ◌++◌, length, get_or, arith, inl, inr, ◌⊎◌, Bool, true, nat_lt, not, ℤ, All, Contains, Some, filter, slice_get, ◌↔◌, length-append}
use Rattle.lists.proofs.Words.{nat_tests, All-contains, Contains-append_left, Contains-get_or, Contains-push, Contains-push_cases, filter_passes, slice_get_within}
use Rattle.geo_core.specs.Plane.{Overlap, IsIn}
use Rattle.geo_core.specs.declared.plane.Rect.{Rect}
use Rattle.touch_sweep.specs.inside.Entries.{AreNumbered}
use Rattle.touch_sweep.specs.inside.Matches.{IsPairOf, IsMatchOf, IsMatchFrom, Gains}
use Rattle.touch_sweep.specs.Touching.{AreMeeting, AreTouchingAcross}
use Rattle.touch_sweep.specs.declared.numbered.Numbered.{Numbered}
use Rattle.touch_sweep.proofs.PairSteps.{touching_from_match, match_from_touching}
use Rattle.lists.proofs.Containing.{Contains-none}
use Rattle.lists.proofs.Filtering.{Contains-filter, Contains-from_filter}
use Rattle.lists.proofs.Containing.{slice_get-back, slice_get-front}

-- ---- entries with the first so many numbers, and the others

abbrev pub is_before : ℕ → Numbered → Bool
is_before count e = nat_lt e.number count

abbrev pub is_behind : ℕ → Numbered → Bool
is_behind count e = not (nat_lt e.number count)

module _ (rects : List Rect) (count : ℕ) (entries before behind : List Numbered) (low high : ℤ) (all : AreNumbered rects entries) (within : All (λ e. IsIn low high e.rect.x0) entries)
    (before_is : before ≡ filter (is_before count) entries) (behind_is : behind ≡ filter (is_behind count) entries) where
  in_before : (e : Numbered) → Contains entries e → e.number < count → Contains before e
  in_before e c h = subst (λ ys. Contains ys e) (sym before_is) (Contains-filter (is_before count) entries e c (grind (arith, nat_tests)))

  in_behind : (e : Numbered) → Contains entries e → count ≤ e.number → Contains behind e
  in_behind e c h = subst (λ ys. Contains ys e) (sym behind_is) (Contains-filter (is_behind count) entries e c (grind (arith, nat_tests)))

  from_before : (e : Numbered) → Contains before e → Contains entries e × (e.number < count)
  from_before e c =
      let d = subst (λ ys. Contains ys e) before_is c in
      let passes : is_before count e ≡ true = All-contains (λ x. is_before count x ≡ true) (filter (is_before count) entries) e (filter_passes (is_before count) entries) d in
      (Contains-from_filter (is_before count) entries e d, grind (arith, nat_tests))

  from_behind : (e : Numbered) → Contains behind e → Contains entries e × (count ≤ e.number)
  from_behind e c =
      let d = subst (λ ys. Contains ys e) behind_is c in
      let passes : is_behind count e ≡ true = All-contains (λ x. is_behind count x ≡ true) (filter (is_behind count) entries) e (filter_passes (is_behind count) entries) d in
      (Contains-from_filter (is_behind count) entries e d, grind (arith, nat_tests))

  -- a match of the two lists, whichever has the points, tells of a pair across
  across_from_match : (a b : ℕ) (points spans : List Numbered) (m : IsMatchOf points spans (a, b)) → Contains entries m.point → Contains entries m.match.other
      → ((m.point.number < count) × (count ≤ m.match.other.number)) ⊎ ((m.match.other.number < count) × (count ≤ m.point.number)) → AreTouchingAcross rects count a b
  across_from_match a b points spans m one other sides = record {
    touching = touching_from_match rects entries all a b (record { point = m.point; among = one; match = record { other = m.match.other; among = other; match = m.match.match } });
    before = first m.match.match.numbers sides;
    behind = second m.match.match.numbers sides;
  } where
    Sides : Type 0
    Sides = ((m.point.number < count) × (count ≤ m.match.other.number)) ⊎ ((m.match.other.number < count) × (count ≤ m.point.number))

    first : IsPairOf m.point.number m.match.other.number (a, b) → Sides → a < count
    first (inl h) s = let e : a ≡ m.point.number = ap (λ (p : ℕ × ℕ). p.0) h.1 in let less = h.0 in elim s [ inl k ↦ let f = k.0 in omega arith | inr k ↦ let f = k.0 in omega arith ]
    first (inr h) s = let e : a ≡ m.match.other.number = ap (λ (p : ℕ × ℕ). p.0) h.1 in let less = h.0 in elim s [ inl k ↦ let f = k.0 in omega arith | inr k ↦ let f = k.0 in omega arith ]

    second : IsPairOf m.point.number m.match.other.number (a, b) → Sides → count ≤ b
    second (inl h) s = let e : b ≡ m.match.other.number = ap (λ (p : ℕ × ℕ). p.1) h.1 in let less = h.0 in elim s [ inl k ↦ let f = k.1 in omega arith | inr k ↦ let f = k.1 in omega arith ]
    second (inr h) s = let e : b ≡ m.point.number = ap (λ (p : ℕ × ℕ). p.1) h.1 in let less = h.0 in elim s [ inl k ↦ let f = k.1 in omega arith | inr k ↦ let f = k.1 in omega arith ]

  -- of two that touch across, the one that begins no earlier is the point, and the other one is the span
  match_from_across : (a b : ℕ) → AreTouchingAcross rects count a b → IsMatchFrom low high before behind (a, b) ⊎ IsMatchFrom low high behind before (a, b)
  match_from_across a b t = by_numbers (match_from_touching rects entries low high all within a b t.touching) where
    by_numbers : IsMatchFrom low high entries entries (a, b) → IsMatchFrom low high before behind (a, b) ⊎ IsMatchFrom low high behind before (a, b)
    by_numbers m = elim m.found.match.match.numbers [
      | inl h ↦
          let low_is : a ≡ m.found.point.number = ap (λ (p : ℕ × ℕ). p.0) h.1 in let high_is : b ≡ m.found.match.other.number = ap (λ (p : ℕ × ℕ). p.1) h.1 in
          let f = t.before in let g = t.behind in
          inl (record {
            found = record {
              point = m.found.point;
              among = in_before m.found.point m.found.among (omega arith);
              match = record { other = m.found.match.other; among = in_behind m.found.match.other m.found.match.among (omega arith); match = m.found.match.match };
            };
            begins = m.begins;
            reached = m.reached;
          })
      | inr h ↦
          let low_is : a ≡ m.found.match.other.number = ap (λ (p : ℕ × ℕ). p.0) h.1 in let high_is : b ≡ m.found.point.number = ap (λ (p : ℕ × ℕ). p.1) h.1 in
          let f = t.before in let g = t.behind in
          inr (record {
            found = record {
              point = m.found.point;
              among = in_behind m.found.point m.found.among (omega arith);
              match = record { other = m.found.match.other; among = in_before m.found.match.other m.found.match.among (omega arith); match = m.found.match.match };
            };
            begins = m.begins;
            reached = m.reached;
          })
    ]

  -- both searches together find the pairs across
  pub exact_across : (middle found : List (ℕ × ℕ)) → Gains (IsMatchFrom low high before behind) (IsMatchOf before behind) [] middle
      → Gains (IsMatchFrom low high behind before) (IsMatchOf behind before) middle found
      → (a b : ℕ) → Contains found (a, b) ↔ AreTouchingAcross rects count a b
  exact_across middle found g h a b = (
    λ c. elim (h.none_else (a, b) c) [
      | inl d ↦ elim (g.none_else (a, b) d) [
        | inl none ↦ absurd (Contains-none none)
        | inr m ↦
            let one = from_before m.point m.among in let other = from_behind m.match.other m.match.among in
            across_from_match a b before behind m one.0 other.0 (inl (one.1, other.1))
      ]
      | inr m ↦
          let one = from_behind m.point m.among in let other = from_before m.match.other m.match.among in
          across_from_match a b behind before m one.0 other.0 (inr (other.1, one.1))
    ],
    λ t. elim (match_from_across a b t) [ inl m ↦ h.kept (a, b) (g.all (a, b) m) | inr m ↦ h.all (a, b) m ],
  )

-- ---- pairs in one numbering, and those of them that meet

-- those of the pairs whose rectangles have a cell in common, with numbers of their own in the second list
abbrev pub AreMeetingAmong : List Rect → List Rect → List (ℕ × ℕ) → List (ℕ × ℕ) → Type 0
AreMeetingAmong first second pairs met = (a b : ℕ) → Contains met (a, b) ↔ (Contains pairs (a, length first + b) × AreMeeting first second a b)

module _ (first second : List Rect) where
  pub none_among : AreMeetingAmong first second [] []
  none_among a b = (λ c. absurd (Contains-none c), λ h. absurd (Contains-none h.0))

  module _ (pairs met : List (ℕ × ℕ)) (are : AreMeetingAmong first second pairs met) (a b place : ℕ) (behind : b ≡ length first + place) where
    same : (k n : ℕ) → ◌≡◌ {A = ℕ × ℕ} (a, b) (k, length first + n) → ◌≡◌ {A = ℕ × ℕ} (a, place) (k, n)
    same k n e =
        let f : a ≡ k = ap (λ (p : ℕ × ℕ). p.0) e in
        let g : b ≡ length first + n = ap (λ (p : ℕ × ℕ). p.1) e in
        let h : place ≡ n = omega arith in
        cc

    pub one_meets : AreMeeting first second a place → AreMeetingAmong first second (pairs ++ (a, b) ∷ []) (met ++ (a, place) ∷ [])
    one_meets meeting k n = (
      λ c. elim (Contains-push_cases met (a, place) (k, n) c) [
        | inl d ↦ let h = (are k n).0 d in (Contains-append_left pairs ((a, b) ∷ []) (k, length first + n) h.0, h.1)
        | inr e ↦
            subst (λ (p : ℕ × ℕ). Contains (pairs ++ (a, b) ∷ []) (p.0, length first + p.1) × AreMeeting first second p.0 p.1) e
            (subst (λ m. Contains (pairs ++ (a, b) ∷ []) (a, m)) behind (Contains-push pairs (a, b)), meeting)
      ],
      λ h. elim (Contains-push_cases pairs (a, b) (k, length first + n) h.0) [
        | inl d ↦ Contains-append_left met ((a, place) ∷ []) (k, n) ((are k n).1 (d, h.1))
        | inr e ↦ subst (Contains (met ++ (a, place) ∷ [])) (same k n e) (Contains-push met (a, place))
      ],
    )

    pub one_apart : (AreMeeting first second a place → ⊥) → AreMeetingAmong first second (pairs ++ (a, b) ∷ []) met
    one_apart apart k n = (
      λ c. let h = (are k n).0 c in (Contains-append_left pairs ((a, b) ∷ []) (k, length first + n) h.0, h.1),
      λ h. elim (Contains-push_cases pairs (a, b) (k, length first + n) h.0) [
        | inl d ↦ (are k n).1 (d, h.1)
        | inr e ↦ absurd (apart (subst (λ (p : ℕ × ℕ). AreMeeting first second p.0 p.1) (sym (same k n e)) h.1))
      ],
    )

  -- ---- a rectangle of each list by its number in the joined list

  pub within_second : (a b : ℕ) → AreTouchingAcross (first ++ second) (length first) a b → b - length first < length second
  within_second a b t = let small = slice_get_within (first ++ second) b t.touching.other t.touching.other_at in let g = t.behind in omega (arith, length-append first second)

  meets_across : (a b : ℕ) → AreMeeting first second a b → AreTouchingAcross (first ++ second) (length first) a (length first + b)
  meets_across a b m =
      let small = slice_get_within first a m.one m.one_at in
      record {
        touching = record {
          lesser = omega arith;
          one = m.one;
          other = m.other;
          one_at = slice_get-front first second a m.one m.one_at;
          other_at = slice_get-back first second b ∙ m.other_at;
          touch = (m.overlap.0, m.overlap.0, m.overlap.1, m.overlap.2, inl refl);
        };
        before = small;
        behind = omega arith;
      }

  -- those that meet among the pairs that touch across are all that meet
  pub exact_meetings : (touching met pairs : List (ℕ × ℕ)) → ((a b : ℕ) → Contains touching (a, b) ↔ AreTouchingAcross (first ++ second) (length first) a b) → AreMeetingAmong first second touching met
      → ((a b : ℕ) → Contains pairs (a, b) ↔ Contains met (a, b)) → (a b : ℕ) → Contains pairs (a, b) ↔ AreMeeting first second a b
  exact_meetings touching met pairs exact are same a b = (
    λ c. ((are a b).0 ((same a b).0 c)).1,
    λ m. (same a b).1 ((are a b).1 ((exact a (length first + b)).1 (meets_across a b m), m)),
  )

-- a pair of the list is across
pub pair_at : (first second : List Rect) (pairs : List (ℕ × ℕ)) → ((a b : ℕ) → Contains pairs (a, b) → AreTouchingAcross (first ++ second) (length first) a b)
    → (i : ℕ) → i < length pairs → AreTouchingAcross (first ++ second) (length first) (get_or pairs i (0, 0)).0 (get_or pairs i (0, 0)).1
pair_at first second pairs each i small = each (get_or pairs i (0, 0)).0 (get_or pairs i (0, 0)).1 (Contains-get_or pairs i (0, 0) small)

-- rectangles with these numbers that have no cell in common do not meet
pub not_meeting : (first second : List Rect) (a b : ℕ) (one other : Rect) → slice_get first a ≡ Some one → slice_get second b ≡ Some other → (Overlap one other → ⊥) → AreMeeting first second a b → ⊥
not_meeting first second a b one other one_at other_at apart m =
    let one_is : m.one ≡ one = cc (one_at, m.one_at) in
    let other_is : m.other ≡ other = cc (other_at, m.other_at) in
    apart (subst (Overlap one) other_is (subst (λ (r : Rect). Overlap r m.other) one_is m.overlap))
