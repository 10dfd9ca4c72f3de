-- what a scan over boxes with their numbers adds to the pairs
use Rattle.std.proofs.Common.{ℕ, ◌+◌, ◌*◌, ◌<◌, ◌≤◌, ◌≡◌, refl, sym, ap, subst, ◌∙◌, List, [], ◌∷◌, ◌++◌, length}
use Rattle.std.proofs.Common.{length-append, get_or, drop, take, take_all, suc, arith, inl, inr, ◌⊎◌, Some, Contains, slice_get, ◌≤ℤ◌, ◌<ℤ◌}
use Rattle.lists.proofs.Words.{ints, length-take, take-append-drop}
use Rattle.lists.proofs.Words.{Contains-append_left, Contains-append_right, Contains-append_cases, Contains-push, Contains-push_cases}
use Rattle.lists.proofs.Containing.{Contains-cons_cases, Contains-head, Contains-none, Contains-one, Contains-tail}
use Rattle.lists.proofs.Differing.{AllPairs-tail, at_or_past}
use Rattle.lists.proofs.Reading.{taken_more}
use Rattle.classes.specs.Classes.{IsPair}
use Rattle.geo_core.proofs.IntervalLaws.{IntervalsTouch-overlap, touching}
use Rattle.half_boxes.specs.HalfBoxes.{TouchHalves}
use Rattle.half_boxes.specs.inside.Scans.{Adds, AreFound, AreNumbered, AreTouchingPairs, IsByColumn}
use Rattle.half_boxes.specs.declared.boxes.HalfBox.{HalfBox}
use Rattle.half_boxes.specs.declared.scan.Numbered.{Numbered}
use Rattle.half_boxes.proofs.BoxLaws.{TouchHalves-sym, touch_by_axis}

-- a box that begins behind the end of another one does not touch it
touch_begins : (one other : HalfBox) → TouchHalves one other → other.columns.low ≤ℤ one.columns.high
touch_begins one other t =
    let some = one.columns.within.some in let also = other.columns.within.some in
    let ends = touching one.columns.low one.columns.high other.columns.low other.columns.high some also in
    elim (touch_by_axis one other t) [
      | inl k ↦ (ends.1 (IntervalsTouch-overlap _ _ _ _ k.0)).1
      | inr k ↦ (ends.1 k.0).1
    ]

-- ---- one entry with others

module _ (entry : Numbered) where
  pub adds_none : (pairs : List (ℕ × ℕ)) → Adds entry [] pairs pairs
  adds_none pairs = record { kept = λ p c. c; all = λ p m. absurd (Contains-none m.among); none_else = λ p c. inl c; few = omega arith }

  pub adds_touching : (other : Numbered) (old new : List (ℕ × ℕ)) → TouchHalves entry.one other.one → new ≡ old ++ (entry.number, other.number) ∷ [] → Adds entry (other ∷ []) old new
  adds_touching other old new touch e = subst (Adds entry (other ∷ []) old) (sym e) (record {
    kept = λ p c. Contains-append_left old (pair ∷ []) p c;
    all = λ p m. subst (Contains (old ++ pair ∷ []))
        (sym (m.match.numbers ∙ ap (λ (x : Numbered). (entry.number, x.number)) (sym (Contains-one other m.other m.among)))) (Contains-push old pair);
    none_else = λ p c. elim (Contains-push_cases old pair p c) [
      | inl d ↦ inl d
      | inr same ↦ inr (record { other = other; among = Contains-head other []; match = record { touch = touch; numbers = sym same } })
    ];
    few = let more = length-append old (pair ∷ []) in omega arith;
  }) where
    pair : ℕ × ℕ
    pair = (entry.number, other.number)

  pub adds_apart : (other : Numbered) (pairs : List (ℕ × ℕ)) → (TouchHalves entry.one other.one → ⊥) → Adds entry (other ∷ []) pairs pairs
  adds_apart other pairs apart = record {
    kept = λ p c. c;
    all = λ p m. absurd (apart (subst (λ (x : Numbered). TouchHalves entry.one x.one) (sym (Contains-one other m.other m.among)) m.match.touch));
    none_else = λ p c. inl c;
    few = omega arith;
  }

  adds_both : (front back : List Numbered) (old middle new : List (ℕ × ℕ)) → Adds entry front old middle → Adds entry back middle new → Adds entry (front ++ back) old new
  adds_both front back old middle new a b = record {
    kept = λ p c. b.kept p (a.kept p c);
    all = λ p m. elim (Contains-append_cases front back m.other m.among) [
      | inl c ↦ b.kept p (a.all p (record { other = m.other; among = c; match = m.match }))
      | inr c ↦ b.all p (record { other = m.other; among = c; match = m.match })
    ];
    none_else = λ p c. elim (b.none_else p c) [
      | inl d ↦ elim (a.none_else p d) [
        | inl o ↦ inl o
        | inr m ↦ inr (record { other = m.other; among = Contains-append_left front back m.other m.among; match = m.match })
      ]
      | inr m ↦ inr (record { other = m.other; among = Contains-append_right front back m.other m.among; match = m.match })
    ];
    few = let f = a.few in let g = b.few in let e = length-append front back in omega arith;
  }

  module _ (others : List Numbered) (i : ℕ) where
    pub adds_next : (x : Numbered) (old middle new : List (ℕ × ℕ)) → i < length others → x ≡ get_or others i x → Adds entry (take i others) old middle → Adds entry (x ∷ []) middle new
        → Adds entry (take (i + 1) others) old new
    adds_next x old middle new small at a b = subst (λ xs. Adds entry xs old new) (sym (taken_more others i x small at)) (adds_both (take i others) (x ∷ []) old middle new a b)

    pub adds_all : (old new : List (ℕ × ℕ)) → length others ≤ i → Adds entry (take i others) old new → Adds entry others old new
    adds_all old new long a = subst (λ xs. Adds entry xs old new) (take_all i others long) a

    -- the others from `i` on begin behind the end of the entry
    pub rest_apart : (x : Numbered) (old new : List (ℕ × ℕ)) → i < length others → x ≡ get_or others i x → IsByColumn others → entry.one.columns.high <ℤ x.one.columns.low
        → Adds entry (take i others) old new → Adds entry others old new
    rest_apart x old new small at by_column behind a = record {
      kept = a.kept;
      all = λ p m. elim (at_or_past (λ a b. a.one.columns.low ≤ℤ b.one.columns.low) others by_column (λ a. omega (arith, ints)) i x m.other small at m.among) [
        | inl c ↦ a.all p (record { other = m.other; among = c; match = m.match })
        | inr past ↦ absurd (let begins = touch_begins entry.one m.other.one m.match.touch in omega (arith, ints))
      ];
      none_else = λ p c. elim (a.none_else p c) [
        | inl d ↦ inl d
        | inr m ↦ inr (record { other = m.other; among = in_all m.other m.among; match = m.match })
      ];
      few = let f = a.few in let e = length-take i others in omega arith;
    } where
      in_all : (y : Numbered) → Contains (take i others) y → Contains others y
      in_all y c = subst (λ ys. Contains ys y) (take-append-drop i others) (Contains-append_left (take i others) (drop i others) y c)

-- ---- all entries

one_fewer : (old new left rest all : ℕ) → left ≡ suc rest → left ≤ all → old + left * all ≤ all * all → new ≤ old + rest → new + rest * all ≤ all * all
one_fewer old new left rest all e s f g =
    let h : suc rest ≤ all = omega arith in
    let k : old + suc rest * all ≤ all * all = subst (λ n. old + n * all ≤ all * all) e f in
    omega arith

pub found_none : (entries : List Numbered) → IsByColumn entries → AreFound entries entries []
found_none entries by_column = record {
  by_column = by_column;
  among = λ e c. c;
  none_else = λ p c. absurd (Contains-none c);
  all = λ a b c d t. inr (inr (c, d));
  short = omega arith;
  few = omega arith;
}

pub later_in_order : (left : List Numbered) (x : Numbered) (rest : List Numbered) → left ≡ x ∷ rest → IsByColumn left → IsByColumn rest
later_in_order left x rest e by_column = AllPairs-tail (λ a b. a.one.columns.low ≤ℤ b.one.columns.low) x rest (subst IsByColumn e by_column)

-- of two that touch and are left, the first one has its pair told with a later one, and later ones are left
told_or_later : (x : Numbered) (rest : List Numbered) (old new : List (ℕ × ℕ)) → Adds x rest old new → (a b : Numbered) → TouchHalves a.one b.one
    → (x ≡ a) ⊎ Contains rest a → (x ≡ b) ⊎ Contains rest b → (a.number ≡ b.number) ⊎ (IsPair new a.number b.number ⊎ (Contains rest a × Contains rest b))
told_or_later x rest old new adds a b t (inl p) (inl q) = inl (ap (λ (y : Numbered). y.number) (sym p ∙ q))
told_or_later x rest old new adds a b t (inl p) (inr d) =
    inr (inl (inl (subst (λ (y : Numbered). Contains new (y.number, b.number)) p (adds.all _ (record {
      other = b;
      among = d;
      match = record {
        touch = subst (λ (y : Numbered). TouchHalves y.one b.one) (sym p) t;
        numbers = refl;
      };
    })))))
told_or_later x rest old new adds a b t (inr c) (inl q) =
    inr (inl (inr (subst (λ (y : Numbered). Contains new (y.number, a.number)) q (adds.all _ (record {
      other = a;
      among = c;
      match = record {
        touch = subst (λ (y : Numbered). TouchHalves y.one a.one) (sym q) (TouchHalves-sym a.one b.one t);
        numbers = refl;
      };
    })))))
told_or_later x rest old new adds a b t (inr c) (inr d) = inr (inr (c, d))

pub found_next : (entries left : List Numbered) (x : Numbered) (rest : List Numbered) (old new : List (ℕ × ℕ)) → left ≡ x ∷ rest
    → AreFound entries left old → Adds x rest old new → AreFound entries rest new
found_next entries left x rest old new e found adds = record {
  by_column = later_in_order left x rest e found.by_column;
  among = λ y c. among y (Contains-tail x rest y c);
  none_else = λ p c. elim (adds.none_else p c) [
    | inl d ↦ found.none_else p d
    | inr m ↦ record { entry = x; among = among x (Contains-head x rest); match = record { other = m.other; among = among m.other (Contains-tail x rest m.other m.among); match = m.match } }
  ];
  all = λ a b c d t. elim (found.all a b c d t) [
    | inl same ↦ inl same
    | inr (inl (inl pair)) ↦ inr (inl (inl (adds.kept _ pair)))
    | inr (inl (inr pair)) ↦ inr (inl (inr (adds.kept _ pair)))
    | inr (inr h) ↦ told_or_later x rest old new adds a b t (Contains-cons_cases x rest a (subst (λ ys. Contains ys a) e h.0)) (Contains-cons_cases x rest b (subst (λ ys. Contains ys b) e h.1))
  ];
  short = let one = ap (λ (ys : List Numbered). length ys) e in let s = found.short in omega arith;
  few = let one = ap (λ (ys : List Numbered). length ys) e in let s = found.short in let f = found.few in let g = adds.few in
      one_fewer (length old) (length new) (length left) (length rest) (length entries) one s f g;
} where
  among : (y : Numbered) → Contains (x ∷ rest) y → Contains entries y
  among y c = found.among y (subst (λ ys. Contains ys y) (sym e) c)

pub none_left : (entries left : List Numbered) (pairs : List (ℕ × ℕ)) → length left ≡ 0 → AreFound entries left pairs → AreFound entries [] pairs
none_left entries [] pairs e found = found
none_left entries (x ∷ rest) pairs e found = absurd (omega arith)

pub found_all : (boxes : List HalfBox) (entries : List Numbered) (pairs : List (ℕ × ℕ)) → AreNumbered boxes entries → length entries ≡ length boxes
    → AreFound entries [] pairs → AreTouchingPairs boxes pairs
found_all boxes entries pairs numbered as_many found = record {
  touching = λ a b c.
      let m = found.none_else (a, b) c in
      let other = m.match.other in
      let first : m.entry.number ≡ a = sym (ap (λ (p : ℕ × ℕ). p.0) m.match.match.numbers) in
      let second : other.number ≡ b = sym (ap (λ (p : ℕ × ℕ). p.1) m.match.match.numbers) in
      record {
        one = m.entry.one;
        other = other.one;
        one_at = subst (λ n. slice_get boxes n ≡ Some m.entry.one) first ((numbered m.entry).0 m.among);
        other_at = subst (λ n. slice_get boxes n ≡ Some other.one) second ((numbered other).0 m.match.among);
        touch = m.match.match.touch;
      };
  all = λ a b t.
      let one : Numbered = record { number = a; one = t.one } in
      let other : Numbered = record { number = b; one = t.other } in
      elim (found.all one other ((numbered one).1 t.one_at) ((numbered other).1 t.other_at) t.touch) [
        | inl same ↦ inl same
        | inr (inl pair) ↦ inr pair
        | inr (inr none) ↦ absurd (Contains-none none.0)
      ];
  few = subst (λ n. length pairs ≤ n * n) as_many (let f = found.few in omega arith);
}
