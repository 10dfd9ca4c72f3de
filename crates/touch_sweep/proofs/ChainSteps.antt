-- the steps by which entries of two lists are chained
use Rattle.std.proofs.Common.{ℕ, zero, suc, ◌≡◌, refl, sym, subst, List, [], ◌∷◌, ◌++◌, length, arith, inl, inr, ◌⊎◌, ◌+ℤ◌, ◌≤ℤ◌, Contains}
use Rattle.lists.proofs.Words.{ints, Contains-append_left, Contains-push, Contains-push_cases}
use Rattle.geo_core.specs.Plane.{Touch}
use Rattle.geo_core.proofs.RectLaws.{Touch-sym}
use Rattle.touch_sweep.specs.inside.Chains.{IsLinked, Links, AreInRow, StandsFor, IsChaining, ChainsOne}
use Rattle.touch_sweep.specs.inside.Entries.{IsByRow}
use Rattle.touch_sweep.specs.inside.Matches.{IsMatchOf}
use Rattle.touch_sweep.specs.declared.numbered.Numbered.{Numbered}
use Rattle.touch_sweep.proofs.GainLaws.{gains_nothing, gains_both}
use Rattle.touch_sweep.proofs.LinkLaws.{linked_itself, linked_back, linked_on, linked_still, linked_with, links_less, links_nothing}
use Rattle.touch_sweep.proofs.SweepSteps.{IsByRow-tail}
use Rattle.touch_sweep.proofs.TouchLaws.{IsMatch-sym}
use Rattle.lists.proofs.Containing.{Contains-cons_cases, Contains-head, Contains-none, Contains-tail}

-- the first entry begins no higher than any other
pub first_is_lowest : (x : Numbered) (rest : List Numbered) → IsByRow (x ∷ rest) → (e : Numbered) → Contains (x ∷ rest) e → x.rect.y0 ≤ℤ e.rect.y0
first_is_lowest x rest by_row e c = elim (Contains-cons_cases x rest e c) [
  | inl same ↦ subst (λ (y : Numbered). x.rect.y0 ≤ℤ y.rect.y0) same (omega (arith, ints))
  | inr d ↦ subst (λ (y : Numbered). x.rect.y0 ≤ℤ y.rect.y0) d.2 (by_row zero (suc d.0) e (omega arith) (let small = d.1 in omega arith))
]

pub none_chained : (mine theirs : List Numbered) (pairs : List (ℕ × ℕ)) → AreInRow mine theirs → IsByRow mine → IsByRow theirs
    → IsChaining mine theirs mine theirs [] [] pairs pairs
none_chained mine theirs pairs rows by_row also = record {
  rows = rows;
  gains = gains_nothing pairs (λ p h. h);
  mine_by_row = by_row;
  theirs_by_row = also;
  mine_among = λ e c. c;
  theirs_among = λ e c. c;
  own_among = λ e c. absurd (Contains-none c);
  others_among = λ e c. absurd (Contains-none c);
  below = λ o e c d. elim c [ inl k ↦ absurd (Contains-none k) | inr k ↦ absurd (Contains-none k) ];
  mine_kept = λ m c. inl c;
  theirs_kept = λ t c. inl c;
  joined = λ m t c d touch. inl c;
}

-- ---- the two lists in the other order

match_turned : (mine theirs : List Numbered) (p : ℕ × ℕ) → IsMatchOf mine theirs p → IsMatchOf theirs mine p
match_turned mine theirs p m = record { point = m.match.other; among = m.match.among; match = record { other = m.point; among = m.among; match = IsMatch-sym m.point m.match.other p m.match.match } }

pub turned : {mine theirs a b own others : List Numbered} {old now : List (ℕ × ℕ)} → IsChaining mine theirs a b own others old now → IsChaining theirs mine b a others own old now
turned {mine} {theirs} s = record {
  rows = record {
    gap = s.rows.gap;
    small = s.rows.small;
    tell = λ p q c d. (
      λ touch. let h = (s.rows.tell q p d c).0 (Touch-sym _ _ touch) in (h.1, h.0),
      λ h. Touch-sym _ _ ((s.rows.tell q p d c).1 (h.1, h.0)),
    );
  };
  gains = record {
    kept = s.gains.kept;
    all = s.gains.all;
    none_else = λ p c. elim (s.gains.none_else p c) [ inl d ↦ inl d | inr m ↦ inr (match_turned mine theirs p m) ];
  };
  mine_by_row = s.theirs_by_row;
  theirs_by_row = s.mine_by_row;
  mine_among = s.theirs_among;
  theirs_among = s.mine_among;
  own_among = s.others_among;
  others_among = s.own_among;
  below = λ o e c d. s.below o e (elim c [ inl k ↦ inr k | inr k ↦ inl k ]) (elim d [ inl k ↦ inr k | inr k ↦ inl k ]);
  mine_kept = λ m c. elim (s.theirs_kept m c) [ inl d ↦ inl d | inr f ↦ inr (λ e d. f e (elim d [ inl k ↦ inr k | inr k ↦ inl k ])) ];
  theirs_kept = λ t c. elim (s.mine_kept t c) [ inl d ↦ inl d | inr f ↦ inr (λ e d. f e (elim d [ inl k ↦ inr k | inr k ↦ inl k ])) ];
  joined = λ m t c d touch. elim (s.joined t m d c (Touch-sym _ _ touch)) [ inl k ↦ inr (inl k) | inr rest ↦ elim rest [ inl k ↦ inl k | inr path ↦ inr (inr (linked_back path)) ] ];
}

-- ---- one entry

-- the first entry of the one list, which begins no higher than those of the other list, is chained
module _ {mine theirs a b own others own' others' : List Numbered} {old now new : List (ℕ × ℕ)} (x : Numbered) (s : IsChaining mine theirs (x ∷ a) b own others old now)
    (lowest : (e : Numbered) → Contains b e → x.rect.y0 ≤ℤ e.rect.y0) (c : ChainsOne x own others own' others' now new) where
  x_among : Contains mine x
  x_among = s.mine_among x (Contains-head x a)

  x_below : (e : Numbered) → Contains a e ⊎ Contains b e → x.rect.y0 ≤ℤ e.rect.y0
  x_below e (inl d) = first_is_lowest x a s.mine_by_row e (Contains-tail x a e d)
  x_below e (inr d) = lowest e d

  -- an open one that reaches up to this entry touches it
  linked_open : (w : Numbered) → Contains others w → (x.rect.y0 +ℤ s.rows.gap) ≤ℤ w.rect.y1 → IsLinked new x.number w.number
  linked_open w d reaches =
      let below = s.below w x (inr d) (inl (Contains-head x a)) in
      let small = s.rows.small in
      let some = x.rect.up.some in
      linked_with c.paired d ((s.rows.tell x w x_among (s.others_among w d)).1 (reaches, omega (arith, ints)))

  -- one that reaches up to this entry is linked with it, and with the farthest one
  linked_far : (t : Numbered) → StandsFor others now t → (x.rect.y0 +ℤ s.rows.gap) ≤ℤ t.rect.y1 → IsLinked new x.number t.number × StandsFor others' new t
  linked_far t stands reaches =
      let far = stands.reaches in
      let back = linked_on (linked_open stands.other stands.among (omega (arith, ints))) (linked_back (linked_still c.paired.kept stands.linked)) in
      let f = c.farthest.some stands.other stands.among in
      let farther = f.2 in (
        back,
        record {
          other = f.0;
          among = f.1;
          reaches = omega (arith, ints);
          linked = linked_on (linked_back back) (linked_open f.0 (c.farthest.kept f.0 f.1) (omega (arith, ints)));
        },
      )

  own_before : (o : Numbered) → Contains own' o → Contains own o ⊎ (x ≡ o)
  own_before o d = Contains-push_cases own x o (subst (λ ys. Contains ys o) c.opened d)

  in_own : (o : Numbered) → Contains (own ++ x ∷ []) o → Contains own' o
  in_own o d = subst (λ ys. Contains ys o) (sym c.opened) d

  left_before : (e : Numbered) → Contains a e ⊎ Contains b e → Contains (x ∷ a) e ⊎ Contains b e
  left_before e d = elim d [ inl k ↦ inl (Contains-tail x a e k) | inr k ↦ inr k ]

  mine_still : (m : Numbered) → Contains mine m → Contains a m ⊎ ((e : Numbered) → Contains a e ⊎ Contains b e → (e.rect.y0 +ℤ s.rows.gap) ≤ℤ m.rect.y1 → StandsFor own' new m)
  mine_still m d = elim (s.mine_kept m d) [
    | inl k ↦ elim (Contains-cons_cases x a m k) [
      | inl same ↦ inr (λ e h reaches. record {
        other = x;
        among = in_own x (Contains-push own x);
        reaches = subst (λ (y : Numbered). y.rect.y1 ≤ℤ x.rect.y1) same (omega (arith, ints));
        linked = subst (λ (y : Numbered). IsLinked new y.number x.number) same (linked_itself new x.number);
      })
      | inr k ↦ inl k
    ]
    | inr f ↦ inr (λ e h reaches. let stands = f e (left_before e h) reaches in record {
      other = stands.other;
      among = in_own stands.other (Contains-append_left own (x ∷ []) stands.other stands.among);
      reaches = stands.reaches;
      linked = linked_still c.paired.kept stands.linked;
    })
  ]

  theirs_still : (t : Numbered) → Contains theirs t → Contains b t ⊎ ((e : Numbered) → Contains a e ⊎ Contains b e → (e.rect.y0 +ℤ s.rows.gap) ≤ℤ t.rect.y1 → StandsFor others' new t)
  theirs_still t d = elim (s.theirs_kept t d) [
    | inl k ↦ inl k
    | inr f ↦ inr (λ e h reaches.
        let below = x_below e h in
        let far : (x.rect.y0 +ℤ s.rows.gap) ≤ℤ t.rect.y1 = omega (arith, ints) in
        (linked_far t (f x (inl (Contains-head x a)) far) far).1)
  ]

  -- what touches this entry is linked with it
  joined_first : (t : Numbered) → Contains theirs t → Touch x.rect t.rect → Contains b t ⊎ IsLinked new x.number t.number
  joined_first t d touch =
      let reaches = ((s.rows.tell x t x_among d).0 touch).0 in
      elim (s.theirs_kept t d) [ inl k ↦ inl k | inr f ↦ inr (linked_far t (f x (inl (Contains-head x a)) reaches) reaches).0 ]

  joined_still : (m t : Numbered) → Contains mine m → Contains theirs t → Touch m.rect t.rect → Contains a m ⊎ Contains b t ⊎ IsLinked new m.number t.number
  joined_still m t d k touch = elim (s.joined m t d k touch) [
    | inl first ↦ elim (Contains-cons_cases x a m first) [
      | inl same ↦ inr (subst (λ (y : Numbered). Contains b t ⊎ IsLinked new y.number t.number) same (joined_first t k (subst (λ (y : Numbered). Touch y.rect t.rect) (sym same) touch)))
      | inr later ↦ inl later
    ]
    | inr rest ↦ elim rest [ inl l ↦ inr (inl l) | inr path ↦ inr (inr (linked_still c.paired.kept path)) ]
  ]

  pub one_chained : IsChaining mine theirs a b own' others' old new
  one_chained = record {
    rows = s.rows;
    gains = gains_both s.gains c.paired (λ p h. absurd h) (λ p m. m)
        (λ p m. record { point = x; among = x_among; match = record { other = m.other; among = s.others_among m.other m.among; match = m.match } });
    mine_by_row = IsByRow-tail x a s.mine_by_row;
    theirs_by_row = s.theirs_by_row;
    mine_among = λ e d. s.mine_among e (Contains-tail x a e d);
    theirs_among = s.theirs_among;
    own_among = λ o d. elim (own_before o d) [ inl k ↦ s.own_among o k | inr same ↦ subst (Contains mine) same x_among ];
    others_among = λ o d. s.others_among o (c.farthest.kept o d);
    below = λ o e d h. elim d [
      | inl k ↦ elim (own_before o k) [
        | inl l ↦ s.below o e (inl l) (left_before e h)
        | inr same ↦ subst (λ (y : Numbered). y.rect.y0 ≤ℤ e.rect.y0) same (x_below e h)
      ]
      | inr k ↦ s.below o e (inr (c.farthest.kept o k)) (left_before e h)
    ];
    mine_kept = mine_still;
    theirs_kept = theirs_still;
    joined = joined_still;
  }

-- where none is left, all that touch are joined
pub all_chained : {mine theirs own others : List Numbered} {old now : List (ℕ × ℕ)} → IsChaining mine theirs [] [] own others old now → Links (IsMatchOf mine theirs) (IsMatchOf mine theirs) old now
all_chained {mine} {theirs} {own} {others} {old} {now} s = record {
  kept = λ a b h. linked_still s.gains.kept h;
  joined = joined_both;
  none_else = s.gains.none_else;
} where
  numbers_joined : (m t : Numbered) → Contains mine m → Contains theirs t → Touch m.rect t.rect → IsLinked now m.number t.number
  numbers_joined m t c d touch = elim (s.joined m t c d touch) [ inl k ↦ absurd (Contains-none k) | inr rest ↦ elim rest [ inl k ↦ absurd (Contains-none k) | inr path ↦ path ] ]

  joined_both : (p : ℕ × ℕ) → IsMatchOf mine theirs p → IsLinked now p.0 p.1
  joined_both p m =
      let path = numbers_joined m.point m.match.other m.among m.match.among m.match.match.touch in
      elim m.match.match.numbers [
        | inl h ↦ subst (λ (q : ℕ × ℕ). IsLinked now q.0 q.1) (sym h.1) path
        | inr h ↦ subst (λ (q : ℕ × ℕ). IsLinked now q.0 q.1) (sym h.1) (linked_back path)
      ]

-- ---- the rest of one list

none_of_length : (xs : List Numbered) → length xs ≡ 0 → xs ≡ []
none_of_length [] e = refl
none_of_length (x ∷ xs) e = absurd (omega arith)

-- from the rest of a list to a later rest
abbrev pub ChainsDownTo : List Numbered → List Numbered → List Numbered → List (ℕ × ℕ) → List Numbered → List Numbered → List Numbered → List (ℕ × ℕ) → Type 0
ChainsDownTo rest own others pairs rest' own' others' pairs' =
    (mine theirs : List Numbered) (start : List (ℕ × ℕ)) → IsChaining mine theirs rest [] own others start pairs → IsChaining mine theirs rest' [] own' others' start pairs'

module _ {rest own others rest' own' others' : List Numbered} {pairs pairs' : List (ℕ × ℕ)} (h : ChainsDownTo rest own others pairs rest' own' others' pairs') where
  pub down_one : {own'' others'' : List Numbered} {pairs'' : List (ℕ × ℕ)} (x : Numbered) (later : List Numbered) → rest' ≡ x ∷ later → ChainsOne x own' others' own'' others'' pairs' pairs''
      → ChainsDownTo rest own others pairs later own'' others'' pairs''
  down_one x later e c mine theirs start s =
      one_chained x (subst (λ ys. IsChaining mine theirs ys [] own' others' start pairs') e (h mine theirs start s)) (λ y d. absurd (Contains-none d)) c

  pub down_all : length rest' ≡ 0 → (mine theirs : List Numbered) (start : List (ℕ × ℕ)) → IsChaining mine theirs rest [] own others start pairs
      → Links (IsMatchOf mine theirs) (IsMatchOf mine theirs) start pairs'
  down_all e mine theirs start s = all_chained (subst (λ ys. IsChaining mine theirs ys [] own' others' start pairs') (none_of_length rest' e) (h mine theirs start s))

-- ---- both lists

module _ {mine theirs a b own others : List Numbered} {old now : List (ℕ × ℕ)} (s : IsChaining mine theirs a b own others old now) where
  -- the first of the one list, which begins no higher than the first of the other list
  pub first_chained : {own' others' : List Numbered} {new : List (ℕ × ℕ)} (x y : Numbered) (a' b' : List Numbered) → a ≡ x ∷ a' → b ≡ y ∷ b' → x.rect.y0 ≤ℤ y.rect.y0
      → ChainsOne x own others own' others' now new → IsChaining mine theirs a' b own' others' old new
  first_chained x y a' b' a_is b_is lower c = one_chained x (subst (λ ys. IsChaining mine theirs ys b own others old now) a_is s)
      (λ e d. let f = first_is_lowest y b' (subst IsByRow b_is s.theirs_by_row) e (subst (λ ys. Contains ys e) b_is d) in omega (arith, ints)) c

  pub none_of_theirs : length b ≡ 0 → IsChaining mine theirs a [] own others old now
  none_of_theirs e = subst (λ ys. IsChaining mine theirs a ys own others old now) (none_of_length b e) s

-- links of the two lists in the other order
pub links_turned : {mine theirs : List Numbered} {old new : List (ℕ × ℕ)} → Links (IsMatchOf mine theirs) (IsMatchOf mine theirs) old new
    → Links (IsMatchOf theirs mine) (IsMatchOf theirs mine) old new
links_turned {mine} {theirs} g = links_less g (match_turned theirs mine) (match_turned mine theirs)

pub links_none : (mine theirs : List Numbered) (pairs : List (ℕ × ℕ)) → length theirs ≡ 0 → Links (IsMatchOf mine theirs) (IsMatchOf mine theirs) pairs pairs
links_none mine theirs pairs none = links_nothing pairs (λ p m. absurd (let small = m.match.among.1 in omega arith))
