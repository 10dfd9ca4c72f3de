-- filling an index, one neighbour at a time
use Rattle.std.proofs.Common.{ℕ, zero, suc, ◌+◌, ◌-◌, ◌≤◌, ◌<◌, ◌≡◌, ◌≢◌, refl, sym, ap, subst, ◌∙◌, List, [], ◌∷◌, ◌++◌, length, arith, inl, inr, ◌⊎◌, get_or, set, get_or-set_same, get_or-set_other, length-set, take, drop, Contains, take_all}
use Rattle.lists.proofs.Words.{leb_tells, take_more, drop_all, Contains-get_or, Contains-append_left, Contains-push, Contains-push_cases}
use Rattle.classes.specs.Classes.{IsPair}
use Rattle.classes.specs.inside.Degrees.{match_count, degree_of}
use Rattle.classes.specs.inside.Index.{IsLaidOut, IsIndexOf}
use Rattle.classes.proofs.DegreeLaws.{raise, get_or-raise, match_count_same, match_count_other, pair_at, degree_of-drop}
use Rattle.lists.proofs.Comparing.{equal_or_not}
use Rattle.lists.proofs.Containing.{Contains-take_cases}

-- a later number does not start before an earlier one
pub rise : (pairs : List (ℕ × ℕ)) (starts : List ℕ) (size : ℕ) → IsLaidOut pairs starts size → (i n : ℕ) → i + n < length starts → get_or starts i 0 ≤ get_or starts (i + n) 0
rise pairs starts size l i zero h = let e : i + 0 ≡ i = omega arith in rw e (omega arith)
rise pairs starts size l i (suc n) h =
    let e : i + suc n ≡ suc (i + n) = omega arith in
    let p = rise pairs starts size l i n (omega arith) in
    let q = l.room (i + n) (omega arith) in
    rw e (omega arith)

pub ordered : (pairs : List (ℕ × ℕ)) (starts : List ℕ) (size : ℕ) → IsLaidOut pairs starts size → (i j : ℕ) → i ≤ j → j < length starts → get_or starts i 0 ≤ get_or starts j 0
ordered pairs starts size l i j h b = let e : i + (j - i) ≡ j = omega arith in subst (λ x. get_or starts i 0 ≤ get_or starts x 0) e (rise pairs starts size l i (j - i) (omega arith))

-- x stands at a place of k that is filled already
pub record IsPut (starts next flat : List ℕ) (k x : ℕ) : Type 0 where
  pub small : suc k < length starts
  pub place : ℕ
  pub from : get_or starts k 0 ≤ place
  pub to : place < get_or next k 0
  pub is : get_or flat place 0 ≡ x

-- the filled places hold exactly what is done, and the free ones are as many as what is left
pub record IsFilling (Done : ℕ → ℕ → Type 0) (left : ℕ → ℕ) (starts next flat : List ℕ) : Type 0 where
  pub one_each : length next ≡ length starts
  pub from : (k : ℕ) → suc k < length starts → get_or starts k 0 ≤ get_or next k 0
  pub room : (k : ℕ) → suc k < length starts → get_or next k 0 + left k ≡ get_or starts (suc k) 0
  pub sound : (k p : ℕ) → suc k < length starts → get_or starts k 0 ≤ p → p < get_or next k 0 → Done k (get_or flat p 0)
  pub complete : (k x : ℕ) → Done k x → IsPut starts next flat k x

module _ {Done : ℕ → ℕ → Type 0} (left : ℕ → ℕ) (starts next flat : List ℕ) (k x : ℕ) (rises : (i j : ℕ) → i ≤ j → j < length starts → get_or starts i 0 ≤ get_or starts j 0)
    (s : IsFilling Done left starts next flat) (small : suc k < length starts) where
  -- k's first free place is filled for no number
  not_next : (j p : ℕ) → 1 ≤ left k → suc j < length starts → get_or starts j 0 ≤ p → p < get_or next j 0 → p ≢ get_or next k 0
  not_next j p more b h l e = elim (equal_or_not j k) [
    | inl f ↦ let g = ap (λ y. get_or next y 0) f in omega arith
    | inr n ↦
        let rj = s.room j b in
        let rk = s.room k small in
        let fk = s.from k small in
        elim (leb_tells j k) [
          | inl y ↦ let y' = y.1 in let z = rises (suc j) k (omega arith) (omega arith) in omega arith
          | inr y ↦ let y' = y.1 in let z = rises (suc k) j (omega arith) (omega arith) in omega arith
        ]
  ]

  -- how far each number's places are filled then
  next_of : (j : ℕ) → get_or (raise next k) j 0 ≡ get_or next j 0 + match_count j k
  next_of j = let long = s.one_each in get_or-raise next k j (omega arith)

  -- places that were filled keep what they have
  kept : (j p : ℕ) → 1 ≤ left k → suc j < length starts → get_or starts j 0 ≤ p → p < get_or next j 0 → get_or (set flat (get_or next k 0) x) p 0 ≡ get_or flat p 0
  kept j p more b h l = get_or-set_other flat (get_or next k 0) p x 0 (not_next j p more b h l)

  module _ (more : 1 ≤ left k) (here : get_or (set flat (get_or next k 0) x) (get_or next k 0) 0 ≡ x) where
    sound_with : (j p : ℕ) → suc j < length starts → get_or starts j 0 ≤ p → p < get_or (raise next k) j 0
        → Done j (get_or (set flat (get_or next k 0) x) p 0) ⊎ ((j ≡ k) × (get_or (set flat (get_or next k 0) x) p 0 ≡ x))
    sound_with j p b h l = elim (equal_or_not j k) [
      | inl e ↦ elim (equal_or_not p (get_or next k 0)) [
        | inl f ↦ inr (e, ap (λ y. get_or (set flat (get_or next k 0) x) y 0) f ∙ here)
        | inr n ↦
            let o = next_of j in
            let g = ap (λ y. get_or next y 0) e in
            let w = match_count_same j k e in
            let l' : p < get_or next j 0 = omega arith in
            inl (subst (Done j) (sym (kept j p more b h l')) (s.sound j p b h l'))
      ]
      | inr n ↦
          let o = next_of j in
          let w = match_count_other j k n in
          let l' : p < get_or next j 0 = omega arith in
          inl (subst (Done j) (sym (kept j p more b h l')) (s.sound j p b h l'))
    ]

    complete_with : (j y : ℕ) → Done j y ⊎ ((j ≡ k) × (y ≡ x)) → IsPut starts (raise next k) (set flat (get_or next k 0) x) j y
    complete_with j y d = elim d [
      | inl e ↦
          let p = s.complete j y e in
          let o = next_of j in
          let t = p.to in
          record { small = p.small; place = p.place; from = p.from; to = omega arith; is = kept j p.place more p.small p.from p.to ∙ p.is }
      | inr e ↦
          let f = s.from k small in
          let o = next_of k in
          let same = match_count_same k k refl in
          let put : IsPut starts (raise next k) (set flat (get_or next k 0) x) k x = record { small = small; place = get_or next k 0; from = f; to = omega arith; is = here } in
          subst (λ z. IsPut starts (raise next k) (set flat (get_or next k 0) x) z y) (sym e.0) (subst (λ z. IsPut starts (raise next k) (set flat (get_or next k 0) x) k z) (sym e.1) put)
    ]

  pub put_one : (left' : ℕ → ℕ) → ((j : ℕ) → left j ≡ left' j + match_count j k) → get_or next k 0 < length flat
      → IsFilling (λ a b. Done a b ⊎ ((a ≡ k) × (b ≡ x))) left' starts (raise next k) (set flat (get_or next k 0) x)
  put_one left' fewer room =
      let same = match_count_same k k refl in
      let more : 1 ≤ left k = let f = fewer k in omega arith in
      let here = get_or-set_same flat (get_or next k 0) x 0 room in
      record {
        one_each = length-set next k (get_or next k 0 + 1) ∙ s.one_each;
        from = λ j b. let f = s.from j b in let e = next_of j in omega arith;
        room = λ j b. let r = s.room j b in let e = next_of j in let f = fewer j in omega arith;
        sound = sound_with more here;
        complete = complete_with more here;
      }

-- what is done may be said in other words
pub reworded : {Done Also : ℕ → ℕ → Type 0} (left : ℕ → ℕ) (starts next flat : List ℕ) → ((a b : ℕ) → Done a b → Also a b) → ((a b : ℕ) → Also a b → Done a b) → IsFilling Done left starts next flat
    → IsFilling Also left starts next flat
reworded left starts next flat to back s = record {
  one_each = s.one_each;
  from = s.from;
  room = s.room;
  sound = λ k p b h l. to k _ (s.sound k p b h l);
  complete = λ k x d. s.complete k x (back k x d);
}

-- what is done after a pair more, in both directions
abbrev Both : (ℕ → ℕ → Type 0) → ℕ → ℕ → ℕ → ℕ → Type 0
Both Done a b x y = (Done x y ⊎ ((x ≡ a) × (y ≡ b))) ⊎ ((x ≡ b) × (y ≡ a))

Contains-last : (pairs : List (ℕ × ℕ)) (i : ℕ) → i < length pairs → (x y : ℕ) → x ≡ (pair_at pairs i).0 → y ≡ (pair_at pairs i).1 → Contains (take (i + 1) pairs) (x, y)
Contains-last pairs i h x y e f =
    let t = take_more pairs i (0, 0) h in
    let p : pair_at pairs i ≡ (x, y) = sym (ap (λ z. (z, y)) e ∙ ap (λ z. ((pair_at pairs i).0, z)) f) in
    rw t (subst (λ q. Contains (take i pairs ++ pair_at pairs i ∷ []) q) p (Contains-push (take i pairs) (pair_at pairs i)))

Contains-earlier : (pairs : List (ℕ × ℕ)) (i : ℕ) → i < length pairs → (q : ℕ × ℕ) → Contains (take i pairs) q → Contains (take (i + 1) pairs) q
Contains-earlier pairs i h q c = let t = take_more pairs i (0, 0) h in rw t (Contains-append_left (take i pairs) (pair_at pairs i ∷ []) q c)

pub to_more : (pairs : List (ℕ × ℕ)) (i : ℕ) → i < length pairs → (x y : ℕ) → Both (IsPair (take i pairs)) (pair_at pairs i).0 (pair_at pairs i).1 x y → IsPair (take (i + 1) pairs) x y
to_more pairs i h x y (inl (inl (inl c))) = inl (Contains-earlier pairs i h (x, y) c)
to_more pairs i h x y (inl (inl (inr c))) = inr (Contains-earlier pairs i h (y, x) c)
to_more pairs i h x y (inl (inr e)) = inl (Contains-last pairs i h x y e.0 e.1)
to_more pairs i h x y (inr e) = inr (Contains-last pairs i h y x e.1 e.0)

pub from_more : (pairs : List (ℕ × ℕ)) (i : ℕ) → i < length pairs → (x y : ℕ) → IsPair (take (i + 1) pairs) x y → Both (IsPair (take i pairs)) (pair_at pairs i).0 (pair_at pairs i).1 x y
from_more pairs i h x y (inl c) = elim (Contains-take_cases pairs i (0, 0) (x, y) h c) [
  | inl d ↦ inl (inl (inl d))
  | inr e ↦ inl (inr (ap (λ (q : ℕ × ℕ). q.0) (sym e), ap (λ (q : ℕ × ℕ). q.1) (sym e)))
]
from_more pairs i h x y (inr c) = elim (Contains-take_cases pairs i (0, 0) (y, x) h c) [
  | inl d ↦ inl (inl (inr d))
  | inr e ↦ inr (ap (λ (q : ℕ × ℕ). q.1) (sym e), ap (λ (q : ℕ × ℕ). q.0) (sym e))
]

-- filled with the first i pairs
abbrev pub FilledTo : List (ℕ × ℕ) → ℕ → List ℕ → List ℕ → List ℕ → Type 0
FilledTo pairs i starts next flat = IsFilling (IsPair (take i pairs)) (λ k. degree_of k (drop i pairs)) starts next flat

pub filled_none : (pairs : List (ℕ × ℕ)) (starts flat : List ℕ) (size : ℕ) → IsLaidOut pairs starts size → FilledTo pairs 0 starts starts flat
filled_none pairs starts flat size l = record {
  one_each = refl;
  from = λ k b. omega arith;
  room = λ k b. l.room k b;
  sound = λ k p b h t. absurd (omega arith);
  complete = λ k x d. absurd (elim d [ inl c ↦ let f = c.1 in omega arith | inr c ↦ let f = c.1 in omega arith ]);
}

pub filled_all : (pairs : List (ℕ × ℕ)) (i : ℕ) (starts next flat : List ℕ) (size : ℕ) → i ≡ length pairs → size ≡ length flat → IsLaidOut pairs starts size → FilledTo pairs i starts next flat
    → IsIndexOf pairs starts flat
filled_all pairs i starts next flat size e g l s =
    let none : (k : ℕ) → degree_of k (drop i pairs) ≡ 0 = λ k. ap (degree_of k) (drop_all i pairs (omega arith)) in
    let all : take i pairs ≡ pairs = take_all i pairs (omega arith) in
    record {
      rising = λ k b. let r = l.room k b in omega arith;
      within = λ k b. let w = l.within (suc k) b in omega arith;
      sound = λ k x b t. let r = s.room k b in let n = none k in let h = t.to in
          subst (λ ps. IsPair ps k x) all (subst (IsPair (take i pairs) k) t.is (s.sound k t.place b t.from (omega arith)));
      complete = λ k x d. let p = s.complete k x (subst (λ ps. IsPair ps k x) (sym all) d) in
          let r = s.room k p.small in let n = none k in let h = p.to in
          record { place = p.place; from = p.from; to = omega arith; is = p.is };
    }

-- the two writes of a pair
module _ (pairs : List (ℕ × ℕ)) (i : ℕ) (starts next flat : List ℕ) (size : ℕ) (h : i < length pairs) (g : size ≡ length flat) (l : IsLaidOut pairs starts size) (s : FilledTo pairs i starts next flat)
  where
    abbrev one : ℕ
    one = (pair_at pairs i).0

    abbrev other : ℕ
    other = (pair_at pairs i).1

    pub in_range : (suc one < length starts) × (suc other < length starts)
    in_range = l.below one other (Contains-get_or pairs i (0, 0) h)

    abbrev left : ℕ → ℕ
    left j = match_count j other + degree_of j (drop (i + 1) pairs)

    pub first_place : get_or next one 0 < length flat
    first_place =
        let b = in_range.0 in
        let r = s.room one b in
        let w = l.within (suc one) b in
        let c = degree_of-drop one pairs i h in
        let o = match_count_same one one refl in
        omega arith

    half_way : IsFilling (λ x y. IsPair (take i pairs) x y ⊎ ((x ≡ one) × (y ≡ other))) left starts (raise next one) (set flat (get_or next one 0) other)
    half_way = put_one (λ k. degree_of k (drop i pairs)) starts next flat one other (ordered pairs starts size l) s in_range.0 left (λ j. let c = degree_of-drop j pairs i h in omega arith) first_place

    pub second_place : get_or (raise next one) other 0 < length flat
    second_place =
        let b = in_range.1 in
        let r = half_way.room other b in
        let w = l.within (suc other) b in
        let o = match_count_same other other refl in
        omega arith

    pub filled_more : FilledTo pairs (i + 1) starts (raise (raise next one) other) (set (set flat (get_or next one 0) other) (get_or (raise next one) other 0) one)
    filled_more =
        let long = length-set flat (get_or next one 0) other in
        let p = second_place in
        reworded (λ k. degree_of k (drop (i + 1) pairs)) _ _ _ (to_more pairs i h) (from_more pairs i h)
        (put_one left starts (raise next one) (set flat (get_or next one 0) other) other one (ordered pairs starts size l) half_way in_range.1 (λ k. degree_of k (drop (i + 1) pairs))
        (λ j. omega arith)
        (omega arith))
