-- what runs add with one another is how many cells of the window lie in runs of both labels
use Rattle.std.proofs.Common.{ℕ, ℤ, ◌<ℤ◌, ◌≤ℤ◌, if◌then◌else◌, Bool, List, [], ◌∷◌, ◌+◌, ◌*◌, ◌<◌, ◌≤◌, ◌≡◌, ◌∙◌, ◌⊎◌, ◌↔◌, map, suc, zero, refl, sym, ap, subst, not, true, false, inl, inr, arith, length, All, AllPairs, Contains, sum_by, nat_lt, ◌&&◌, ◌||◌}
use Rattle.lists.proofs.Words.{ints, le_z, lt_z, sum_by-cons, sum_by-IsPermutation, cases_Bool, cases_lt, by_lt_z, eq-eqb, eqb_tells, ne_eqb, All-contains, IsPermutation}
use Rattle.lists.proofs.Containing.{Contains-cons_cases, Contains-head, Contains-none, Contains-tail}
use Rattle.lists.proofs.Differing.{AllPairs-tail}
use Rattle.geo_core.specs.Plane.{Has}
use Rattle.geo_core.specs.declared.plane.Cell.{Cell}
use Rattle.geo_core.specs.declared.plane.Labelled.{Labelled}
use Rattle.geo_core.specs.declared.plane.Rect.{Rect}
use Rattle.fault_model.specs.FaultNames.{Tally, cells_of}
use Rattle.fault_model.proofs.PartTallies.{Tally-either}
use Rattle.fault_model.proofs.TallyLaws.{Tally-none, Tally-same_all}
use Rattle.std.proofs.lemmas.Bool.{le-ltb, lt-ltb}
use Rattle.short_area.specs.Zones.{IsInLabel}
use Rattle.net_pairs.specs.declared.weighted.Lesser.TheVariants.{Either}
use Rattle.net_pairs.specs.declared.weighted.Weighted.{Weighted}
use Rattle.net_pairs.specs.inside.PairGains.{GainsCells, IsInBoth}
use Rattle.net_pairs.specs.inside.RunsOfLabels.{IsApart}
use Rattle.net_pairs.specs.inside.Meetings.{GainsSum, common_cells, common_item, counted_once, is_earlier, meeting, meetings_of, meetings_with}
use Rattle.net_pairs.specs.inside.Sums.{cells_if}
use Rattle.net_pairs.proofs.DoubleSums.{sum_of_zeros, sums_agree, sums_both_ways}
use Rattle.net_pairs.proofs.MeetingLaws.{both_meet, common_is, common_tally, not_admitted, not_earlier}
use Rattle.net_pairs.proofs.SumLaws.{Item, of_pair_or_not}

-- ---- a run with this label among others

in_label_cases : (y : Labelled) (ys : List Labelled) (label : ℕ) (c : Cell) → IsInLabel (y ∷ ys) label c → ((y.label ≡ label) × Has y.rect c) ⊎ IsInLabel ys label c
in_label_cases y ys label c h = elim (Contains-cons_cases y ys h.zone h.among) [
  | inl e ↦ inl (ap (λ (z : Labelled). z.label) e ∙ h.labelled, subst (λ (z : Labelled). Has z.rect c) (sym e) h.has)
  | inr k ↦ inr (record { zone = h.zone; among = k; labelled = h.labelled; has = h.has })
]

in_label_first : (y : Labelled) (ys : List Labelled) (label : ℕ) (c : Cell) → y.label ≡ label → Has y.rect c → IsInLabel (y ∷ ys) label c
in_label_first y ys label c e h = record { zone = y; among = Contains-head y ys; labelled = e; has = h }

in_label_later : (y : Labelled) (ys : List Labelled) (label : ℕ) (c : Cell) → IsInLabel ys label c → IsInLabel (y ∷ ys) label c
in_label_later y ys label c h = record { zone = h.zone; among = Contains-tail y ys h.zone h.among; labelled = h.labelled; has = h.has }

-- the first run and a later one of its label have no cell in common
never_twice : (y : Labelled) (ys : List Labelled) → AllPairs IsApart (y ∷ ys) → (label : ℕ) (c : Cell) → y.label ≡ label → Has y.rect c → IsInLabel ys label c → ⊥
never_twice y ys apart label c e h k =
    let behind : All (IsApart y) ys = λ n d within. apart zero (suc n) d (omega arith) (omega arith) in
    let l = k.labelled in
    elim (All-contains (IsApart y) ys k.zone behind k.among) [ inl less ↦ absurd (omega arith) | inr both ↦ both.1 (c, h, k.has) ]

-- ---- which of two begins earlier

z_lt : (a b : ℤ) → a <ℤ b → lt_z a b ≡ true
z_lt a b h = grind (arith, ints)

z_not_lt : (a b : ℤ) → b ≤ℤ a → lt_z a b ≡ false
z_not_lt a b h = grind (arith, ints)

z_le : (a b : ℤ) → a ≤ℤ b → le_z a b ≡ true
z_le a b h = grind (arith, ints)

z_not_le : (a b : ℤ) → b <ℤ a → le_z a b ≡ false
z_not_le a b h = grind (arith, ints)

less_le_z : (a b : ℤ) → a <ℤ b → a ≤ℤ b
less_le_z a b h = omega (arith, ints)

earlier_before : (span point : Weighted) → span.rect.x0 <ℤ point.rect.x0 → is_earlier span point ≡ true
earlier_before span point h = rw (z_lt span.rect.x0 point.rect.x0 h) refl

not_earlier_before : (point span : Weighted) → point.rect.x0 <ℤ span.rect.x0 → is_earlier span point ≡ false
not_earlier_before point span h = rw (z_not_lt span.rect.x0 point.rect.x0 (less_le_z point.rect.x0 span.rect.x0 h), z_not_le span.rect.x0 point.rect.x0 h) refl

earlier_lesser : (span point : Weighted) → span.label < point.label → span.rect.x0 ≤ℤ point.rect.x0 → is_earlier span point ≡ true
earlier_lesser span point less h = rw (lt-ltb span.label point.label less, z_le span.rect.x0 point.rect.x0 h) (or_true (lt_z span.rect.x0 point.rect.x0)) where
  or_true : (t : Bool) → (t || true) ≡ true
  or_true true = refl
  or_true false = refl

not_earlier_lesser : (point span : Weighted) → point.label < span.label → point.rect.x0 ≤ℤ span.rect.x0 → is_earlier span point ≡ false
not_earlier_lesser point span less h = rw (z_not_lt span.rect.x0 point.rect.x0 h, le-ltb span.label point.label (less_le less)) (and_false (le_z span.rect.x0 point.rect.x0)) where
  less_le : {a b : ℕ} → a < b → a ≤ b
  less_le k = omega arith

  and_false : (t : Bool) → (t && false) ≡ false
  and_false true = refl
  and_false false = refl

-- of two with labels that differ one begins earlier, and the other one does not
pub one_earlier : (x y : Weighted) → x.label < y.label → ((is_earlier y x ≡ true) × (is_earlier x y ≡ false)) ⊎ ((is_earlier y x ≡ false) × (is_earlier x y ≡ true))
one_earlier x y less = by_lt_z y.rect.x0 x.rect.x0
    (λ h. inl (earlier_before y x h, not_earlier_before y x h))
    (λ h. inr (not_earlier_lesser x y less h, earlier_lesser x y less h))

-- ---- two runs

common_turned : (window one other : Rect) → common_cells window one other ≡ common_cells window other one
common_turned window one other = common_is window one other (common_cells window other one)
    (Tally-same_all (cells_of window) (common_cells window other one) (λ c. (λ h. (h.1, h.0), λ h. (h.1, h.0))) (common_tally window other one))

module _ (window : Rect) (one other : ℕ) where
  -- what the two add where the first has the one label and the second the other label
  abbrev pub in_order : Labelled → Labelled → ℕ
  in_order x y = cells_if one other (x.label, y.label, common_cells window x.rect y.rect)

  falls : (x y : Labelled) → one < other → y.label ≤ x.label → in_order x y ≡ 0
  falls x y lesser more = elim (of_pair_or_not one other (x.label, y.label, common_cells window x.rect y.rect)) [
    | inl h ↦ let a = h.0 in let b = h.1 in absurd (omega arith)
    | inr h ↦ h.1
  ]

  no_item : (a b n : ℕ) → other ≤ one → (a ≡ b → ⊥) → cells_if one other (if nat_lt a b then a else b, if nat_lt a b then b else a, n) ≡ 0
  no_item a b n more differ = elim (cases_lt a b) [
    | inl l ↦ rw (lt-ltb a b l) (elim (of_pair_or_not one other (a, b, n)) [ inl h ↦ let e = h.0 in let f = h.1 in absurd (omega arith) | inr h ↦ h.1 ])
    | inr l ↦ rw (le-ltb a b l) (elim (of_pair_or_not one other (b, a, n)) [ inl h ↦ let e = h.0 in let f = h.1 in absurd (differ (omega arith)) | inr h ↦ h.1 ])
  ]

  -- a run as a point and another one as a span
  abbrev pub met : Labelled → Labelled → ℕ
  met x y = meeting window Either (counted_once x) (counted_once y) one other

  -- runs of one label add nothing
  alike : (x y : Labelled) → x.label ≡ y.label → met x y ≡ 0
  alike x y e = not_admitted window Either (counted_once x) (counted_once y) one other (rw (eq-eqb y.label x.label (sym e)) refl)

  -- one label is no lesser label
  pub no_lesser : other ≤ one → (x y : Labelled) → met x y ≡ 0
  no_lesser more x y = elim (eqb_tells y.label x.label) [
    | inl h ↦ alike x y (sym h.1)
    | inr h ↦ elim (cases_Bool (is_earlier (counted_once y) (counted_once x))) [
      | inl t ↦ both_meet window Either (counted_once x) (counted_once y) one other (rw h.0 refl) t ∙ no_item y.label x.label (1 * 1 * common_cells window x.rect y.rect) more h.1
      | inr t ↦ not_earlier window Either (counted_once x) (counted_once y) one other t
    ]
  ]

  module _ (x y : Labelled) where
    -- labels that differ
    rises : x.label < y.label → met x y + met y x ≡ in_order x y
    rises less =
        let n = common_cells window x.rect y.rect in
        let there : cells_if one other (common_item window (counted_once x) (counted_once y)) ≡ in_order x y = rw (le-ltb y.label x.label (le_of_lt less), once n) refl in
        let back : cells_if one other (common_item window (counted_once y) (counted_once x)) ≡ in_order x y = rw (lt-ltb x.label y.label less, once (common_cells window y.rect x.rect), common_turned window y.rect x.rect) refl in
        elim (one_earlier (counted_once x) (counted_once y) less) [
          | inl h ↦ first_only _ _ _ (both_meet window Either (counted_once x) (counted_once y) one other (rw (ne_eqb y.label x.label (not_same less)) refl) h.0 ∙ there)
              (not_earlier window Either (counted_once y) (counted_once x) one other h.1)
          | inr h ↦ second_only _ _ _ (both_meet window Either (counted_once y) (counted_once x) one other (rw (ne_eqb x.label y.label (λ e. not_same less (sym e))) refl) h.1 ∙ back)
              (not_earlier window Either (counted_once x) (counted_once y) one other h.0)
        ]
      where
        once : (n : ℕ) → 1 * 1 * n ≡ n
        once n = omega arith

        le_of_lt : {a b : ℕ} → a < b → a ≤ b
        le_of_lt l = omega arith

        not_same : {a b : ℕ} → a < b → b ≡ a → ⊥
        not_same l e = omega arith

        first_only : (m n k : ℕ) → m ≡ k → n ≡ 0 → m + n ≡ k
        first_only m n k e f = omega arith

        second_only : (m n k : ℕ) → n ≡ k → m ≡ 0 → m + n ≡ k
        second_only m n k e f = omega arith

  two_of : one < other → (x y : Labelled) → met x y + met y x ≡ in_order x y + in_order y x
  two_of lesser x y = elim (cases_lt x.label y.label) [
    | inl less ↦ let a = rises x y less in let z = falls y x lesser (omega arith) in omega (arith, a, z)
    | inr rest ↦ elim (cases_lt y.label x.label) [
      | inl less ↦ let a = rises y x less in let z = falls x y lesser (omega arith) in omega (arith, a, z)
      | inr also ↦
          let a = alike x y (omega arith) in let b = alike y x (omega arith) in
          let z = falls x y lesser (omega arith) in let w = falls y x lesser (omega arith) in omega (arith, a, b, z, w)
    ]
  ]

  -- ---- a run with all runs of the other label

  inner : (x : Labelled) (ys : List Labelled) → AllPairs IsApart ys → Tally (λ c. (x.label ≡ one) × Has x.rect c × IsInLabel ys other c) (cells_of window) (sum_by (in_order x) ys)
  inner x [] apart = Tally-none (cells_of window) (λ c among h. Contains-none h.2.among)
  inner x (y ∷ ys) apart =
      let rest = inner x ys (AllPairs-tail IsApart y ys apart) in
      let sum = sum_by-cons (in_order x) y ys in
      elim (of_pair_or_not one other (x.label, y.label, common_cells window x.rect y.rect)) [
        | inl h ↦
            let e : common_cells window x.rect y.rect + sum_by (in_order x) ys ≡ sum_by (in_order x) (y ∷ ys) = let here = h.2 in omega (arith, sum, here) in
            subst (Tally (λ c. (x.label ≡ one) × Has x.rect c × IsInLabel (y ∷ ys) other c) (cells_of window)) e
            (Tally-same_all (cells_of window) (common_cells window x.rect y.rect + sum_by (in_order x) ys) (λ c. (
              λ k. elim k [
                | inl l ↦ (h.0, l.0, in_label_first y ys other c h.1 l.1)
                | inr l ↦ (l.0, l.1, in_label_later y ys other c l.2)
              ],
              λ k. elim (in_label_cases y ys other c k.2) [ inl l ↦ inl (k.1, l.1) | inr l ↦ inr (k.0, k.1, l) ],
            )) (Tally-either (cells_of window) (common_cells window x.rect y.rect) (sum_by (in_order x) ys) (λ c k l. never_twice y ys apart other c h.1 k.1 l.2) (common_tally window x.rect y.rect) rest))
        | inr h ↦
            let e : sum_by (in_order x) ys ≡ sum_by (in_order x) (y ∷ ys) = let here = h.1 in omega (arith, sum, here) in
            subst (Tally (λ c. (x.label ≡ one) × Has x.rect c × IsInLabel (y ∷ ys) other c) (cells_of window)) e
            (Tally-same_all (cells_of window) (sum_by (in_order x) ys) (λ c. (
              λ k. (k.0, k.1, in_label_later y ys other c k.2),
              λ k. elim (in_label_cases y ys other c k.2) [ inl l ↦ absurd (h.0 (k.0, l.0)) | inr l ↦ (k.0, k.1, l) ],
            )) rest)
      ]

  -- all runs of the one label with all runs of the other
  outer : (xs ys : List Labelled) → AllPairs IsApart xs → AllPairs IsApart ys
      → Tally (λ c. IsInLabel xs one c × IsInLabel ys other c) (cells_of window) (sum_by (λ x. sum_by (in_order x) ys) xs)
  outer [] ys apart also = Tally-none (cells_of window) (λ c among h. Contains-none h.0.among)
  outer (x ∷ xs) ys apart also =
      let rest = outer xs ys (AllPairs-tail IsApart x xs apart) also in
      subst (Tally (λ c. IsInLabel (x ∷ xs) one c × IsInLabel ys other c) (cells_of window)) (sym (sum_by-cons (λ z. sum_by (in_order z) ys) x xs))
      (Tally-same_all (cells_of window) (sum_by (in_order x) ys + sum_by (λ z. sum_by (in_order z) ys) xs) (λ c. (
        λ k. elim k [
          | inl l ↦ (in_label_first x xs one c l.0 l.1, l.2)
          | inr l ↦ (in_label_later x xs one c l.0, l.1)
        ],
        λ k. elim (in_label_cases x xs one c k.0) [ inl l ↦ inl (l.0, l.1, k.1) | inr l ↦ inr (l, k.1) ],
      )) (Tally-either (cells_of window) (sum_by (in_order x) ys) (sum_by (λ z. sum_by (in_order z) ys) xs) (λ c k l. never_twice x xs apart one c k.0 k.1 l.0) (inner x ys also) rest))

-- ---- all runs, in another order

sum_by_map : {X Y : Type 0} (f : X → Y) (g : Y → ℕ) (xs : List X) → sum_by g (map f xs) ≡ sum_by (λ x. g (f x)) xs
sum_by_map f g [] = refl
sum_by_map f g (x ∷ xs) = let a = sum_by-cons g (f x) (map f xs) in let b = sum_by-cons (λ z. g (f z)) x xs in let rest = sum_by_map f g xs in omega (arith, a, b, rest)

module _ (window : Rect) (runs : List Labelled) (sorted : List Weighted) (moved : IsPermutation (map counted_once runs) sorted) (apart : AllPairs IsApart runs) where
  -- a sum over the list in another order
  moved_sum : (f : Weighted → ℕ) → sum_by (λ x. f (counted_once x)) runs ≡ sum_by f sorted
  moved_sum f = sym (sum_by_map counted_once f runs) ∙ sym (sum_by-IsPermutation f (map counted_once runs) sorted moved)

  same_meetings : (one other : ℕ) → sum_by (λ x. sum_by (met window one other x) runs) runs ≡ meetings_of window Either sorted sorted one other
  same_meetings one other =
      sums_agree (λ x. sum_by (met window one other x) runs) (λ x. meetings_with window Either (counted_once x) sorted one other) runs (λ x h. moved_sum (λ y. meeting window Either (counted_once x) y one other))
      ∙ moved_sum (λ x. meetings_with window Either x sorted one other)

  pub meetings_tally : (one other : ℕ) → Tally (IsInBoth runs one other) (cells_of window) (meetings_of window Either sorted sorted one other)
  meetings_tally one other = subst (Tally (IsInBoth runs one other) (cells_of window)) (same_meetings one other) (elim (cases_lt one other) [
    | inl lesser ↦
        subst (Tally (IsInBoth runs one other) (cells_of window)) (sym (sums_both_ways (met window one other) (in_order window one other) runs (two_of window one other lesser)))
        (Tally-same_all (cells_of window) (sum_by (λ x. sum_by (in_order window one other x) runs) runs) (λ c. (
          λ h. record { lesser = lesser; in_one = h.0; in_other = h.1 },
          λ h. (h.in_one, h.in_other),
        )) (outer window one other runs runs apart apart))
    | inr more ↦
        let none = sum_of_zeros (λ x. sum_by (met window one other x) runs) runs (λ x h. sum_of_zeros (met window one other x) runs (λ y k. no_lesser window one other more x y)) in
        subst (Tally (IsInBoth runs one other) (cells_of window)) (sym none) (Tally-none (cells_of window) (λ c among h. let l = h.lesser in absurd (omega arith)))
  ])

  pub meetings_gained : (old new : List Item) → GainsSum (meetings_of window Either sorted sorted) old new → GainsCells (IsInBoth runs) window old new
  meetings_gained old new gains one other = record { cells = meetings_of window Either sorted sorted one other; tally = meetings_tally one other; sum = gains.sum one other }
