-- what the rectangles of two lists have in common, as two searches find it
use Rattle.std.proofs.Common.{ℕ, Bool, List, [], ◌∷◌, ◌+◌, ◌*◌, ◌<◌, ◌≤◌, ◌≡◌, ◌∙◌, refl, sym, ap, cond, if◌then◌else◌, true, false, inl, inr, arith, nat_lt, ◌&&◌, ◌==◌, sum_by, count_by, add-zero, mul_comm, zero-add}
use Rattle.lists.proofs.Words.{cases_Bool, cases_lt, sum_by-cons}
use Rattle.std.proofs.lemmas.Bool.{le-ltb, lt-ltb}
use Rattle.geo_core.specs.declared.plane.Cell.{Cell}
use Rattle.geo_core.specs.declared.plane.Rect.{Rect}
use Rattle.fault_model.specs.FaultNames.{cells_of}
use Rattle.skyline_runs.specs.Depths.{has_cell}
use Rattle.net_pairs.specs.declared.weighted.Lesser.TheVariants.{Point, Span}
use Rattle.net_pairs.specs.declared.weighted.Weighted.{Weighted}
use Rattle.net_pairs.specs.inside.Dense.{common_weight}
use Rattle.net_pairs.specs.inside.Meetings.{GainsSum, common_cells, meeting, meetings_of}
use Rattle.net_pairs.specs.inside.Sums.{cells_if}
use Rattle.net_pairs.proofs.DoubleSums.{sum_of_zeros, sums_added, sums_agree, sums_swapped}
use Rattle.net_pairs.proofs.MeetingTallies.{one_earlier}
use Rattle.net_pairs.proofs.RestLaws.{rest_chained}
use Rattle.net_pairs.proofs.SumLaws.{Item, of_pair_or_not}

-- ---- sums of products

module _ {X : Type 0} where
  times_left : (k : ℕ) (f : X → ℕ) (xs : List X) → sum_by (λ x. k * f x) xs ≡ k * sum_by f xs
  times_left k f [] = omega arith
  times_left k f (x ∷ xs) =
      let whole : k * sum_by f (x ∷ xs) ≡ k * f x + k * sum_by f xs = rw (sum_by-cons f x xs) (omega arith) in
      let a = sum_by-cons (λ y. k * f y) x xs in
      let rest = times_left k f xs in
      omega (arith, whole, a, rest)

  times_right : (k : ℕ) (f : X → ℕ) (xs : List X) → sum_by (λ x. f x * k) xs ≡ sum_by f xs * k
  times_right k f xs = sums_agree (λ x. f x * k) (λ x. k * f x) xs (λ x h. mul_comm (f x) k) ∙ times_left k f xs ∙ mul_comm k (sum_by f xs)

module _ {X Y Z : Type 0} (f : X → Z → ℕ) (g : Y → Z → ℕ) (xs : List X) (ys : List Y) (zs : List Z) where
  one_multiplied : (x : X) → sum_by (λ y. sum_by (λ z. f x z * g y z) zs) ys ≡ sum_by (λ z. f x z * sum_by (λ y. g y z) ys) zs
  one_multiplied x =
      sums_swapped (λ y z. f x z * g y z) ys zs
      ∙ sums_agree (λ z. sum_by (λ y. f x z * g y z) ys) (λ z. f x z * sum_by (λ y. g y z) ys) zs (λ z h. times_left (f x z) (λ y. g y z) ys)

  sums_multiplied : sum_by (λ x. sum_by (λ y. sum_by (λ z. f x z * g y z) zs) ys) xs ≡ sum_by (λ z. sum_by (λ x. f x z) xs * sum_by (λ y. g y z) ys) zs
  sums_multiplied =
      sums_agree (λ x. sum_by (λ y. sum_by (λ z. f x z * g y z) zs) ys) (λ x. sum_by (λ z. f x z * sum_by (λ y. g y z) ys) zs) xs (λ x h. one_multiplied x)
      ∙ sums_swapped (λ x z. f x z * sum_by (λ y. g y z) ys) xs zs
      ∙ sums_agree (λ z. sum_by (λ x. f x z * sum_by (λ y. g y z) ys) xs) (λ z. sum_by (λ x. f x z) xs * sum_by (λ y. g y z) ys) zs (λ z h. times_right (sum_by (λ y. g y z) ys) (λ x. f x z) xs)

-- ---- cells that two tests pass

module _ (a b : ℕ) (p q : Cell → Bool) where
  weighed_count : (cs : List Cell) → a * b * count_by (λ c. p c && q c) cs ≡ sum_by (λ c. (if p c then a else 0) * (if q c then b else 0)) cs
  weighed_count [] = omega arith
  weighed_count (c ∷ cs) =
      let n : count_by (λ d. p d && q d) (c ∷ cs) ≡ cond (p c && q c) 1 0 + count_by (λ d. p d && q d) cs = sum_by-cons (λ d. cond (p d && q d) 1 0) c cs in
      let whole : a * b * count_by (λ d. p d && q d) (c ∷ cs) ≡ a * b * cond (p c && q c) 1 0 + a * b * count_by (λ d. p d && q d) cs = rw n (spread (a * b) (cond (p c && q c) 1 0) (count_by (λ d. p d && q d) cs)) in
      let s = sum_by-cons (λ d. (if p d then a else 0) * (if q d then b else 0)) c cs in
      let here = both (p c) (q c) in
      let rest = weighed_count cs in
      omega (arith, whole, s, here, rest)
    where
      spread : (k m n : ℕ) → k * (m + n) ≡ k * m + k * n
      spread k m n = omega arith

      both : (s t : Bool) → a * b * cond (s && t) 1 0 ≡ (if s then a else 0) * (if t then b else 0)
      both true true = omega arith
      both true false = omega arith
      both false t = omega arith

  -- where two more tests that know no cell pass
  tested_count : (s t : Bool) (cs : List Cell) → (if s && t then a * b * count_by (λ c. p c && q c) cs else 0) ≡ sum_by (λ c. (if s && p c then a else 0) * (if t && q c then b else 0)) cs
  tested_count true true cs = weighed_count cs
  tested_count true false cs = sym (sum_of_zeros (λ c. (if p c then a else 0) * 0) cs (λ c h. mul_comm (if p c then a else 0) 0 ∙ omega arith))
  tested_count false t cs = sym (sum_of_zeros (λ c. 0 * (if t && q c then b else 0)) cs (λ c h. omega arith))

turned : (p q : Cell → Bool) (cs : List Cell) → count_by (λ c. p c && q c) cs ≡ count_by (λ c. q c && p c) cs
turned p q cs = sums_agree (λ c. cond (p c && q c) 1 0) (λ c. cond (q c && p c) 1 0) cs (λ c h. ap (λ (b : Bool). cond b 1 0) (and_turned (p c) (q c))) where
  and_turned : (s t : Bool) → (s && t) ≡ (t && s)
  and_turned true true = refl
  and_turned true false = refl
  and_turned false true = refl
  and_turned false false = refl

-- ---- two rectangles

abbrev pub weight_if : ℕ → Cell → Weighted → ℕ
weight_if label c x = if x.label == label && has_cell c x.rect then x.weight else 0

module _ (window : Rect) (one other : ℕ) (x y : Weighted) where
  -- what both have in common, where the first has the one label and the second has the other
  abbrev shared : ℕ
  shared = cells_if one other (x.label, y.label, x.weight * y.weight * common_cells window x.rect y.rect)

  shared_is : shared ≡ sum_by (λ c. weight_if one c x * weight_if other c y) (cells_of window)
  shared_is = tested_count x.weight y.weight (λ c. has_cell c x.rect) (λ c. has_cell c y.rect) (x.label == one) (y.label == other) (cells_of window)

  first_lesser : x.label < y.label → meeting window Point x y one other + meeting window Span y x one other ≡ shared
  first_lesser less =
      let l = lt-ltb x.label y.label less in
      let m = le-ltb y.label x.label (le_of_lt less) in
      elim (one_earlier x y less) [
        | inl h ↦ rw (h.0, h.1, l, m) (add-zero shared)
        | inr h ↦ rw (h.0, h.1, l) (zero-add _ ∙ back)
      ]
    where
      le_of_lt : {a b : ℕ} → a < b → a ≤ b
      le_of_lt h = omega arith

      back : cells_if one other (x.label, y.label, y.weight * x.weight * common_cells window y.rect x.rect) ≡ shared
      back =
          let e = turned (λ c. has_cell c y.rect) (λ c. has_cell c x.rect) (cells_of window) in
          ap (λ n. cells_if one other (x.label, y.label, n)) (ap (λ n. y.weight * x.weight * n) e ∙ ap (λ n. n * common_cells window x.rect y.rect) (mul_comm y.weight x.weight))

  not_lesser : y.label ≤ x.label → meeting window Point x y one other + meeting window Span y x one other ≡ 0
  not_lesser more = let f = le-ltb x.label y.label more in rw f refl

  none_shared : y.label ≤ x.label → one < other → shared ≡ 0
  none_shared more less = elim (of_pair_or_not one other (x.label, y.label, x.weight * y.weight * common_cells window x.rect y.rect)) [
    | inl h ↦ let e = h.0 in let f = h.1 in absurd (omega arith)
    | inr h ↦ h.1
  ]

  never_shared : x.label < y.label → other ≤ one → shared ≡ 0
  never_shared less more = elim (of_pair_or_not one other (x.label, y.label, x.weight * y.weight * common_cells window x.rect y.rect)) [
    | inl h ↦ let e = h.0 in let f = h.1 in absurd (omega arith)
    | inr h ↦ h.1
  ]

  -- both searches together find it once
  found : meeting window Point x y one other + meeting window Span y x one other ≡ (if nat_lt one other then shared else 0)
  found = elim (cases_lt x.label y.label) [
    | inl less ↦ elim (cases_lt one other) [
      | inl l ↦ rw (lt-ltb one other l) (first_lesser less)
      | inr l ↦ rw (le-ltb one other l) (first_lesser less ∙ never_shared less l)
    ]
    | inr more ↦ elim (cases_lt one other) [
      | inl l ↦ rw (lt-ltb one other l) (not_lesser more ∙ sym (none_shared more l))
      | inr l ↦ rw (le-ltb one other l) (not_lesser more)
    ]
  ]

-- ---- two lists

module _ (window : Rect) (lessers greaters : List Weighted) (one other : ℕ) where
  all_found : meetings_of window Point lessers greaters one other + meetings_of window Span greaters lessers one other
      ≡ sum_by (λ x. sum_by (λ y. if nat_lt one other then shared window one other x y else 0) greaters) lessers
  all_found =
      ap (λ n. meetings_of window Point lessers greaters one other + n) (sums_swapped (λ y x. meeting window Span y x one other) greaters lessers)
      ∙ sym (sums_added (λ x. sum_by (λ y. meeting window Point x y one other) greaters) (λ x. sum_by (λ y. meeting window Span y x one other) greaters) lessers)
      ∙ sums_agree (λ x. sum_by (λ y. meeting window Point x y one other) greaters + sum_by (λ y. meeting window Span y x one other) greaters) (λ x. sum_by (λ y. if nat_lt one other then shared window one other x y else 0) greaters) lessers (λ x h.
      sym (sums_added (λ y. meeting window Point x y one other) (λ y. meeting window Span y x one other) greaters)
      ∙ sums_agree (λ y. meeting window Point x y one other + meeting window Span y x one other) (λ y. if nat_lt one other then shared window one other x y else 0) greaters (λ y k. found window one other x y))

  -- both searches together add what the lists have in common
  pub searches_add : meetings_of window Point lessers greaters one other + meetings_of window Span greaters lessers one other ≡ common_weight window lessers greaters one other
  searches_add = all_found ∙ elim (cases_Bool (nat_lt one other)) [
    | inl t ↦ rw t (
        sums_agree (λ x. sum_by (shared window one other x) greaters) (λ x. sum_by (λ y. sum_by (λ c. weight_if one c x * weight_if other c y) (cells_of window)) greaters) lessers (λ x h.
        sums_agree (shared window one other x) (λ y. sum_by (λ c. weight_if one c x * weight_if other c y) (cells_of window)) greaters (λ y k. shared_is window one other x y))
        ∙ sums_multiplied (λ x c. weight_if one c x) (λ y c. weight_if other c y) lessers greaters (cells_of window))
    | inr t ↦ rw t (sum_of_zeros (λ x. sum_by (λ y. 0) greaters) lessers (λ x h. sum_of_zeros (λ y. 0) greaters (λ y k. refl)))
  ]

pub common_gained : (window : Rect) (lessers greaters : List Weighted) {old mid new : List Item} → GainsSum (meetings_of window Point lessers greaters) old mid → GainsSum (meetings_of window Span greaters lessers) mid new
    → GainsSum (common_weight window lessers greaters) old new
common_gained window lessers greaters here there =
    record { sum = λ one other. rest_chained _ _ _ (searches_add window lessers greaters one other) (here.sum one other) (there.sum one other) }
