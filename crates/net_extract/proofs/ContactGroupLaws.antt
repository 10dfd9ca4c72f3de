-- contact pieces in the order of their islands, group by group
use Rattle.std.proofs.Common.{ℕ, ◌+◌, ◌<◌, ◌≤◌, ◌≡◌, refl, sym, ap, ◌∙◌, subst, List, [], ◌∷◌, ◌++◌, Bool, true, false, not, ◌&&◌, ◌==◌, inl, inr, ◌⊎◌, length, take, drop, map, get_or, nat_cmp, arith, All, Contains, Some, slice_get, filter, take_all}
use Rattle.lists.proofs.Words.{is_lt, Ordering, nat_tests, IsSortedByKey, IsPermutation, Called, ComputesKey, always_returns_same, ranks_by, sorted_far, filter-append, take-append-drop, append-nil, map-append, length-drop, All-nil, All-push, All-contains, Contains-append_cases, Contains-append_left, Contains-append_right, Contains-push, Contains-push_cases, Contains-permutation, leb_tells, get_or_default, get_or_from_slice_get, slice_get_within, cases_Bool, drop-drop}
use Rattle.std.specs.Ordering.{ordering_then}
use Rattle.std.specs.Cmp.{IsTotalOrder}
use Rattle.std.specs.List.Sorted.{IsStableByKey}
use Rattle.std.proofs.lemmas.Cmp.{nat_cmp_total, on_total, then_total, ranked, by_ranked}
use Rattle.std.proofs.Math.Seq.{take-add}
use Rattle.std.proofs.lemmas.List.{get_or-drop}
use Rattle.std.proofs.lemmas.List.Elements.{filter_agree}
use denote.Param.Members.{Mut}
use denote.Ref.{Bor}
use Rattle.lists.specs.Differing.{AreDifferent}
use Rattle.lists.proofs.Containing.{Contains-none, Contains-slice_get, all_of_each}
use Rattle.lists.proofs.Differing.{different_more}
use Rattle.net_extract.specs.ContactGroups.{AreGroupsOf, carries_both, ends_of_contact, ends_of_group, rects_between}
use Rattle.net_extract.specs.inside.GroupSteps.{AreByIslands, AreFirstGroups, IsFrontOf, IsNoLater}
use Rattle.net_extract.specs.declared.pieces.ContactGroup.{ContactGroup}
use Rattle.net_extract.specs.declared.pieces.ContactPiece.{ContactPiece}
use Rattle.net_extract.proofs.GroupLaws.{none_kept, all_kept}
use Rattle.net_extract.proofs.laws.CarryLaws.{carries_tells, told_carries}
use Rattle.net_extract.proofs.laws.UnitLaws.{unit}

-- ---- the order of the sort

-- how a sort compares pairs of numbers
abbrev pub pair_cmp : ℕ × ℕ → ℕ × ℕ → Ordering
pair_cmp x y = ordering_then (nat_cmp x.0 y.0) (nat_cmp x.1 y.1)

pair_total : IsTotalOrder pair_cmp
pair_total = then_total (on_total (λ (p : ℕ × ℕ). p.0) nat_cmp_total) (on_total (λ (p : ℕ × ℕ). p.1) nat_cmp_total)

not_less : (a b : ℕ) → is_lt (nat_cmp a b) ≡ false → b ≤ a
not_less a b h = grind (arith, nat_tests)

no_later : (a b c d : ℕ) → is_lt (ordering_then (nat_cmp c a) (nat_cmp d b)) ≡ false → (a < c) ⊎ ((a ≡ c) × (b ≤ d))
no_later a b c d h = by_ranked (c < a) (c ≡ a) (a < c) (nat_cmp c a) (ranked c a (nat_cmp c a) refl)
    (λ e less. let f = subst (λ o. is_lt (ordering_then o (nat_cmp d b)) ≡ false) e h in absurd (cc f))
    (λ e same. let f = subst (λ o. is_lt (ordering_then o (nat_cmp d b)) ≡ false) e h in inr (sym same, not_less d b f))
    (λ e more. inl more)

AreByIslands-from_sorted : (xs : List ContactPiece) → IsSortedByKey ends_of_contact pair_cmp xs → AreByIslands xs
AreByIslands-from_sorted xs up i j d before within =
    let a = get_or xs i d in
    let b = get_or xs j d in
    no_later a.lower a.upper b.lower b.upper (sorted_far (λ x y. is_lt (pair_cmp (ends_of_contact x) (ends_of_contact y))) (ranks_by pair_total ends_of_contact) xs up i j d (omega arith) within)

pub ordered_by_sort : {F : Type 0} {g : Mut F (Bor ContactPiece × Unit {0}) (ℕ × ℕ)} {f : F} (xs : List ContactPiece)
    → ((key : ContactPiece → ℕ × ℕ) → ComputesKey g key f → IsSortedByKey key pair_cmp xs)
    → ((a : Bor ContactPiece × Unit {0}) (r : ℕ × ℕ) (f' : F) → Called g f a r f' → (r ≡ ends_of_contact a.0.now) × (f' ≡ f)) → AreByIslands xs
ordered_by_sort {g = g} {f = f} xs up h = AreByIslands-from_sorted xs (up ends_of_contact (always_returns_same g (λ a r. r ≡ ends_of_contact a.0.now) f h))

tied : (a b c d : ℕ) → (not (is_lt (pair_cmp (a, b) (c, d))) && not (is_lt (pair_cmp (c, d) (a, b)))) ≡ ((c == a) && (d == b))
tied a b c d = grind (arith, nat_tests)

-- a stable sort leaves the contact pieces of each group in their order
kept : (xs ys : List ContactPiece) → IsStableByKey ends_of_contact pair_cmp xs ys → (lower upper : ℕ) → rects_between ys lower upper ≡ rects_between xs lower upper
kept xs ys stable lower upper =
    let contact : ContactPiece = record { rect = unit; lower = lower; upper = upper } in
    let agree = λ (other : ContactPiece). tied lower upper other.lower other.upper in
    ap (map (λ (c : ContactPiece). c.rect)) (sym (filter_agree _ _ agree ys) ∙ stable contact ∙ filter_agree _ _ agree xs)

pub kept_by_sort : {F : Type 0} {g : Mut F (Bor ContactPiece × Unit {0}) (ℕ × ℕ)} {f : F} (xs ys : List ContactPiece)
    → ((key : ContactPiece → ℕ × ℕ) → ComputesKey g key f → IsStableByKey key pair_cmp xs ys)
    → ((a : Bor ContactPiece × Unit {0}) (r : ℕ × ℕ) (f' : F) → Called g f a r f' → (r ≡ ends_of_contact a.0.now) × (f' ≡ f))
    → (lower upper : ℕ) → rects_between ys lower upper ≡ rects_between xs lower upper
kept_by_sort {g = g} {f = f} xs ys stable h = kept xs ys (stable ends_of_contact (always_returns_same g (λ a r. r ≡ ends_of_contact a.0.now) f h))

-- groups do not depend on the order of the contact pieces, where this keeps each group's
pub groups_by_sort : (xs ys : List ContactPiece) (groups : List ContactGroup) → IsPermutation xs ys → ((lower upper : ℕ) → rects_between ys lower upper ≡ rects_between xs lower upper)
    → AreGroupsOf ys groups → AreGroupsOf xs groups
groups_by_sort xs ys groups moved same are = record {
  once = are.once;
  all = λ contact among. are.all contact (Contains-permutation xs ys contact moved among);
  rects = λ k d small. are.rects k d small ∙ same (get_or groups k d).lower (get_or groups k d).upper;
}

-- ---- the front of a sorted list

-- what carries other islands than the first, and does not come before it, comes behind all that carry the same
later : (a b c : ContactPiece) → IsNoLater a b → carries_both a.lower a.upper b ≡ false → IsNoLater b c → carries_both a.lower a.upper c ≡ false
later a b c (inl l) other (inl m) = grind (arith, nat_tests)
later a b c (inl l) other (inr m) = grind (arith, nat_tests)
later a b c (inr l) other (inl m) = grind (arith, nat_tests)
later a b c (inr l) other (inr m) = grind (arith, nat_tests)

pub AreByIslands-drop : (xs : List ContactPiece) (start : ℕ) → AreByIslands xs → AreByIslands (drop start xs)
AreByIslands-drop xs start up i j d before within =
    let far : start + j < length xs = omega (arith, length-drop start xs) in
    rw (get_or-drop, get_or-drop) (up (start + i) (start + j) d (omega arith) far)

other_carries : (lower upper : ℕ) (contact : ContactPiece) → (ends_of_contact contact ≡ (lower, upper) → ⊥) → carries_both lower upper contact ≡ false
other_carries lower upper contact others = elim (cases_Bool (carries_both lower upper contact)) [ inl e ↦ absurd (others (carries_tells lower upper contact e)) | inr e ↦ e ]

-- where the first that carries other islands stands, or all carry those of the first
module _ (xs : List ContactPiece) (first : ContactPiece) (count : ℕ) (at : slice_get xs 0 ≡ Some first)
    (other : count < length xs → carries_both first.lower first.upper (get_or xs count first) ≡ false) where
  not_first : 0 < count
  not_first = elim (leb_tells 1 count) [
    | inl h ↦ h.1
    | inr h ↦
        let none : count ≡ 0 = let f = h.1 in omega arith in
        let some = slice_get_within xs 0 first at in
        let here : count < length xs = omega arith in
        let begin : get_or xs count first ≡ first = ap (λ n. get_or xs n first) none ∙ get_or_from_slice_get xs 0 first first at in
        let fails = subst (λ x. carries_both first.lower first.upper x ≡ false) begin (other here) in
        absurd (cc (fails, told_carries first.lower first.upper first refl))
  ]

  none_later : AreByIslands xs → All (λ contact. carries_both first.lower first.upper contact ≡ false) (drop count xs)
  none_later up k d small =
      let here : count < length xs = omega (arith, length-drop count xs) in
      let far : count + k < length xs = omega (arith, length-drop count xs) in
      let begin : first ≡ get_or xs 0 d = sym (get_or_from_slice_get xs 0 first d at) in
      let one : IsNoLater first (get_or xs count d) = subst (λ x. IsNoLater x (get_or xs count d)) (sym begin) (up 0 count d not_first here) in
      let differs : carries_both first.lower first.upper (get_or xs count d) ≡ false = subst (λ x. carries_both first.lower first.upper x ≡ false)
      (get_or_default xs count first d here) (other here) in
      rw get_or-drop (elim (leb_tells k 0) [
        | inl z ↦ let e : count ≡ count + k = let f = z.1 in omega arith in subst (λ n. carries_both first.lower first.upper (get_or xs n d) ≡ false) e differs
        | inr p ↦ later first (get_or xs count d) (get_or xs (count + k) d) one differs (up count (count + k) d (let f = p.1 in omega arith) far)
      ])

  pub front_is : AreByIslands xs → count ≤ length xs → All (λ contact. carries_both first.lower first.upper contact ≡ true) (take count xs) → IsFrontOf xs first.lower first.upper count
  front_is up within front = record { some = not_first; within = within; front = front; others = none_later up }

-- ---- group by group

filter_cut : (test : ContactPiece → Bool) (xs : List ContactPiece) (i : ℕ) → filter test xs ≡ filter test (take i xs) ++ filter test (drop i xs)
filter_cut test xs i = ap (filter test) (sym (take-append-drop i xs)) ∙ filter-append test (take i xs) (drop i xs)

pub no_groups : (xs : List ContactPiece) → AreFirstGroups xs 0 []
no_groups xs = record {
  within = omega arith;
  once = λ i j d before small. absurd (omega arith);
  all = λ contact among. absurd (Contains-none among);
  no_later = λ contact among has. absurd (Contains-none has);
  rects = All-nil (λ (group : ContactGroup). group.rects ≡ rects_between xs group.lower group.upper);
}

module _ (xs : List ContactPiece) (start : ℕ) (groups : List ContactGroup) (are : AreFirstGroups xs start groups) (lower upper count : ℕ) (first : ContactPiece)
    (at : slice_get (drop start xs) 0 ≡ Some first) (lower_is : first.lower ≡ lower) (upper_is : first.upper ≡ upper) (is : IsFrontOf (drop start xs) lower upper count) where
  abbrev rest : List ContactPiece
  rest = drop start xs

  first_ends : ends_of_contact first ≡ (lower, upper)
  first_ends = let pair : ℕ → ℕ → ℕ × ℕ = λ i k. (i, k) in ap (λ i. pair i first.upper) lower_is ∙ ap (pair lower) upper_is

  new_ends : Contains (map ends_of_group groups) (lower, upper) → ⊥
  new_ends has = are.no_later first (Contains-slice_get rest 0 first at) (subst (Contains (map ends_of_group groups)) (sym first_ends) has)

  front_rects : rects_between xs lower upper ≡ map (λ (c : ContactPiece). c.rect) (take count rest)
  front_rects =
      let test = carries_both lower upper in
      let before = none_kept test (take start xs) (all_of_each (λ c. test c ≡ false) (take start xs)
      (λ c among. other_carries lower upper c (λ e. new_ends (subst (Contains (map ends_of_group groups)) e (are.all c among))))) in
      let behind = none_kept test (drop count rest) is.others in
      let front = all_kept test (take count rest) is.front in
      let later : filter test rest ≡ take count rest = filter_cut test rest count ∙ ap (λ ys. filter test (take count rest) ++ ys) behind ∙ append-nil (filter test (take count rest)) ∙ front in
      ap (map (λ (c : ContactPiece). c.rect)) (filter_cut test xs start ∙ ap (λ ys. ys ++ filter test rest) before ∙ later)

  abbrev more : ContactGroup → List ContactGroup
  more group = groups ++ group ∷ []

  mapped : (group : ContactGroup) → map ends_of_group (more group) ≡ map ends_of_group groups ++ ends_of_group group ∷ []
  mapped group = map-append ends_of_group groups (group ∷ [])

  taken : take (start + count) xs ≡ take start xs ++ take count rest
  taken = take-add start count xs

  pub one_group : (group : ContactGroup) → group.lower ≡ lower → group.upper ≡ upper → group.rects ≡ map (λ (c : ContactPiece). c.rect) (take count rest)
      → AreFirstGroups xs (start + count) (more group)
  one_group group low high rects =
      let pair : ℕ → ℕ → ℕ × ℕ = λ i k. (i, k) in
      let ends : ends_of_group group ≡ (lower, upper) = ap (λ i. pair i group.upper) low ∙ ap (pair lower) high in
      let fits = is.within in
      record {
        within = let w = are.within in omega (arith, length-drop start xs);
        once = subst AreDifferent (sym (mapped group)) (different_more (map ends_of_group groups) (ends_of_group group) are.once
            (λ has. new_ends (subst (Contains (map ends_of_group groups)) ends has)));
        all = λ contact among. subst (λ ps. Contains ps (ends_of_contact contact)) (sym (mapped group))
            (elim (Contains-append_cases (take start xs) (take count rest) contact (subst (λ ys. Contains ys contact) taken among)) [
              | inl old ↦ Contains-append_left (map ends_of_group groups) (ends_of_group group ∷ []) (ends_of_contact contact) (are.all contact old)
              | inr new ↦
                  let same = carries_tells lower upper contact (All-contains (λ c. carries_both lower upper c ≡ true) (take count rest) contact is.front new) in
                  subst (Contains (map ends_of_group groups ++ ends_of_group group ∷ [])) (ends ∙ sym same) (Contains-push (map ends_of_group groups) (ends_of_group group))
            ]);
        no_later = λ contact among has.
            let behind : Contains (drop count rest) contact = subst (λ ys. Contains ys contact) (sym (drop-drop count start xs)) among in
            elim (Contains-push_cases (map ends_of_group groups) (ends_of_group group) (ends_of_contact contact) (subst (λ ps. Contains ps (ends_of_contact contact)) (mapped group) has)) [
              | inl old ↦ are.no_later contact (subst (λ ys. Contains ys contact) (take-append-drop count rest) (Contains-append_right (take count rest) (drop count rest) contact behind)) old
              | inr new ↦
                  let fails = All-contains (λ c. carries_both lower upper c ≡ false) (drop count rest) contact is.others behind in
                  absurd (cc (fails, told_carries lower upper contact (sym new ∙ ends)))
            ];
        rects = All-push (λ (g : ContactGroup). g.rects ≡ rects_between xs g.lower g.upper) groups group are.rects
            (rects ∙ sym front_rects ∙ ap (λ i. rects_between xs i upper) (sym low) ∙ ap (rects_between xs group.lower) (sym high));
      }

pub all_groups : (xs : List ContactPiece) (start : ℕ) (groups : List ContactGroup) → length xs ≤ start → AreFirstGroups xs start groups → AreGroupsOf xs groups
all_groups xs start groups past are = record {
  once = are.once;
  all = λ contact among. are.all contact (subst (λ ys. Contains ys contact) (sym (take_all start xs past)) among);
  rects = are.rects;
}
