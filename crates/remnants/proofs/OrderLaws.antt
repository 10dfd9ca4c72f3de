-- the order of marks, and the marks of one terminal in it
use Rattle.std.proofs.Common.{ℕ, ◌+◌, ◌-◌, ◌<◌, ◌≤◌, ◌≡◌, refl, sym, ap, ◌∙◌, subst, List, [], ◌∷◌, ◌++◌, true, false, ◌&&◌, nat_cmp, nat_eq, is_eq, inl, inr, ◌↔◌, length, take, drop, get_or, leb, ltb, arith, AllPairs, Contains, Result, Ok, Err, is_ok, IsTrue}
use Rattle.lists.proofs.Words.{dedup, nat_tests, is_lt, Ordering, Less, Equal, Greater, IsSortedByKey, Called, ComputesKey, always_returns_same, All-weaker, All-from_recursion, AllPairs-cons, Contains-get_or, cases_lt, false≢true, get_or-take, get_or_default, length-drop, length-take-le, ltb-true}
use Rattle.std.specs.Ordering.{ordering_then, eq_by_cmp}
use Rattle.std.specs.Cmp.{IsTotalOrder}
use Rattle.std.specs.List.Sorted.{IsBinarySearchResult, IsSearchInRange, IsNonDecreasingBy, IsPartitionPoint, IsStrictlySortedBy}
use Rattle.std.proofs.lemmas.Bool.{leb-false, leb-true, ltb-false}
use Rattle.std.proofs.lemmas.Cmp.{nat_cmp_total, on_total, then_total, ranked, by_ranked}
use Rattle.std.proofs.lemmas.List.{get_or-drop}
use Rattle.std.proofs.lemmas.List.Kept.{IsStrictlySortedBy-dedup}
use Rattle.std.proofs.lemmas.List.Quantifiers.{all_pairs_push}
use Rattle.std.proofs.lemmas.List.Sorted.{IsNonDecreasingBy-from_all_adjacent, searchable_from_sorted}
use denote.Param.Members.{Mut}
use denote.Ref.{Bor}
use Rattle.remnants.specs.declared.parts.Mark.{Mark}
use Rattle.remnants.specs.inside.Marking.{IsBefore, IsMarked}
use Rattle.remnants.proofs.LeaderLaws.{mark_eq}
use Rattle.remnants.proofs.SpreadLaws.{StayWithout}

-- ---- how a sort by terminals and leaders compares marks

abbrev pub Key : Type 0
Key = ℕ × ℕ

abbrev pub key_of : Mark → Key
key_of mark = (mark.terminal, mark.leader)

abbrev pub key_cmp : Key → Key → Ordering
key_cmp x y = ordering_then (nat_cmp x.0 y.0) (nat_cmp x.1 y.1)

abbrev mark_cmp : Mark → Mark → Ordering
mark_cmp a b = key_cmp (key_of a) (key_of b)

key_total : IsTotalOrder key_cmp
key_total = then_total (on_total (λ (p : Key). p.0) nat_cmp_total) (on_total (λ (p : Key). p.1) nat_cmp_total)

both_equal : (r s : Ordering) → is_eq (ordering_then r s) ≡ (is_eq r && is_eq s)
both_equal Less s = refl
both_equal Equal s = refl
both_equal Greater s = refl

nat_equal : (a b : ℕ) → nat_eq a b ≡ is_eq (nat_cmp a b)
nat_equal a b = grind (arith, nat_tests)

ties : (a b : Mark) → mark_eq a b ≡ eq_by_cmp mark_cmp a b
ties a b =
    ap (λ t. t && nat_eq a.leader b.leader) (nat_equal a.terminal b.terminal) ∙ ap (λ t. is_eq (nat_cmp a.terminal b.terminal) && t) (nat_equal a.leader b.leader)
    ∙ sym (both_equal (nat_cmp a.terminal b.terminal) (nat_cmp a.leader b.leader))

less_is : (a b : ℕ) → nat_cmp a b ≡ Less → a < b
less_is a b e = grind (arith, nat_tests)

less_before : (a b : Mark) → mark_cmp a b ≡ Less → IsBefore a b
less_before a b less =
    let first = nat_cmp a.terminal b.terminal in
    let then_less = λ (o : Ordering). ordering_then o (nat_cmp a.leader b.leader) ≡ Less in
    by_ranked (a.terminal < b.terminal) (a.terminal ≡ b.terminal) (b.terminal < a.terminal) first (ranked a.terminal b.terminal first refl)
    (λ e h. inl h)
    (λ e h. inr (h, less_is a.leader b.leader (subst then_less e less)))
    (λ e h. let f = subst then_less e less in absurd (cc f))

not_less : (a b : Mark) → IsBefore a b → is_lt (mark_cmp b a) ≡ false
not_less a b (inl less) =
    let e : nat_cmp b.terminal a.terminal ≡ Greater = grind (arith, nat_tests) in
    ap (λ o. is_lt (ordering_then o (nat_cmp b.leader a.leader))) e
not_less a b (inr (same, less)) =
    let e : nat_cmp b.terminal a.terminal ≡ Equal = grind (arith, nat_tests) in
    let f : nat_cmp b.leader a.leader ≡ Greater = grind (arith, nat_tests) in
    ap (λ o. is_lt (ordering_then o (nat_cmp b.leader a.leader))) e ∙ ap is_lt f

in_order : (marks : List Mark) → IsStrictlySortedBy mark_cmp marks → AllPairs IsBefore marks
unfolding IsStrictlySortedBy
in_order [] h = λ i j d less small. absurd (omega arith)
in_order (a ∷ marks) h = AllPairs-cons IsBefore a marks
    (All-weaker (λ b. mark_cmp a b ≡ Less) (IsBefore a) (less_before a) marks (All-from_recursion (λ b. mark_cmp a b ≡ Less) marks h.0))
    (in_order marks h.1)

-- what a sort by the key and `dedup` make of marks
pub ordered_by_sort : {F : Type 0} {g : Mut F (Bor Mark × Unit {0}) Key} {f : F} (sorted once : List Mark) → ((key : Mark → Key) → ComputesKey g key f → IsSortedByKey key key_cmp sorted)
    → ((a : Bor Mark × Unit {0}) (r : Key) (f' : F) → Called g f a r f' → (r ≡ key_of a.0.now) × (f' ≡ f)) → once ≡ dedup mark_eq sorted → AllPairs IsBefore once
ordered_by_sort {g = g} {f = f} sorted once up h e =
    let sorted_up = up key_of (always_returns_same g (λ a r. r ≡ key_of a.0.now) f h) in
    subst (AllPairs IsBefore) (sym e) (in_order (dedup mark_eq sorted) (IsStrictlySortedBy-dedup (on_total key_of key_total) ties sorted sorted_up))

-- ---- marks in order

module _ (marks : List Mark) (ordered : AllPairs IsBefore marks) where
  sorted_by_key : IsSortedByKey key_of key_cmp marks
  sorted_by_key k d low high = not_less (get_or marks k d) (get_or marks (k + 1) d) (ordered k (k + 1) d (omega arith) high)

  pub terminals_rise : IsNonDecreasingBy (λ (m : Mark). m.terminal) marks
  terminals_rise = IsNonDecreasingBy-from_all_adjacent (λ (m : Mark). m.terminal) marks
      (λ k d high. elim (ordered k (k + 1) d (omega arith) high) [ inl less ↦ omega arith | inr same ↦ omega arith ])

  -- what a binary search by the key tells
  module _ (terminal leader : ℕ) where
    equal_marked : (mark : Mark) → Contains marks mark → key_cmp (key_of mark) (terminal, leader) ≡ Equal → IsMarked marks terminal leader
    equal_marked mark among e =
        let t : mark.terminal ≡ terminal = grind (arith, nat_tests) in
        let l : mark.leader ≡ leader = grind (arith, nat_tests) in
        record { mark = mark; among = among; of_terminal = t; at_leader = l }

    itself : (m : IsMarked marks terminal leader) → key_cmp (key_of m.mark) (terminal, leader) ≡ Equal
    itself m =
        let e : nat_cmp m.mark.terminal terminal ≡ Equal = let same = m.of_terminal in grind (arith, nat_tests) in
        let f : nat_cmp m.mark.leader leader ≡ Equal = let same = m.at_leader in grind (arith, nat_tests) in
        ap (λ o. ordering_then o (nat_cmp m.mark.leader leader)) e ∙ f

    pub found : (r : Result ℕ ℕ) → IsSearchInRange r (length marks) → IsBinarySearchResult (λ y. key_cmp (key_of y) (terminal, leader)) marks r
        → IsTrue (is_ok r) ↔ IsMarked marks terminal leader
    found (Ok i) small h =
        let none : Mark = record { terminal = 0; leader = 0 } in
        (λ yes. equal_marked (get_or marks i none) (Contains-get_or marks i none small) (h none), λ m. refl)
    found (Err i) small h = (
      λ yes. absurd (false≢true yes),
      λ m.
          let point = h (searchable_from_sorted key_total key_of marks (terminal, leader) sorted_by_key) in
          let k = m.among.0 in
          let same = ap (λ (x : Mark). key_cmp (key_of x) (terminal, leader)) m.among.2 ∙ itself m in
          elim (cases_lt k i) [
            | inl less ↦ let e = sym (point.0 k m.mark (omega arith) less) ∙ same in absurd (cc e)
            | inr more ↦ let e = sym (point.1 k m.mark more m.among.1) ∙ same in absurd (cc e)
          ],
    )

-- the marks between the first of no smaller terminal and the first of a greater one
module _ (marks : List Mark) (terminal from count : ℕ) (low : IsPartitionPoint (λ (m : Mark). ltb m.terminal terminal ≡ true) (λ (m : Mark). ltb m.terminal terminal ≡ false) marks from)
    (high : IsPartitionPoint (λ (m : Mark). leb m.terminal terminal ≡ true) (λ (m : Mark). leb m.terminal terminal ≡ false) (drop from marks) count) where
  abbrev behind : List Mark
  behind = drop from marks

  own_there : from ≤ length marks → count ≤ length behind → (mark : Mark) → Contains (take count behind) mark → Contains marks mark × (mark.terminal ≡ terminal)
  own_there within short mark among =
      let k = among.0 in
      let small : k < length (take count behind) = among.1 in
      let long = length-drop from marks in
      let many = length-take-le count behind short in
      let before : k < count = omega arith in
      let in_behind : get_or behind k mark ≡ mark = sym (get_or-take count behind k mark before) ∙ among.2 in
      let in_marks : get_or marks (from + k) mark ≡ mark = sym (get_or-drop from marks k mark) ∙ in_behind in
      let inside : from + k < length marks = omega arith in
      let least : terminal ≤ mark.terminal = subst (λ (m : Mark). terminal ≤ m.terminal) in_marks (ltb-false _ _ (low.1 (from + k) mark (omega arith) inside)) in
      let most : mark.terminal ≤ terminal = subst (λ (m : Mark). m.terminal ≤ terminal) in_behind (leb-true _ _ (high.0 k mark (omega arith) before)) in
      ((from + k, inside, in_marks), omega arith)

  own_back : from ≤ length marks → count ≤ length behind → (mark : Mark) → Contains marks mark → mark.terminal ≡ terminal → Contains (take count behind) mark
  own_back within short mark among is =
      let k = among.0 in
      let small : k < length marks = among.1 in
      let long = length-drop from marks in
      let many = length-take-le count behind short in
      elim (cases_lt k from) [
        | inl less ↦
            let below : mark.terminal < terminal = subst (λ (m : Mark). m.terminal < terminal) among.2 (ltb-true _ _ (low.0 k mark (omega arith) less)) in
            absurd (omega arith)
        | inr more ↦
            let j = k - from in
            let place : from + j ≡ k = omega arith in
            let in_behind : get_or behind j mark ≡ mark = get_or-drop from marks j mark ∙ ap (λ n. get_or marks n mark) place ∙ among.2 in
            elim (cases_lt j count) [
              | inl before ↦ (j, omega arith, get_or-take count behind j mark before ∙ in_behind)
              | inr past ↦
                  let above : terminal < mark.terminal = subst (λ (m : Mark). terminal < m.terminal) in_behind (leb-false _ _ (high.1 j mark past (omega arith))) in
                  absurd (omega arith)
            ]
      ]

  pub own_marks : from ≤ length marks → count ≤ length behind → (mark : Mark) → Contains (take count behind) mark ↔ (Contains marks mark × (mark.terminal ≡ terminal))
  own_marks within short mark = (own_there within short mark, λ h. own_back within short mark h.0 h.1)

-- marks that stay are in order, too
pub stay_ordered : (gone : List ℕ) (items stay : List Mark) (k : ℕ) (d : Mark) → k < length items → StayWithout (λ (m : Mark). m.terminal) gone (take k items) stay → AllPairs IsBefore items
    → AllPairs IsBefore stay → AllPairs IsBefore (stay ++ get_or items k d ∷ [])
stay_ordered gone items stay k d small are ordered so_far = all_pairs_push IsBefore stay (get_or items k d) so_far (λ j e before.
    let x = get_or stay j e in
    let among = ((are x).0 (Contains-get_or stay j e before)).0 in
    let i = among.0 in
    let earlier : i < k = let long = length-take-le k items (omega arith) in let few = among.1 in omega arith in
    let at : get_or items i x ≡ x = sym (get_or-take k items i x earlier) ∙ among.2 in
    let pair : IsBefore (get_or items i x) (get_or items k x) = ordered i k x earlier small in
    subst (λ (m : Mark). IsBefore x m) (sym (get_or_default items k d x small)) (subst (λ (m : Mark). IsBefore m (get_or items k x)) at pair))
