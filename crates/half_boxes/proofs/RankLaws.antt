-- ends of spans in rising order, and their ranks
use Rattle.std.proofs.Common.{ℕ, ◌+◌, ◌<◌, ◌≤◌, ◌≡◌, refl, sym, ap, subst, arith, take, inl, inr, List, [], ◌∷◌}
use Rattle.std.proofs.Common.{◌++◌, length, get_or, true, false, ℤ, pos, ◌≤ℤ◌, ◌<ℤ◌, int_lt, All, AllPairs, Contains, Some, slice_get}
use Rattle.lists.proofs.Words.{MatchOrdering, Ordering, Less, Equal, Greater, ints, by_lt_z, int_eq, int_cmp, int_cmp_total, int_ranked, dedup, IsPermutation}
use Rattle.lists.proofs.Words.{IsSorted, All-contains, All-from_recursion, All-push, All-weaker, AllPairs-cons, Contains-from_dedup, Contains-append_left, Contains-dedup}
use Rattle.lists.proofs.Words.{Contains-permutation, Contains-push, cases_lt, get_or_from_slice_get, slice_get_read, slice_get_within}
use Rattle.lists.proofs.Reading.{All-read}
use Rattle.std.specs.Ordering.{eq_by_cmp}
use Rattle.std.specs.List.Sorted.{IsStrictlySortedBy, IsPartitionPoint, IsPartitionedBy}
use Rattle.std.proofs.lemmas.Cmp.{int_eq_equiv}
use Rattle.std.proofs.lemmas.List.Elements.{All-contains_itself}
use Rattle.std.proofs.lemmas.List.Kept.{IsStrictlySortedBy-dedup}
use Rattle.std.proofs.lemmas.List.Sorted.{All-permutation}
use Rattle.geo_core.specs.Plane.{IsInterval}
use Rattle.geo_core.specs.declared.axis.Axis.{Axis}
use Rattle.geo_core.specs.declared.interval.Interval.{Interval}
use Rattle.geo_core.specs.declared.plane.Rect.{Rect}
use Rattle.geo_core.proofs.RectLaws.{HasSides}
use Rattle.half_boxes.specs.inside.Ranks.{AreEnds, HasEnds, HaveRanks, IsAnEnd, IsRank, IsRankedBox, IsRankedSpan}
use Rattle.half_boxes.specs.HalfBoxes.{span_along}
use Rattle.half_boxes.specs.declared.boxes.HalfBox.{HalfBox}

-- ---- the ends, as they are found

still_there : (old new : List ℤ) (x y : ℤ) → new ≡ old ++ y ∷ [] → Contains old x → Contains new x
still_there old new x y e c = subst (λ xs. Contains xs x) (sym e) (Contains-append_left old (y ∷ []) x c)

pushed_there : (old new : List ℤ) (x y : ℤ) → new ≡ old ++ y ∷ [] → y ≡ x → Contains new x
pushed_there old new x y e f = subst (Contains new) f (subst (λ xs. Contains xs y) (sym e) (Contains-push old y))

-- the ends of one box more
pub ends_next : (axis : Axis) (boxes : List HalfBox) (k : ℕ) (next : HalfBox) (old mid new : List ℤ) (low high : ℤ) → k < length boxes → next ≡ get_or boxes k next
    → low ≡ (span_along axis next).low → high ≡ (span_along axis next).high → mid ≡ old ++ low ∷ [] → new ≡ mid ++ high ∷ []
    → All (λ one. HasEnds old (span_along axis one)) (take k boxes) → All (λ one. HasEnds new (span_along axis one)) (take (k + 1) boxes)
ends_next axis boxes k next old mid new low high small at e f first second all =
    let span = span_along axis next in
    All-read (λ one. HasEnds new (span_along axis one)) boxes k next small at
    (All-weaker (λ one. HasEnds old (span_along axis one)) (λ one. HasEnds new (span_along axis one)) (λ one h. record {
      low = still_there mid new _ high second (still_there old mid _ low first h.low);
      high = still_there mid new _ high second (still_there old mid _ low first h.high);
    }) (take k boxes) all)
    (record { low = still_there mid new span.low high second (pushed_there old mid span.low low first e); high = pushed_there mid new span.high high second f })

-- and they are ends of the boxes
pub theirs_next : (axis : Axis) (boxes : List HalfBox) (k : ℕ) (next : HalfBox) (old mid new : List ℤ) (low high : ℤ) → k < length boxes → next ≡ get_or boxes k next
    → low ≡ (span_along axis next).low → high ≡ (span_along axis next).high → mid ≡ old ++ low ∷ [] → new ≡ mid ++ high ∷ [] → All (IsAnEnd axis boxes) old
    → All (IsAnEnd axis boxes) new
theirs_next axis boxes k next old mid new low high small at e f first second all =
    let among : Contains boxes next = (k, small, sym at) in
    let P : ℤ → Type 0 = IsAnEnd axis boxes in
    subst (All P) (sym second) (All-push P mid high
    (subst (All P) (sym first) (All-push P old low all (record { one = next; among = among; at = inl e })))
    (record { one = next; among = among; at = inr f }))

-- ---- sorted, and each once

less_is : (a b : ℤ) → int_cmp a b ≡ Less → a <ℤ b
less_is a b e = by_order (int_cmp a b) (int_ranked a b (int_cmp a b) refl) e
  where
    by_order : (r : Ordering) → MatchOrdering r (a <ℤ b) (a ≡ b) (b <ℤ a) → r ≡ Less → a <ℤ b
    by_order Less m f = m
    by_order Equal m f = cc
    by_order Greater m f = cc

rising : (xs : List ℤ) → IsStrictlySortedBy int_cmp xs → AllPairs (λ a b. a <ℤ b) xs
unfolding IsStrictlySortedBy
rising [] h = λ i j d less small. absurd (omega arith)
rising (x ∷ xs) h = AllPairs-cons (λ a b. a <ℤ b) x xs
    (All-weaker (λ y. int_cmp x y ≡ Less) (λ y. x <ℤ y) (less_is x) xs (All-from_recursion (λ y. int_cmp x y ≡ Less) xs h.0))
    (rising xs h.1)

ties : (a b : ℤ) → int_eq a b ≡ eq_by_cmp int_cmp a b
ties a b = grind (arith, ints)

same_int : (a b : ℤ) → int_eq a b ≡ true → a ≡ b
same_int a b e = grind (arith, ints)

module _ (found sorted ends : List ℤ) (moves : IsPermutation found sorted) (up : IsSorted int_cmp sorted) (once : ends ≡ dedup int_eq sorted) where
  kept : (x : ℤ) → Contains found x → Contains ends x
  kept x c = subst (λ xs. Contains xs x) (sym once) (Contains-dedup int_eq_equiv same_int sorted x (Contains-permutation found sorted x moves c))

  pub ends_rise : AllPairs (λ a b. a <ℤ b) ends
  ends_rise = subst (AllPairs (λ a b. a <ℤ b)) (sym once) (rising (dedup int_eq sorted) (IsStrictlySortedBy-dedup int_cmp_total ties sorted up))

  pub ends_keep : (P : ℤ → Type 0) → All P found → All P ends
  ends_keep P all =
      let rest = dedup int_eq sorted in
      let kept : All P rest = All-weaker (Contains rest) P (λ x c. All-contains P sorted x (All-permutation P found sorted moves all) (Contains-from_dedup int_eq sorted x c))
      rest (All-contains_itself rest) in
      subst (All P) (sym once) kept

  pub ends_are : (axis : Axis) (boxes : List HalfBox) → length ends ≤ 1001000000 → All (λ one. HasEnds found (span_along axis one)) boxes → AreEnds axis boxes ends
  ends_are axis boxes few all = record {
    rising = record { rising = ends_rise; few = few };
    all = All-weaker (λ one. HasEnds found (span_along axis one)) (λ one. HasEnds ends (span_along axis one))
        (λ one h. record { low = kept (span_along axis one).low h.low; high = kept (span_along axis one).high h.high }) boxes all;
  }

-- ---- ranks keep the order of ends

module _ (ends : List ℤ) (have : HaveRanks ends) where
  in_order : (j k : ℕ) (x y : ℤ) → slice_get ends j ≡ Some x → slice_get ends k ≡ Some y → j < k → x <ℤ y
  in_order j k x y e f less =
      let order = have.rising j k x less (slice_get_within ends k y f) in
      let a = get_or_from_slice_get ends j x x e in let b = get_or_from_slice_get ends k y x f in omega (arith, ints)

  pub end_less : (x y r s : ℤ) → IsRank ends x r → IsRank ends y s → r <ℤ s → x <ℤ y
  end_less x y r s p q h = let e = p.is in let f = q.is in in_order p.number q.number x y p.at q.at (omega (arith, ints))

  end_same : (x y : ℤ) (k n : ℕ) → slice_get ends k ≡ Some x → slice_get ends n ≡ Some y → k ≡ n → x ≡ y
  end_same x y k n e f same = cc (ap (slice_get ends) same)

  pub end_le : (x y r s : ℤ) → IsRank ends x r → IsRank ends y s → r ≤ℤ s → x ≤ℤ y
  end_le x y r s p q h =
      let e = p.is in let f = q.is in
      by_lt_z r s (λ l. let less = end_less x y r s p q l in omega (arith, ints))
      (λ l. let same = end_same x y p.number q.number p.at q.at (omega (arith, ints)) in omega (arith, ints))

  pub rank_less : (x y r s : ℤ) → IsRank ends x r → IsRank ends y s → x <ℤ y → r <ℤ s
  rank_less x y r s p q h = by_lt_z r s (λ l. l) (λ l. let le = end_le y x s r q p l in absurd (omega (arith, ints)))

  pub rank_le : (x y r s : ℤ) → IsRank ends x r → IsRank ends y s → x ≤ℤ y → r ≤ℤ s
  rank_le x y r s p q h = by_lt_z s r (λ l. let less = end_less y x s r q p l in absurd (omega (arith, ints))) (λ l. l)

  -- the ranks of the ends of a span are those of an interval
  pub ranks_within : (x y r s : ℤ) → IsRank ends x r → IsRank ends y s → x <ℤ y → IsInterval (pos 1001000000) r s
  ranks_within x y r s p q h =
      let e = p.is in let f = q.is in
      let small = slice_get_within ends q.number y q.at in let few = have.few in
      record { some = rank_less x y r s p q h; least = omega (arith, ints); most = omega (arith, ints) }

  -- ---- the number that a search finds

  pub parted : (x : ℤ) → IsPartitionedBy (λ y. int_lt y x) ends
  parted x i j d le small t = elim (cases_lt i j) [
    | inl less ↦ let order = have.rising i j d less small in let below : get_or ends j d <ℤ x = grind (arith, ints) in grind (arith, ints)
    | inr more ↦ let e : i ≡ j = omega arith in subst (λ n. int_lt (get_or ends n d) x ≡ true) (sym e) t
  ]

  pub found_rank : (x : ℤ) (k : ℕ) → IsPartitionPoint (λ y. int_lt y x ≡ true) (λ y. int_lt y x ≡ false) ends k → Contains ends x → slice_get ends k ≡ Some x
  found_rank x k (lower, higher) (n, small, e) =
      let behind : k ≤ n = elim (cases_lt n k) [
        | inl before ↦ let below = lower n x (omega arith) before in absurd (grind (arith, ints))
        | inr at ↦ at
      ] in
      let same : n ≡ k = elim (cases_lt k n) [
        | inl before ↦ let less = have.rising k n x before small in let not_below = higher k x (omega arith) (omega arith) in absurd (grind (arith, ints))
        | inr at ↦ omega arith
      ] in
      subst (λ i. slice_get ends i ≡ Some x) same (slice_get_read ends (length ends) n x refl small (sym e))

-- ---- boxes, one by one

-- each box of a list of which this holds has its ends in the lists
pub item_has : (P : HalfBox → Type 0) (boxes : List HalfBox) (k : ℕ) (one : HalfBox) → k < length boxes → one ≡ get_or boxes k one → All P boxes → P one
item_has P boxes k one small at all = subst P (sym at) (all k one small)

-- the ranks of the ends of a box, as a rectangle
pub ranked_box : (columns rows : List ℤ) (one : HalfBox) (across up : Interval) (rect : Rect) → HasSides rect across up → IsRankedSpan columns one.columns across → IsRankedSpan rows one.rows up
    → IsRankedBox columns rows one rect
ranked_box columns rows one across up rect s p q = record {
  left = subst (IsRank columns one.columns.low) (sym s.left) p.low;
  right = subst (IsRank columns one.columns.high) (sym s.right) p.high;
  bottom = subst (IsRank rows one.rows.low) (sym s.bottom) q.low;
  top = subst (IsRank rows one.rows.high) (sym s.top) q.high;
}
