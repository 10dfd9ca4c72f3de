-- items of pairs of labels: their cells, sorted, added up, and told apart
use Rattle.std.proofs.Common.{ℕ, suc, ◌+◌, ◌%◌, ◌^◌, ◌<◌, ◌≤◌, ◌≡◌, ◌∙◌, refl, sym, ap, subst, List, [], ◌∷◌, length, take, take_all, get_or, inl, inr, ◌⊎◌, ◌↔◌, arith, All, AllPairs, Contains, false}
use Rattle.lists.proofs.Words.{all_pairs_push, eqb_tells, get_or_default, is_lt, sorted_far, ranks_by, sum_by-IsPermutation, sum_by-cons, sum_by_more, sum_by_push, All-contains, All-nil, All-push, All-weaker, IsPermutation, IsSorted, MatchOrdering, Ordering, Less, Equal, Greater}
use Rattle.lists.proofs.Containing.{Contains-cons_cases, Contains-head, Contains-none, Contains-tail}
use Rattle.lists.proofs.Differing.{AllPairs-tail}
use Rattle.std.proofs.lemmas.Cmp.{nat_cmp_total, on_total, ranked, then_total}
use Rattle.std.proofs.Math.Nat.{mod-lt}
use Rattle.std.specs.Cmp.{IsTotalOrder}
use Rattle.std.specs.Ordering.{nat_cmp, ordering_then}
use Rattle.net_pairs.specs.Pairs.{IsBefore}
use Rattle.net_pairs.specs.inside.Sums.{AreAlike, AreOfOnePair, AreSumsOf, GainsSome, IsNoLater, cells_for, cells_if}
use Rattle.net_pairs.specs.inside.SameRests.{HaveOneRest}
use Rattle.net_pairs.proofs.RestLaws.{rest_added, rest_equal, rest_refl, rest_small, rest_sym, rest_trans, rest_wrapped}

abbrev pub Item : Type 0
Item = ℕ × ℕ × ℕ

-- ---- lists in which pairs rise

behind_first : (p : Item) (items : List Item) → AllPairs IsBefore (p ∷ items) → All (IsBefore p) items
behind_first p items rising k d small = rising 0 (suc k) d (omega arith) (omega arith)

never_both : (p q : Item) → IsBefore p q → IsBefore q p → ⊥
never_both p q (inl a) (inl b) = absurd (omega arith)
never_both p q (inl a) (inr b) = let e = b.0 in absurd (omega arith)
never_both p q (inr a) (inl b) = let e = a.0 in absurd (omega arith)
never_both p q (inr a) (inr b) = let e = a.1 in let f = b.1 in absurd (omega arith)

-- two that have the same items are one
module _ (x y : Item) (xs ys : List Item) (up : AllPairs IsBefore (x ∷ xs)) (up' : AllPairs IsBefore (y ∷ ys)) (same : (item : Item) → Contains (x ∷ xs) item ↔ Contains (y ∷ ys) item) where
  same_first : x ≡ y
  same_first = elim (Contains-cons_cases y ys x ((same x).0 (Contains-head x xs))) [
    | inl e ↦ sym e
    | inr later ↦ elim (Contains-cons_cases x xs y ((same y).1 (Contains-head y ys))) [
      | inl e ↦ e
      | inr l ↦ absurd (never_both x y (All-contains (IsBefore x) xs y (behind_first x xs up) l) (All-contains (IsBefore y) ys x (behind_first y ys up') later))
    ]
  ]

  same_behind : (item : Item) → Contains xs item → Contains ys item
  same_behind item h = elim (Contains-cons_cases y ys item ((same item).0 (Contains-tail x xs item h))) [
    | inl e ↦
        let before = All-contains (IsBefore x) xs item (behind_first x xs up) h in
        let again = subst (IsBefore x) (sym (same_first ∙ e)) before in absurd (never_both x x again again)
    | inr k ↦ k
  ]

pub same_rising : (xs ys : List Item) → AllPairs IsBefore xs → AllPairs IsBefore ys → ((item : Item) → Contains xs item ↔ Contains ys item) → xs ≡ ys
same_rising [] [] up up' same = refl
same_rising [] (y ∷ ys) up up' same = absurd (Contains-none ((same y).1 (Contains-head y ys)))
same_rising (x ∷ xs) [] up up' same = absurd (Contains-none ((same x).0 (Contains-head x xs)))
same_rising (x ∷ xs) (y ∷ ys) up up' same =
    let back : (item : Item) → Contains (y ∷ ys) item ↔ Contains (x ∷ xs) item = λ item. ((same item).1, (same item).0) in
    let first = same_first x y xs ys up up' same in
    let rest = same_rising xs ys (AllPairs-tail IsBefore x xs up) (AllPairs-tail IsBefore y ys up') (λ item. (same_behind x y xs ys up up' same item, same_behind y x ys xs up' up back item)) in
    ap (λ (z : Item). z ∷ xs) first ∙ ap (λ (zs : List Item). y ∷ zs) rest

-- ---- cells of one pair

module _ (one other : ℕ) where
  -- an item is of the pair, or has no cells of it
  pub of_pair_or_not : (item : Item) → ((item.0 ≡ one) × (item.1 ≡ other) × (cells_if one other item ≡ item.2)) ⊎ (((item.0 ≡ one) × (item.1 ≡ other) → ⊥) × (cells_if one other item ≡ 0))
  of_pair_or_not item = elim (eqb_tells item.0 one) [
    | inl h ↦ elim (eqb_tells item.1 other) [
      | inl g ↦ inl (h.1, g.1, rw (h.0, g.0) refl)
      | inr g ↦ inr (λ e. g.1 e.1, rw (h.0, g.0) refl)
    ]
    | inr h ↦ inr (λ e. h.1 e.0, rw h.0 refl)
  ]

  pub cells_of_pair : (item : Item) → item.0 ≡ one → item.1 ≡ other → cells_if one other item ≡ item.2
  cells_of_pair item e f = elim (of_pair_or_not item) [ inl h ↦ h.2 | inr h ↦ absurd (h.0 (e, f)) ]

  cells_of_others : (item : Item) → ((item.0 ≡ one) × (item.1 ≡ other) → ⊥) → cells_if one other item ≡ 0
  cells_of_others item n = elim (of_pair_or_not item) [ inl h ↦ absurd (n (h.0, h.1)) | inr h ↦ h.1 ]

  -- items of one pair whose cells are one in 64 bits
  pub cells_alike : (a b m n : ℕ) → HaveOneRest m n → HaveOneRest (cells_if one other (a, b, m)) (cells_if one other (a, b, n))
  cells_alike a b m n alike = elim (of_pair_or_not (a, b, m)) [
    | inl h ↦ rest_trans (rest_equal h.2) (rest_trans alike (rest_equal (sym (cells_of_pair (a, b, n) h.0 h.1))))
    | inr h ↦ rest_equal (h.1 ∙ sym (cells_of_others (a, b, n) h.0))
  ]

  -- two items of one pair, added up
  cells_of_both : (p q : Item) → AreOfOnePair p q → cells_if one other (p.0, p.1, p.2 + q.2) ≡ cells_if one other p + cells_if one other q
  cells_of_both p q same = elim (of_pair_or_not p) [
    | inl h ↦
        let a = cells_of_pair (p.0, p.1, p.2 + q.2) h.0 h.1 in
        let b = cells_of_pair q (sym same.0 ∙ h.0) (sym same.1 ∙ h.1) in
        let e = h.2 in omega (arith, a, b, e)
    | inr h ↦
        let a = cells_of_others (p.0, p.1, p.2 + q.2) h.0 in
        let b = cells_of_others q (λ e. h.0 (same.0 ∙ e.0, same.1 ∙ e.1)) in
        let e = h.1 in omega (arith, a, b, e)
  ]

  cells_wrapped : (p q : Item) → AreOfOnePair p q → HaveOneRest (cells_if one other (p.0, p.1, (p.2 + q.2) % 2 ^ 64)) (cells_if one other p + cells_if one other q)
  cells_wrapped p q same = rest_trans (cells_alike p.0 p.1 ((p.2 + q.2) % 2 ^ 64) (p.2 + q.2) (rest_wrapped (p.2 + q.2))) (rest_equal (cells_of_both p q same))

  -- where each item comes behind one of the pair none is of the pair
  none_behind : (p : Item) (items : List Item) → p.0 ≡ one → p.1 ≡ other → All (IsBefore p) items → cells_for one other items ≡ 0
  none_behind p [] e f behind = refl
  none_behind p (q ∷ items) e f behind =
      let first = behind 0 q (omega arith) in
      let a = cells_of_others q (λ g. let u = g.0 in let v = g.1 in elim first [ inl h ↦ omega arith | inr h ↦ let w = h.1 in omega arith ]) in
      let b = none_behind p items e f (λ k d small. behind (suc k) d (omega arith)) in
      let s = sum_by-cons (cells_if one other) q items in
      omega (arith, a, b, s)

  -- in a list in which pairs rise, an item has all cells of its pair
  pub cells_of_listed : (items : List Item) → AllPairs IsBefore items → (cells : ℕ) → Contains items (one, other, cells) → cells_for one other items ≡ cells
  cells_of_listed [] rising cells h = absurd (Contains-none h)
  cells_of_listed (p ∷ items) rising cells h =
      let s = sum_by-cons (cells_if one other) p items in
      let behind = behind_first p items rising in
      elim (Contains-cons_cases p items (one, other, cells) h) [
        | inl e ↦
            let a : p.0 ≡ one = ap (λ (q : Item). q.0) e in
            let b : p.1 ≡ other = ap (λ (q : Item). q.1) e in
            let n : p.2 ≡ cells = ap (λ (q : Item). q.2) e in
            let here = cells_of_pair p a b in
            let none = none_behind p items a b behind in
            omega (arith, s, here, none, n)
        | inr rest ↦
            let later = All-contains (IsBefore p) items (one, other, cells) behind rest in
            let here = cells_of_others p (λ g. let u = g.0 in let v = g.1 in elim later [ inl l ↦ omega arith | inr l ↦ let w = l.1 in omega arith ]) in
            let there = cells_of_listed items (AllPairs-tail IsBefore p items rising) cells rest in
            omega (arith, s, here, there)
      ]

  -- where no item has more cells than 64 bits hold no pair has more
  cells_small : (items : List Item) → AllPairs IsBefore items → All (λ (item : Item). item.2 < 2 ^ 64) items → cells_for one other items < 2 ^ 64
  cells_small [] rising small = omega arith
  cells_small (p ∷ items) rising small =
      let s = sum_by-cons (cells_if one other) p items in
      elim (of_pair_or_not p) [
        | inl h ↦
            let none = none_behind p items h.0 h.1 (behind_first p items rising) in
            let here = h.2 in let few = small 0 p (omega arith) in omega (arith, s, here, none, few)
        | inr h ↦
            let here = h.1 in
            let rest = cells_small items (AllPairs-tail IsBefore p items rising) (λ k d within. small (suc k) d (omega arith)) in
            omega (arith, s, here, rest)
      ]

  -- and where a pair has cells there is an item with all of them
  pub listed_of_cells : (items : List Item) → AllPairs IsBefore items → (cells : ℕ) → 0 < cells → cells_for one other items ≡ cells → Contains items (one, other, cells)
  listed_of_cells [] rising cells some e = let z : 0 ≡ cells = e in absurd (omega arith)
  listed_of_cells (p ∷ items) rising cells some e =
      let s = sum_by-cons (cells_if one other) p items in
      elim (of_pair_or_not p) [
        | inl h ↦
            let none = none_behind p items h.0 h.1 (behind_first p items rising) in
            let here = h.2 in
            let n : p.2 ≡ cells = omega (arith, s, here, none, e) in
            let is : p ≡ (one, other, cells) = let a = h.0 in let b = h.1 in same_item p a b n in
            subst (Contains (p ∷ items)) is (Contains-head p items)
        | inr h ↦
            let here = h.1 in
            let rest : cells_for one other items ≡ cells = omega (arith, s, here, e) in
            Contains-tail p items (one, other, cells) (listed_of_cells items (AllPairs-tail IsBefore p items rising) cells some rest)
      ]
    where
      same_item : (p : Item) → p.0 ≡ one → p.1 ≡ other → p.2 ≡ cells → p ≡ (one, other, cells)
      same_item (x, y, z) a b n = cc

-- what a list that was added up tells of the first one
pub listed_sums : (items sums : List Item) → AreSumsOf items sums → (one other cells : ℕ) → Contains sums (one, other, cells) ↔ ((0 < cells) × (cells_for one other items % 2 ^ 64 ≡ cells))
listed_sums items sums are one other cells = (
  λ h. (All-contains (λ (item : Item). 0 < item.2) sums (one, other, cells) are.some h, sym (are.same one other) ∙ cells_of_listed one other sums are.rising cells h),
  λ h. listed_of_cells one other sums are.rising cells h.0 (are.same one other ∙ h.1),
)

-- ---- sorted

abbrev pub item_cmp : Item → Item → Ordering
item_cmp p q = ordering_then (ordering_then (nat_cmp p.0 q.0) (nat_cmp p.1 q.1)) (nat_cmp p.2 q.2)

item_cmp_total : IsTotalOrder item_cmp
item_cmp_total = then_total (then_total (on_total (λ (p : Item). p.0) nat_cmp_total) (on_total (λ (p : Item). p.1) nat_cmp_total)) (on_total (λ (p : Item). p.2) nat_cmp_total)

not_less : (p q : Item) → is_lt (item_cmp q p) ≡ false → IsNoLater p q
not_less p q e = by_parts (nat_cmp q.0 p.0) (nat_cmp q.1 p.1) (nat_cmp q.2 p.2) (ranked q.0 p.0 (nat_cmp q.0 p.0) refl) (ranked q.1 p.1 (nat_cmp q.1 p.1) refl) e
  where
    by_parts : (r s t : Ordering) → MatchOrdering r (q.0 < p.0) (q.0 ≡ p.0) (p.0 < q.0) → MatchOrdering s (q.1 < p.1) (q.1 ≡ p.1) (p.1 < q.1) → is_lt (ordering_then (ordering_then r s) t) ≡ false → IsNoLater p q
    by_parts Less s t m n e = cc
    by_parts Equal Less t m n e = cc
    by_parts Equal Equal t m n e = inr (sym m, omega arith)
    by_parts Equal Greater t m n e = inr (sym m, omega arith)
    by_parts Greater s t m n e = inl m

pub sorted_pairs : (items : List Item) → IsSorted item_cmp items → AllPairs IsNoLater items
sorted_pairs items up i j d before within =
    not_less (get_or items i d) (get_or items j d) (sorted_far (λ x y. is_lt (item_cmp x y)) (ranks_by item_cmp_total (λ (x : Item). x)) items up i j d (omega arith) within)

pub alike_moved : (items sorted : List Item) → IsPermutation items sorted → AreAlike items sorted
alike_moved items sorted moved one other = rest_equal (sum_by-IsPermutation (cells_if one other) items sorted moved)

pub sums_alike : (items sorted sums : List Item) → AreAlike items sorted → AreSumsOf sorted sums → AreSumsOf items sums
sums_alike items sorted sums same are = record { same = λ one other. are.same one other ∙ (same one other).rest; rising = are.rising; some = are.some }

pub alike_sums : (items sums : List Item) → AreSumsOf items sums → AreAlike items sums
alike_sums items sums are one other = rest_trans (rest_equal (are.same one other)) (rest_wrapped (cells_for one other items))

-- ---- added up, item by item

-- of the first so many items those of the last pair have their sum, in 64 bits, and those of each pair before it have an item of the list
pub record AreSumsTo (sorted : List Item) (i : ℕ) (sums : List Item) (last : Item) : Type 0 where
  pub total : (one other : ℕ) → HaveOneRest (cells_for one other sums + cells_if one other last) (cells_for one other (take i sorted))
  pub rising : AllPairs IsBefore sums
  pub before : All (λ (item : Item). IsBefore item last) sums
  pub some : All (λ (item : Item). 0 < item.2) sums
  pub small : All (λ (item : Item). item.2 < 2 ^ 64) sums
  pub rest : (k : ℕ) (d : Item) → i ≤ k → k < length sorted → IsNoLater last (get_or sorted k d)

pub sums_begun : (sorted : List Item) → AreSumsTo sorted 0 [] (0, 0, 0)
sums_begun sorted = record {
  total = λ one other. rest_equal (none one other);
  rising = λ i j d before within. absurd (omega arith);
  before = All-nil (λ (item : Item). IsBefore item (0, 0, 0));
  some = All-nil (λ (item : Item). 0 < item.2);
  small = All-nil (λ (item : Item). item.2 < 2 ^ 64);
  rest = λ k d past within. least (get_or sorted k d);
} where
  none : (one other : ℕ) → cells_for one other [] + cells_if one other (0, 0, 0) ≡ cells_for one other []
  none one other = elim (of_pair_or_not one other (0, 0, 0)) [ inl h ↦ let e = h.2 in omega (arith, e) | inr h ↦ let e = h.1 in omega (arith, e) ]

  least : (item : Item) → IsNoLater (0, 0, 0) item
  least item = elim (eqb_tells 0 item.0) [ inl h ↦ inr (h.1, omega arith) | inr h ↦ let n = h.1 in inl (omega arith) ]

before_both : (p q r : Item) → IsBefore p q → IsBefore q r → IsBefore p r
before_both p q r (inl a) (inl b) = inl (omega arith)
before_both p q r (inl a) (inr b) = let e = b.0 in inl (omega arith)
before_both p q r (inr a) (inl b) = let e = a.0 in inl (omega arith)
before_both p q r (inr a) (inr b) = let e = a.1 in let f = b.1 in inr (a.0 ∙ b.0, omega arith)

next_pair : (p q : Item) → IsNoLater p q → (AreOfOnePair p q → ⊥) → IsBefore p q
next_pair p q (inl a) other = inl a
next_pair p q (inr a) other = elim (eqb_tells p.1 q.1) [ inl h ↦ absurd (other (a.0, h.1)) | inr h ↦ let e = a.1 in let n = h.1 in inr (a.0, omega arith) ]

module _ (sorted : List Item) (i : ℕ) (sums : List Item) (last : Item) (h : AreSumsTo sorted i sums last) where
  -- the list with the sum of the last pair, which has what the first so many items have
  record SumsSoFar (new : List Item) : Type 0 where
    pub alike : (one other : ℕ) → HaveOneRest (cells_for one other new) (cells_for one other (take i sorted))
    pub rising : AllPairs IsBefore new
    pub some : All (λ (item : Item). 0 < item.2) new
    pub small : All (λ (item : Item). item.2 < 2 ^ 64) new

  sums_so_far : (new : List Item) → GainsSome sums new last → SumsSoFar new
  sums_so_far new (inl (some, small, e)) = subst SumsSoFar (sym e) (record {
    alike = λ one other. rest_trans (rest_equal (sum_by_push (cells_if one other) sums last)) (h.total one other);
    rising = all_pairs_push IsBefore sums last h.rising h.before;
    some = All-push (λ (item : Item). 0 < item.2) sums last h.some some;
    small = All-push (λ (item : Item). item.2 < 2 ^ 64) sums last h.small small;
  })
  sums_so_far new (inr (none, e)) = subst SumsSoFar (sym e) (record {
    alike = λ one other. rest_trans (rest_equal (let z = without one other in omega (arith, z))) (h.total one other);
    rising = h.rising;
    some = h.some;
    small = h.small;
  }) where
    without : (one other : ℕ) → cells_if one other last ≡ 0
    without one other = elim (of_pair_or_not one other last) [ inl g ↦ g.2 ∙ none | inr g ↦ g.1 ]

  pub sums_done : (new : List Item) → GainsSome sums new last → AreSumsOf (take i sorted) new
  sums_done new gains = let so_far = sums_so_far new gains in record {
    same = λ one other. rest_small (cells_small one other new so_far.rising so_far.small) (mod-lt (cells_for one other (take i sorted)) (omega arith))
        (rest_trans (so_far.alike one other) (rest_sym (rest_wrapped (cells_for one other (take i sorted)))));
    rising = so_far.rising;
    some = so_far.some;
  }

  module _ (item : Item) (small : i < length sorted) (is : item ≡ get_or sorted i item) where
    more : (one other : ℕ) → cells_for one other (take (i + 1) sorted) ≡ cells_for one other (take i sorted) + cells_if one other item
    more one other = sum_by_more (cells_if one other) sorted i item small ∙ ap (λ (x : Item). cells_for one other (take i sorted) + cells_if one other x) (sym is)

    -- an item of the last pair
    pub sums_same : AreOfOnePair last item → AreSumsTo sorted (i + 1) sums (last.0, last.1, (last.2 + item.2) % 2 ^ 64)
    sums_same same = record {
      total = λ one other.
          let m = more one other in
          rest_trans (rest_added (rest_refl (cells_for one other sums)) (cells_wrapped one other last item same))
          (rest_trans (rest_equal (assoc (cells_for one other sums) (cells_if one other last) (cells_if one other item)))
          (rest_trans (rest_added (h.total one other) (rest_refl (cells_if one other item))) (rest_equal (sym m))));
      rising = h.rising;
      before = h.before;
      some = h.some;
      small = h.small;
      rest = λ k d past within. h.rest k d (omega arith) within;
    } where
      assoc : (a b c : ℕ) → a + (b + c) ≡ a + b + c
      assoc a b c = omega arith

    -- the first item of the next pair
    pub sums_next : (new : List Item) → GainsSome sums new last → (AreOfOnePair last item → ⊥) → AllPairs IsNoLater sorted → AreSumsTo sorted (i + 1) new item
    sums_next new gains other ordered =
        let so_far = sums_so_far new gains in
        let next : IsBefore last item = next_pair last item (subst (IsNoLater last) (sym is) (h.rest i item (omega arith) small)) other in
        let all = All-weaker (λ (x : Item). IsBefore x last) (λ (x : Item). IsBefore x item) (λ x b. before_both x last item b next) sums h.before in record {
          total = λ one other. rest_trans (rest_added (so_far.alike one other) (rest_refl (cells_if one other item))) (rest_equal (sym (more one other)));
          rising = so_far.rising;
          before = elim gains [
            | inl g ↦ subst (All (λ (x : Item). IsBefore x item)) (sym g.2) (All-push (λ (x : Item). IsBefore x item) sums last all next)
            | inr g ↦ subst (All (λ (x : Item). IsBefore x item)) (sym g.1) all
          ];
          some = so_far.some;
          small = so_far.small;
          rest = λ k d past within.
              let far = ordered i k item (omega arith) within in
              subst (λ (x : Item). IsNoLater x (get_or sorted k d)) (sym is) (subst (IsNoLater (get_or sorted i item)) (default k d within) far);
        }
      where
        default : (k : ℕ) (d : Item) → k < length sorted → get_or sorted k item ≡ get_or sorted k d
        default k d within = get_or_default sorted k item d within

pub sums_all : (sorted : List Item) (i : ℕ) (sums new : List Item) (last : Item) → length sorted ≤ i → AreSumsTo sorted i sums last → GainsSome sums new last → AreSumsOf sorted new
sums_all sorted i sums new last past h gains = subst (λ (xs : List Item). AreSumsOf xs new) (take_all i sorted past) (sums_done sorted i sums last h new gains)
