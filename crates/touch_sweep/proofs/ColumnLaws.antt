-- the columns in which rectangles begin, from left to right and each once
use Rattle.std.proofs.Common.{◌≡◌, refl, arith, List, [], ◌∷◌, true, subst, sym, ℤ, ◌≤ℤ◌, ◌<ℤ◌, Contains}
use Rattle.lists.proofs.Words.{MatchOrdering, Ordering, Less, Equal, Greater, ints, int_eq, int_cmp, int_cmp_total, int_ranked, dedup, IsPermutation, IsSorted, All-from_recursion, All-weaker, AllPairs-cons, Contains-dedup, Contains-permutation}
use Rattle.std.specs.Ordering.{eq_by_cmp}
use Rattle.std.specs.List.Sorted.{IsStrictlySortedBy}
use Rattle.std.proofs.lemmas.Cmp.{int_eq_equiv}
use Rattle.std.proofs.lemmas.List.Kept.{IsStrictlySortedBy-dedup}
use Rattle.touch_sweep.specs.inside.Splits.{AreOrdered}

less_is : (a b : ℤ) → int_cmp a b ≡ Less → a ≤ℤ b
less_is a b e = by_order (int_cmp a b) (int_ranked a b (int_cmp a b) refl) e
  where
    by_order : (r : Ordering) → MatchOrdering r (a <ℤ b) (a ≡ b) (b <ℤ a) → r ≡ Less → a ≤ℤ b
    by_order Less m f = omega (arith, ints)
    by_order Equal m f = cc
    by_order Greater m f = cc

ordered : (xs : List ℤ) → IsStrictlySortedBy int_cmp xs → AreOrdered xs
unfolding IsStrictlySortedBy
ordered [] h = λ i j d less small. absurd (omega arith)
ordered (x ∷ xs) h = AllPairs-cons (λ a b. a ≤ℤ b) x xs
    (All-weaker (λ y. int_cmp x y ≡ Less) (λ y. x ≤ℤ y) (less_is x) xs (All-from_recursion (λ y. int_cmp x y ≡ Less) xs h.0))
    (ordered xs h.1)

ties : (a b : ℤ) → int_eq a b ≡ eq_by_cmp int_cmp a b
ties a b = grind (arith, ints)

same_int : (a b : ℤ) → int_eq a b ≡ true → a ≡ b
same_int a b e = grind (arith, ints)

pub columns_ordered : (sorted columns : List ℤ) → IsSorted int_cmp sorted → columns ≡ dedup int_eq sorted → AreOrdered columns
columns_ordered sorted columns up e = subst AreOrdered (sym e) (ordered (dedup int_eq sorted) (IsStrictlySortedBy-dedup int_cmp_total ties sorted up))

pub column_kept : (pushed sorted columns : List ℤ) (x : ℤ) → IsPermutation pushed sorted → columns ≡ dedup int_eq sorted → Contains pushed x → Contains columns x
column_kept pushed sorted columns x moves e c =
    subst (λ xs. Contains xs x) (sym e) (Contains-dedup int_eq_equiv same_int sorted x (Contains-permutation pushed sorted x moves c))
