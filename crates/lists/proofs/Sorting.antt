-- lists in the order of a sort by whole numbers
use Rattle.std.proofs.Common.{List, arith, get_or, refl, ◌≡◌, AllPairs, Bool, false, ℤ, ◌≤ℤ◌, ◌<ℤ◌}
use Rattle.lists.proofs.Words.{int_cmp_total, int_ranked, always_returns_same, ints, ranks_by, sorted_far, Called, ComputesKey, IsSortedByKey, MatchOrdering, int_cmp, is_lt, Ordering, Less, Equal, Greater}
use denote.Param.Members.{Mut}
use denote.Ref.{Bor}

-- a number that does not compare as less
pub not_less : (a b : ℤ) → is_lt (int_cmp a b) ≡ false → b ≤ℤ a
not_less a b e = by_order (int_cmp a b) (int_ranked a b (int_cmp a b) refl) e
  where
    by_order : (r : Ordering) → MatchOrdering r (a <ℤ b) (a ≡ b) (b <ℤ a) → is_lt r ≡ false → b ≤ℤ a
    by_order Less m e = cc
    by_order Equal m e = omega (arith, ints)
    by_order Greater m e = omega (arith, ints)

module _ {X : Type 0} (key : X → ℤ) (xs : List X) where
  AllPairs-from_sorted : IsSortedByKey key int_cmp xs → AllPairs (λ a b. key a ≤ℤ key b) xs
  AllPairs-from_sorted up i j d before within =
      not_less (key (get_or xs j d)) (key (get_or xs i d))
      (sorted_far (λ x y. is_lt (int_cmp (key x) (key y))) (ranks_by int_cmp_total key) xs up i j d (omega arith) within)

  -- what a sort by a key gives, where the closure gives this key
  pub AllPairs-from_sort : {F : Type 0} {g : Mut F (Bor X × Unit {0}) ℤ} {f : F} → ((k : X → ℤ) → ComputesKey g k f → IsSortedByKey k int_cmp xs)
      → ((a : Bor X × Unit {0}) (r : ℤ) (f' : F) → Called g f a r f' → (r ≡ key a.0.now) × (f' ≡ f)) → AllPairs (λ a b. key a ≤ℤ key b) xs
  AllPairs-from_sort {g = g} {f = f} up h = AllPairs-from_sorted (up key (always_returns_same g (λ a r. r ≡ key a.0.now) f h))
