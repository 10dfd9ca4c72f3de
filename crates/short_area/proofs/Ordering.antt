-- lists in the order of a sort by numbers
use Rattle.std.proofs.Common.{ℕ, List, arith, get_or, refl, ◌<◌, ◌≤◌, ◌≡◌, AllPairs, false}
use Rattle.lists.proofs.Words.{always_returns_same, ranks_by, sorted_far, Called, ComputesKey, IsSortedByKey, MatchOrdering, is_lt, Ordering, Less, Equal, Greater}
use Rattle.std.proofs.lemmas.Cmp.{nat_cmp_total, ranked}
use Rattle.std.specs.Ordering.{nat_cmp}
use denote.Param.Members.{Mut}
use denote.Ref.{Bor}

-- a number that does not compare as less
not_less : (a b : ℕ) → is_lt (nat_cmp a b) ≡ false → b ≤ a
not_less a b e = by_order (nat_cmp a b) (ranked a b (nat_cmp a b) refl) e
  where
    by_order : (r : Ordering) → MatchOrdering r (a < b) (a ≡ b) (b < a) → is_lt r ≡ false → b ≤ a
    by_order Less m e = cc
    by_order Equal m e = omega arith
    by_order Greater m e = omega arith

module _ {X : Type 0} (key : X → ℕ) (xs : List X) where
  AllPairs-from_nat_sorted : IsSortedByKey key nat_cmp xs → AllPairs (λ a b. key a ≤ key b) xs
  AllPairs-from_nat_sorted up i j d before within =
      not_less (key (get_or xs j d)) (key (get_or xs i d))
      (sorted_far (λ x y. is_lt (nat_cmp (key x) (key y))) (ranks_by nat_cmp_total key) xs up i j d (omega arith) within)

  -- what a sort by a key gives, where the closure gives this key
  pub AllPairs-from_nat_sort : {F : Type 0} {g : Mut F (Bor X × Unit {0}) ℕ} {f : F} → ((k : X → ℕ) → ComputesKey g k f → IsSortedByKey k nat_cmp xs)
      → ((a : Bor X × Unit {0}) (r : ℕ) (f' : F) → Called g f a r f' → (r ≡ key a.0.now) × (f' ≡ f)) → AllPairs (λ a b. key a ≤ key b) xs
  AllPairs-from_nat_sort {g = g} {f = f} up h = AllPairs-from_nat_sorted (up key (always_returns_same g (λ a r. r ≡ key a.0.now) f h))
