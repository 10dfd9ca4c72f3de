-- nodes over columns, and the places between which columns lie
use Rattle.std.proofs.Common.{ℕ, suc, ◌-◌, ◌<◌, ◌≤◌, ◌^◌, ◌≡◌, refl, List, length, arith, inl, inr, min, ℤ, pos, negsuc, ◌-ℤ◌, ◌≤ℤ◌, unsigned_abs}
use Rattle.lists.proofs.Words.{ints, cases_lt}
use Rattle.cover_tree.specs.Columns.{AreRising, place_at, width_of}
use Rattle.cover_tree.specs.TreeNodes.{IsNodeOf, node_over}
use Rattle.cover_tree.proofs.Powers.{place_among}

pub node_over_is : (height level column : ℕ) → level ≤ height → column < 2 ^ height → IsNodeOf height (node_over level column)
node_over_is height level column low small = record { level = low; place = place_among height level column low small }

module _ (places : List ℤ) (rising : AreRising places) where
  -- no place lies before an earlier one
  pub place_at-le : (j k : ℕ) → j ≤ k → place_at places j ≤ℤ place_at places k
  place_at-le j k h = elim (cases_lt (min j (length places - 1)) (min k (length places - 1))) [
    | inl less ↦ let strict = rising (min j (length places - 1)) (min k (length places - 1)) (pos 0) less (omega arith) in omega (arith, ints)
    | inr more ↦ let e : min j (length places - 1) ≡ min k (length places - 1) = omega arith in rw e (omega (arith, ints))
  ]

  pub width_is : (k : ℕ) → pos (width_of places k) ≡ place_at places (suc k) -ℤ place_at places k
  width_is k = amount_is (place_at places (suc k) -ℤ place_at places k) (let h = place_at-le k (suc k) (omega arith) in omega (arith, ints))
    where
      amount_is : (z : ℤ) → pos 0 ≤ℤ z → pos (unsigned_abs z) ≡ z
      amount_is (pos n) h = refl
      amount_is (negsuc n) h = absurd (omega (arith, ints))
