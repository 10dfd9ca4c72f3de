-- sums that stand still at a number
use Rattle.std.proofs.Common.{ℕ, zero, suc, ◌+◌, ◌*◌, ◌≡◌, inl, inr, min, arith}
use Rattle.lists.proofs.Words.{cases_lt}
use Rattle.flatten.specs.inside.Weights.{StandsFor, kept_of}

-- a product of what is kept is kept as the product is
kept_times : (c b most : ℕ) → min (c * min b most) most ≡ min (c * b) most
kept_times zero b most = omega arith
kept_times (suc c) b most = elim (cases_lt most b) [
  | inl more ↦ let far : min b most ≡ most = omega arith in rw far (omega arith)
  | inr less ↦ let near : min b most ≡ b = omega arith in rw near
]

sum_kept : (a x y most : ℕ) → min x most ≡ min y most → min (min a most + x) most ≡ min (a + y) most
sum_kept a x y most e = omega arith

-- what is kept of a sum is the same whatever its parts stand for
pub kept_total : (sum part a b : ℕ) → StandsFor sum a → StandsFor part b → (copies : ℕ) → kept_of (kept_of sum + copies * kept_of part) ≡ kept_of (a + copies * b)
kept_total sum part a b for_a for_b copies = rw (for_a, for_b) (sum_kept a (copies * kept_of b) (copies * b) 8000001 (kept_times copies b 8000001))
