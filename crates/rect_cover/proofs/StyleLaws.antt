-- the ends and the widths of paths
use Rattle.std.proofs.Common.{ℕ, zero, suc, ◌*◌, ◌/◌, ◌%◌, ◌≡◌, ℤ, pos, negsuc, neg_ℤ, nat_abs, ap, ◌∙◌, arith}
use Rattle.lists.proofs.Words.{unsigned_abs-mul}
use Rattle.rect_cover.specs.ShapeChecks.{IsEven}

-- twice a number, from an even amount
doubled : (n half : ℕ) → n ≡ 2 * half → IsEven (pos n)
doubled n half e = (pos half, ap pos e)

doubled_below : (n half : ℕ) → suc n ≡ 2 * half → IsEven (negsuc n)
doubled_below n zero e = absurd (omega arith)
doubled_below n (suc half) e = (negsuc half, ap (λ k. neg_ℤ (pos k)) e)

-- a number is even where its amount is
pub even_by_amount : (z : ℤ) → nat_abs z % 2 ≡ 0 → IsEven z
even_by_amount (pos n) e = doubled n (n / 2) (omega arith)
even_by_amount (negsuc n) e = doubled_below n (suc n / 2) (omega arith)

pub amount_of_even : (z : ℤ) → IsEven z → nat_abs z % 2 ≡ 0
amount_of_even z even = let e : nat_abs z ≡ 2 * nat_abs even.0 = ap nat_abs even.1 ∙ unsigned_abs-mul (pos 2) even.0 in omega arith
