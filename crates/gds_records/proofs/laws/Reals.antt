-- A real has one whole value.
use Rattle.std.proofs.Common.{◌≡◌, ℕ, ◌+◌, ◌-◌, ◌*◌, ◌/◌, ◌^◌, ◌<◌, ◌≤◌, sym, ap, subst, ◌∙◌, arith, List, ℤ, unsigned_abs, Option, Some, None, IfSome, IfNone}
use Rattle.lists.proofs.Words.{pow-add}
use Rattle.std.specs.Prelude.{SomeIff}
use Rattle.std.proofs.Math.Nat.{mul-div_cancel, mul_assoc, one-le-pow}
use Rattle.gds_records.specs.Reals.{sign_of, exponent_of, fraction_of, IsSize, signed, HasValue}

-- equal products with one positive factor
pub cancelled : (a b s : ℕ) → 0 < s → a * s ≡ b * s → a ≡ b
cancelled a b s some e = sym (mul-div_cancel a some) ∙ ap (λ (x : ℕ). x / s) e ∙ mul-div_cancel b some

pub power_some : (n : ℕ) → 0 < 16 ^ n
power_some n = one-le-pow n 16 (omega arith)

-- a power of 16 as two, with the exponents' sum
pub power_at : (i j k : ℕ) → i + j ≡ k → 16 ^ k ≡ 16 ^ i * 16 ^ j
power_at i j k e = ap (λ (n : ℕ). 16 ^ n) (sym e) ∙ pow-add 16 i j

module _ (f e s : ℕ) (high : 78 ≤ e) (is_scale : s ≡ 16 ^ (e - 78)) where
  scaled : f * 16 ^ e ≡ f * s * 16 ^ 78
  scaled =
      ap (λ (p : ℕ). f * p) (power_at (e - 78) 78 e (omega arith)) ∙ sym (mul_assoc f (16 ^ (e - 78)) (16 ^ 78))
      ∙ ap (λ (p : ℕ). f * p * 16 ^ 78) (sym is_scale)

  pub size_is_product : (m : ℕ) → IsSize f e m → m ≡ f * s
  size_is_product m is = cancelled m (f * s) (16 ^ 78) (power_some 78) (is.scaled ∙ scaled)

  pub product_is_size : (r : Option ℕ) → SomeIff r (f * s < 2 ^ 64) (f * s) → IfSome r (IsSize f e)
  product_is_size None no_product = tt
  product_is_size (Some m) (fits, is) = record { scaled = ap (λ (n : ℕ). n * 16 ^ 78) is ∙ sym scaled }

  pub no_product_no_size : (r : Option ℕ) → SomeIff r (f * s < 2 ^ 64) (f * s) → IfNone r ((m : ℕ) → m < 2 ^ 64 → IsSize f e m → ⊥)
  no_product_no_size None too_large = λ m low is. too_large (subst (λ (n : ℕ). n < 2 ^ 64) (size_is_product m is) low)
  no_product_no_size (Some m) product = tt

sizes_agree : (f e m n : ℕ) → IsSize f e m → IsSize f e n → m ≡ n
sizes_agree f e m n one other = cancelled m n (16 ^ 78) (power_some 78) (one.scaled ∙ sym other.scaled)

pub values_agree : (bytes : List ℕ) (z w : ℤ) → HasValue bytes z → HasValue bytes w → z ≡ w
values_agree bytes z w one other =
    one.sign ∙ ap (signed (sign_of bytes)) (sizes_agree (fraction_of bytes) (exponent_of bytes) (unsigned_abs z) (unsigned_abs w) one.size other.size) ∙ sym other.sign
