-- the sizes of reals, and which reals have a whole value
use Rattle.std.proofs.Common.{◌≡◌, ◌≢◌, ℕ, zero, suc, ◌+◌, ◌-◌, ◌*◌, ◌/◌, ◌%◌, ◌^◌, ◌<◌, ◌≤◌, zero-add, refl, sym, ap, subst, ◌∙◌, arith, List, ℤ, pos, ◌-ℤ◌, unsigned_abs, Option, Some, None, IfSome}
use Rattle.std.proofs.Common.{IfNone, FitsSigned, w64}
use Rattle.lists.proofs.Words.{ints}
use Rattle.std.specs.Prelude.{SomeIff}
use Rattle.std.proofs.lemmas.Nat.{div-add-mod'}
use Rattle.std.proofs.Math.Nat.{mul_assoc, mul-mod_left}
use Rattle.byteorder.specs.Endian.{big_number}
use Rattle.gds_records.specs.Reals.{sign_of, exponent_of, fraction_of, IsSize, signed, HasValue}
use Rattle.gds_records.proofs.laws.Reals.{size_is_product, cancelled, power_at, power_some, values_agree}

-- ---- products

-- a product is no less than a factor, if the other is not 0
at_least : (a s : ℕ) → a ≢ 0 → s ≤ a * s
at_least zero s some = absurd (some refl)
at_least (suc a) s some = omega arith

-- ---- the size with an exponent from 78 on: the fraction times a power

pub no_scale_no_size : (f e m : ℕ) → f ≢ 0 → 78 ≤ e → (16 ^ (e - 78) < 2 ^ 64 → ⊥) → m < 2 ^ 64 → IsSize f e m → ⊥
no_scale_no_size f e m some high too_large low is =
    let same = size_is_product f e (16 ^ (e - 78)) high refl m is in
    let least = at_least f (16 ^ (e - 78)) some in
    too_large (omega arith)

-- ---- the size with an exponent below 78: the fraction is the size times a power

module _ (f e p : ℕ) (low : e < 78) (is_parts : p ≡ 16 ^ (78 - e)) where
  powers : 16 ^ 78 ≡ p * 16 ^ e
  powers = power_at (78 - e) e 78 (omega arith) ∙ ap (λ (n : ℕ). n * 16 ^ e) (sym is_parts)

  in_parts : (m : ℕ) → m * 16 ^ 78 ≡ m * p * 16 ^ e
  in_parts m = ap (λ (n : ℕ). m * n) powers ∙ sym (mul_assoc m p (16 ^ e))

  fraction_is_product : (m : ℕ) → IsSize f e m → m * p ≡ f
  fraction_is_product m is = cancelled (m * p) f (16 ^ e) (power_some e) (sym (in_parts m) ∙ is.scaled)

  pub some_parts : 0 < p
  some_parts = subst (λ (n : ℕ). 0 < n) (sym is_parts) (power_some (78 - e))

  pub quotient_is_size : f % p ≡ 0 → IsSize f e (f / p)
  quotient_is_size whole =
      let product : f / p * p ≡ f = omega (arith, div-add-mod' f p) in
      record { scaled = in_parts (f / p) ∙ ap (λ (n : ℕ). n * 16 ^ e) product }

  pub rest_no_size : (f % p ≡ 0 → ⊥) → (m : ℕ) → IsSize f e m → ⊥
  rest_no_size rest m is = rest (ap (λ (n : ℕ). n % p) (sym (fraction_is_product m is)) ∙ mul-mod_left m p)

pub no_parts_no_size : (f e m : ℕ) → f ≢ 0 → f < 2 ^ 64 → e < 78 → (16 ^ (78 - e) < 2 ^ 64 → ⊥) → IsSize f e m → ⊥
no_parts_no_size f e zero some low below too_large is = some (sym (fraction_is_product f e (16 ^ (78 - e)) below refl zero is) ∙ omega arith)
no_parts_no_size f e (suc m) some low below too_large is =
    let product : suc m * 16 ^ (78 - e) ≡ f = fraction_is_product f e (16 ^ (78 - e)) below refl (suc m) is in
    too_large (omega arith)

-- ---- the sign

-- a number with a sign has the size that was given
unsigned_abs-signed : (s m : ℕ) → unsigned_abs (signed s m) ≡ m
unsigned_abs-signed zero m = refl
unsigned_abs-signed (suc s) zero = refl
unsigned_abs-signed (suc s) (suc m) = refl

-- a real has the value of its size with its sign
value_of_size : (bytes : List ℕ) (m : ℕ) → IsSize (fraction_of bytes) (exponent_of bytes) m → HasValue bytes (signed (sign_of bytes) m)
value_of_size bytes m is =
    let abs : m ≡ unsigned_abs (signed (sign_of bytes) m) = sym (unsigned_abs-signed (sign_of bytes) m) in
    record {
      size = subst (IsSize (fraction_of bytes) (exponent_of bytes)) abs is;
      sign = ap (signed (sign_of bytes)) abs;
    }

-- ---- the value, where b are the bits, and a size was found or there is none

module _ (bytes : List ℕ) (b : ℕ) (bits : b ≡ big_number 8 bytes) where
  pub no_size_no_value : ((m : ℕ) → m < 2 ^ 64 → IsSize (b % 2 ^ 56) (b / 2 ^ 56 % 2 ^ 7) m → ⊥) → (z : ℤ) → FitsSigned w64 z → HasValue bytes z → ⊥
  no_size_no_value none z fits is =
      none (unsigned_abs z) (omega (arith, ints)) (subst (λ (n : ℕ). IsSize (n % 2 ^ 56) (n / 2 ^ 56 % 2 ^ 7) (unsigned_abs z)) (sym bits) is.size)

  module _ (m : ℕ) (is_size : IsSize (b % 2 ^ 56) (b / 2 ^ 56 % 2 ^ 7) m) where
    value_where : (w : ℤ) → w ≡ signed (b / 2 ^ 63) m → HasValue bytes w
    value_where w is =
        let same : w ≡ signed (sign_of bytes) m = is ∙ ap (λ (n : ℕ). signed (n / 2 ^ 63) m) bits in
        subst (HasValue bytes) (sym same) (value_of_size bytes m (subst (λ (n : ℕ). IsSize (n % 2 ^ 56) (n / 2 ^ 56 % 2 ^ 7) m) bits is_size))

    pub found_is_value : (w : ℤ) (r : Option ℤ) → w ≡ signed (b / 2 ^ 63) m → SomeIff r (FitsSigned w64 w) w → IfSome r (HasValue bytes)
    found_is_value w None is none = tt
    found_is_value w (Some z) is (fits, found) = subst (HasValue bytes) (sym found) (value_where w is)

    pub no_value_that_fits : (w : ℤ) (r : Option ℤ) → w ≡ signed (b / 2 ^ 63) m → SomeIff r (FitsSigned w64 w) w → IfNone r ((z : ℤ) → FitsSigned w64 z → HasValue bytes z → ⊥)
    no_value_that_fits w None is none = λ z fits has. none (subst (FitsSigned w64) (values_agree bytes z w has (value_where w is)) fits)
    no_value_that_fits w (Some z) is found = tt

-- a sum and a difference with 0 as signed numbers
pub sum_is_signed : (m s : ℕ) → s ≡ 0 → pos (0 + m) ≡ signed s m
sum_is_signed m zero e = ap pos (zero-add m)
sum_is_signed m (suc s) e = absurd (omega arith)

pub difference_is_signed : (m s : ℕ) → s ≢ 0 → pos 0 -ℤ pos m ≡ signed s m
difference_is_signed m zero some = absurd (some refl)
difference_is_signed zero (suc s) some = refl
difference_is_signed (suc m) (suc s) some = omega (arith, ints)
