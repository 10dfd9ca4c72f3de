-- Reals of eight bytes, and their values where these are whole numbers.
use Rattle.std.specs.Prelude.{◌≡◌, ℕ, zero, suc, ◌*◌, ◌/◌, ◌%◌, ◌^◌, List, ℤ, pos, neg_ℤ, unsigned_abs}
use Rattle.byteorder.specs.Endian.{big_number}

-- The 64 bits of eight bytes, the highest first, are a bit that is set where the real is negative, seven bits of the
-- exponent, and 56 bits of the fraction.
abbrev pub sign_of : List ℕ → ℕ
sign_of bytes = big_number 8 bytes / 2 ^ 63

abbrev pub exponent_of : List ℕ → ℕ
exponent_of bytes = big_number 8 bytes / 2 ^ 56 % 2 ^ 7

abbrev pub fraction_of : List ℕ → ℕ
fraction_of bytes = big_number 8 bytes % 2 ^ 56

-- The size fraction / 2^56 * 16^(exponent - 64) is this number. Both sides are taken times 2^56 * 16^64, so that each is
-- a whole number, whatever the fraction and the exponent are.
pub record IsSize (fraction exponent size : ℕ) : Type 0 where
  pub scaled : size * (2 ^ 56 * 16 ^ 64) ≡ fraction * 16 ^ exponent

-- the number of this size with this sign
abbrev pub signed : ℕ → ℕ → ℤ
signed zero size = pos size
signed (suc set) size = neg_ℤ (pos size)

-- the value of the real that the bytes begin with is this whole number
pub record HasValue (bytes : List ℕ) (z : ℤ) : Type 0 where
  pub size : IsSize (fraction_of bytes) (exponent_of bytes) (unsigned_abs z)
  pub sign : z ≡ signed (sign_of bytes) (unsigned_abs z)
