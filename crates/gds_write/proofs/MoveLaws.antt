-- A coordinate that is moved by equal steps, as the code computes it.
use Rattle.std.proofs.Common.{◌≡◌, ℕ, zero, suc, ◌*◌, ◌^◌, ◌<◌, ◌≤◌, ℤ, pos, negsuc, neg_ℤ, ◌+ℤ◌, ◌*ℤ◌, nat_abs, refl, ◌∙◌, arith, w32, w64, SFits}
use Rattle.lists.proofs.Words.{cast_signed, cast_unsigned, to_z-of_z}
use Rattle.std.proofs.Math.Facts.{sfits_widen}
use Rattle.std.proofs.Math.Nat.{mul-le-mul}

negated_fits : (n : ℕ) → n ≤ 2 ^ 15 * 2 ^ 32 → SFits w64 (neg_ℤ (pos n))
negated_fits zero few = record { sfits = omega arith }
negated_fits (suc n) few = record { sfits = omega arith }

-- a product of a short number and a step fits
product_fits : (step : ℤ) (count : ℕ) → count < 2 ^ 15 → nat_abs step ≤ 2 ^ 32 → SFits w64 (pos count *ℤ step)
product_fits (pos n) count few short =
    let most : count * n ≤ 2 ^ 15 * 2 ^ 32 = let low : count ≤ 2 ^ 15 = omega arith in mul-le-mul low short in
    record { sfits = omega arith }
product_fits (negsuc n) count few short =
    let most : count * suc n ≤ 2 ^ 15 * 2 ^ 32 = let low : count ≤ 2 ^ 15 = omega arith in mul-le-mul low short in
    negated_fits (count * suc n) most

module _ (at step from times : ℤ) (count : ℕ) (at_fits : SFits w32 at) (step_fits : SFits w64 step) (few : count < 2 ^ 15) (short : nat_abs step ≤ 2 ^ 32)
    (fits : SFits w32 (at +ℤ (pos count *ℤ step))) (from_is : from ≡ cast_signed w32 (cast_unsigned w32 at)) (times_is : times ≡ pos count) where
  -- the coordinate, widened
  from_same : cast_signed w64 (cast_unsigned w64 from) ≡ at
  from_same = let is_at : from ≡ at = from_is ∙ to_z-of_z w32 at at_fits in rw is_at (to_z-of_z w64 at (sfits_widen tt at_fits))

  -- the steps, and how far they lead
  factors_same : cast_signed w64 (cast_unsigned w64 times) *ℤ cast_signed w64 (cast_unsigned w64 step) ≡ pos count *ℤ step
  factors_same = let count_fits : SFits w64 (pos count) = record { sfits = omega arith } in rw (times_is, to_z-of_z w64 (pos count) count_fits, to_z-of_z w64 step step_fits) refl

  product_same : cast_signed w64 (cast_unsigned w64 (cast_signed w64 (cast_unsigned w64 times) *ℤ cast_signed w64 (cast_unsigned w64 step))) ≡ pos count *ℤ step
  product_same = rw factors_same (to_z-of_z w64 (pos count *ℤ step) (product_fits step count few short))

  pub product_does_not_wrap : SFits w64 (cast_signed w64 (cast_unsigned w64 times) *ℤ cast_signed w64 (cast_unsigned w64 step))
  product_does_not_wrap = rw factors_same (product_fits step count few short)

  pub sum_does_not_wrap : SFits w64 (cast_signed w64 (cast_unsigned w64 from)
      +ℤ cast_signed w64 (cast_unsigned w64 (cast_signed w64 (cast_unsigned w64 times) *ℤ cast_signed w64 (cast_unsigned w64 step))))
  sum_does_not_wrap = rw (from_same, product_same) (sfits_widen tt fits)

  pub moved : cast_signed w32 (cast_unsigned w32 (cast_signed w64 (cast_unsigned w64 (cast_signed w64 (cast_unsigned w64 from)
      +ℤ cast_signed w64 (cast_unsigned w64 (cast_signed w64 (cast_unsigned w64 times) *ℤ cast_signed w64 (cast_unsigned w64 step)))))))
      ≡ at +ℤ (pos count *ℤ step)
  moved =
      rw (from_same, product_same, to_z-of_z w64 (at +ℤ (pos count *ℤ step)) (sfits_widen tt fits), to_z-of_z w32 (at +ℤ (pos count *ℤ step)) fits) refl
