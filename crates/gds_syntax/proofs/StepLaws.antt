-- the steps of an array: whole parts of the ways that they make up
use Rattle.std.proofs.Common.{◌≡◌, ◌∙◌, refl, sym, ap, ℕ, zero, suc, ℤ, pos, negsuc, ◌+ℤ◌, ◌-ℤ◌, ◌*ℤ◌, ◌≤ℤ◌, neg_ℤ, nat_abs, ◌/◌, ◌%◌, ◌≤◌, Option, Some, None, IfSome, IfNone, SFits, w16, w32, w64, to_z, of_z, arith, ◌↔◌}
use Rattle.lists.proofs.Words.{ints, unsigned_abs-mul, to_z-of_z, IfSome_then}
use Rattle.std.specs.Prelude.{int_div, int_rem}
use Rattle.std.proofs.Math.IntN.{*ℤ_comm}
use Rattle.std.proofs.Math.Nat.{div-le_self, mul-mod_right}
use Rattle.std.proofs.lemmas.Int.{quot-rem, quot_is, quot_fits, rem_is}

IfNone_then : {P Q : Type 0} (r : Option ℤ) → IfNone r P → (P → Q) → IfNone r Q
IfNone_then None p f = f p
IfNone_then (Some z) p f = tt

-- ---- parts

without_rest : (p r way : ℤ) → (p +ℤ r) ≡ way → r ≡ pos 0 → p ≡ way
without_rest p r way e none = omega (arith, ints)

pub part_makes_up : (way count : ℤ) → int_rem way count ≡ pos 0 → (count *ℤ int_div way count) ≡ way
part_makes_up way count none =
    *ℤ_comm count (int_div way count) ∙ without_rest (int_div way count *ℤ count) (int_rem way count) way (quot-rem way count) none

size_of_neg : (n : ℕ) → nat_abs (neg_ℤ (pos n)) ≡ n
size_of_neg zero = refl
size_of_neg (suc n) = refl

pub part_is_shorter : (way count : ℤ) → pos 1 ≤ℤ count → nat_abs (int_div way count) ≤ nat_abs way
part_is_shorter (pos a) (pos b) some = div-le_self a b
part_is_shorter (negsuc a) (pos b) some = let size = size_of_neg (suc a / b) in let less = div-le_self (suc a) b in omega arith
part_is_shorter way (negsuc b) some = absurd (omega (arith, ints))

size_of_rest : (way count : ℤ) → nat_abs (int_rem way count) ≡ nat_abs way % nat_abs count
size_of_rest (pos a) count = refl
size_of_rest (negsuc a) count = size_of_neg (suc a % nat_abs count)

none_of_size : (z : ℤ) → nat_abs z ≡ 0 → z ≡ pos 0
none_of_size (pos n) e = ap pos e
none_of_size (negsuc n) e = absurd (omega arith)

pub no_rest_of_parts : (way count part : ℤ) → (count *ℤ part) ≡ way → int_rem way count ≡ pos 0
no_rest_of_parts way count part e =
    none_of_size (int_rem way count)
    (size_of_rest way count ∙ ap (λ z. nat_abs z % nat_abs count) (sym e) ∙ ap (λ n. n % nat_abs count) (unsigned_abs-mul count part) ∙ mul-mod_right (nat_abs count) (nat_abs part))

-- ---- what a program divides

module _ (way count : ℤ) (way_fits : SFits w64 way) (count_fits : SFits w64 count) where
  pub quotient_is : pos 1 ≤ℤ count
      → to_z w64 (of_z w64 (int_div (to_z w64 (of_z w64 way)) (to_z w64 (of_z w64 count)))) ≡ int_div way count
  quotient_is some = quot_is w64 way count way_fits count_fits (quot_fits w64 way count way_fits (omega (arith, ints)))

  rest_is : int_rem (to_z w64 (of_z w64 way)) (to_z w64 (of_z w64 count)) ≡ int_rem way count
  rest_is = ap (λ z. int_rem z (to_z w64 (of_z w64 count))) (to_z-of_z w64 way way_fits) ∙ ap (int_rem way) (to_z-of_z w64 count count_fits)

  pub no_rest : of_z w64 (int_rem (to_z w64 (of_z w64 way)) (to_z w64 (of_z w64 count))) ≡ 0 → int_rem way count ≡ pos 0
  no_rest none = sym (rem_is w64 way count way_fits count_fits) ∙ ap (to_z w64) none

  pub rest_is_none : (part : ℤ) → (count *ℤ part) ≡ way → of_z w64 (int_rem (to_z w64 (of_z w64 way)) (to_z w64 (of_z w64 count))) ≡ 0
  rest_is_none part e = ap (of_z w64) (rest_is ∙ no_rest_of_parts way count part e)

-- ---- steps from parts

module _ (from to count told_count told_way : ℤ) (r : Option ℤ) where
  pub step_leads : IfSome r (λ part. (told_count *ℤ part) ≡ told_way) → told_count ≡ count → told_way ≡ (to -ℤ from)
      → IfSome r (λ step. (from +ℤ (count *ℤ step)) ≡ to)
  step_leads whole is_count is_way =
      IfSome_then r whole (λ part e. let p : (count *ℤ part) ≡ (to -ℤ from) = ap (λ n. n *ℤ part) (sym is_count) ∙ e ∙ is_way in omega (arith, ints))

  pub no_step_leads : IfNone r ((part : ℤ) → (told_count *ℤ part) ≡ told_way → ⊥) → told_count ≡ count → told_way ≡ (to -ℤ from)
      → IfNone r ((step : ℤ) → (from +ℤ (count *ℤ step)) ≡ to → ⊥)
  no_step_leads none is_count is_way = IfNone_then r none (λ n step e.
      let p : (count *ℤ step) ≡ (to -ℤ from) = omega (arith, ints) in n step (ap (λ k. k *ℤ step) is_count ∙ p ∙ sym is_way))

-- a step is one also where numbers are told as their bits
pub told_step : (from to count step : ℤ) → SFits w32 from → SFits w32 to → SFits w16 count
    → ((to_z w32 (of_z w32 from) +ℤ (to_z w16 (of_z w16 count) *ℤ step)) ≡ to_z w32 (of_z w32 to)) ↔ ((from +ℤ (count *ℤ step)) ≡ to)
told_step from to count step of_from of_to of_count = rw (to_z-of_z w32 from of_from, to_z-of_z w32 to of_to, to_z-of_z w16 count of_count) (λ h. h, λ h. h)

-- what is known holds where nothing is there
pub holds_of_none : {A P : Type 0} (o : Option A) → P → IfNone o P
holds_of_none None p = p
holds_of_none (Some a) p = tt
