-- columns and rows, as a document writes them
use Rattle.std.proofs.Common.{◌≡◌, ℤ, pos, negsuc, true, false, Option, Some, None, sym, ap, ◌∙◌, subst, arith, w32, w64, to_z, of_z, SFits}
use Rattle.lists.proofs.Words.{lt_z, le_z, ints, to_z-of_z, same_Some}
use Rattle.toml.specs.Data.{Data, integer, as_integer}
use Rattle.layer_map.specs.inside.ReadValues.{Finds, finds, lacks, IsThere, IsWritten}
use Rattle.layer_map.specs.TerminalChecks.{IsCellNumber}
use Rattle.layer_map.proofs.ValueLaws.{integer_is, one_integer}

-- such a number fits 32 bits
cell_number_fits : (z : ℤ) → IsCellNumber z → SFits w32 z
cell_number_fits z is = let least = is.least in let most = is.most in omega (arith, ints)

not_so_low : (z : ℤ) → SFits w32 z → lt_z (to_z w32 (of_z w32 z)) (negsuc 999999999) ≡ true → IsCellNumber z → ⊥
not_so_low z fits low is = let least = is.least in grind (arith, ints, least)

not_so_high : (z : ℤ) → SFits w32 z → le_z (pos 1000000000) (to_z w32 (of_z w32 z)) ≡ true → IsCellNumber z → ⊥
not_so_high z fits high is = let most = is.most in grind (arith, ints, most)

cell_number_is : (z : ℤ) → SFits w32 z → lt_z (to_z w32 (of_z w32 z)) (negsuc 999999999) ≡ false → le_z (pos 1000000000) (to_z w32 (of_z w32 z)) ≡ false → IsCellNumber z
cell_number_is z fits low high = record { least = grind (arith, ints); most = grind (arith, ints) }

module _ (d : Data) where
  module _ (z : ℤ) (h : Some z ≡ as_integer d) (fits : SFits w64 z) where
    pub not_cell_number : (SFits w32 (to_z w64 (of_z w64 z)) → ⊥) → Finds (IsWritten integer IsCellNumber d) None
    not_cell_number not = lacks (λ n is. not (subst (SFits w32) (one_integer (λ y. y) IsCellNumber d z h n is ∙ sym (to_z-of_z w64 z fits)) (cell_number_fits n is.is)))

    module _ (y : ℤ) (told : SFits w32 (to_z w64 (of_z w64 z)) × (y ≡ to_z w64 (of_z w64 z))) where
      same : y ≡ z
      same = told.1 ∙ to_z-of_z w64 z fits

      fits32 : SFits w32 y
      fits32 = subst (SFits w32) (sym told.1) told.0

      pub too_low : lt_z (to_z w32 (of_z w32 y)) (negsuc 999999999) ≡ true → Finds (IsWritten integer IsCellNumber d) None
      too_low low = lacks (λ n is. not_so_low y fits32 low (subst IsCellNumber (one_integer (λ y. y) IsCellNumber d z h n is ∙ sym same) is.is))

      pub too_high : le_z (pos 1000000000) (to_z w32 (of_z w32 y)) ≡ true → Finds (IsWritten integer IsCellNumber d) None
      too_high high = lacks (λ n is. not_so_high y fits32 high (subst IsCellNumber (one_integer (λ y. y) IsCellNumber d z h n is ∙ sym same) is.is))

      pub cell_number : lt_z (to_z w32 (of_z w32 y)) (negsuc 999999999) ≡ false → le_z (pos 1000000000) (to_z w32 (of_z w32 y)) ≡ false
          → Finds (IsWritten integer IsCellNumber d) (Some (to_z w32 (of_z w32 y)))
      cell_number low high = subst (λ (n : ℤ). Finds (IsWritten integer IsCellNumber d) (Some n)) (sym (to_z-of_z w32 y fits32))
          (finds (record { written = integer_is d z h ∙ ap integer (sym same); is = cell_number_is y fits32 low high }))

pub cell_number_there : (there : Option Data) (d : Data) (number : Option ℤ) → Some d ≡ there → Finds (IsWritten integer IsCellNumber d) number → Finds (IsThere integer IsCellNumber there) number
cell_number_there there d (Some n) told (finds is) = finds (record { written = sym told ∙ ap Some is.written; is = is.is })
cell_number_there there d None told (lacks not) = lacks (λ n is. not n (record { written = same_Some _ _ (told ∙ is.written); is = is.is }))

pub nothing_there : (there : Option Data) → None ≡ there → Finds (IsThere integer IsCellNumber there) None
nothing_there there h = lacks (λ n is. let e : None ≡ Some (integer n) = h ∙ is.written in cc e)
