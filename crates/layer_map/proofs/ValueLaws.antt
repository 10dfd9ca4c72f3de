-- values of a document, and what they are read as
use Rattle.std.proofs.Common.{◌≡◌, ℕ, ◌<◌, ◌≤◌, List, [], ◌∷◌, map, Option, Some, None, refl, sym, ap, ◌∙◌, arith, ℤ, pos, negsuc, nat_abs, subst, ◌^◌, w64, to_z, of_z, SFits}
use Rattle.lists.proofs.Words.{to_z-of_z, same_Some}
use Rattle.std.specs.Int.{FitsUnsignedBits}
use Rattle.toml.specs.Data.{Data, integer, array, as_integer}
use Rattle.toml.specs.View.{items_of, items_view, view}
use Rattle.toml.specs.declared.value.Value.{Value}
use Rattle.layer_map.specs.Values.{listed, values_in}
use Rattle.layer_map.specs.MapChecks.{IsArray}
use Rattle.layer_map.specs.inside.ReadValues.{IsWholeIn, IsWithin, IsWritten, Finds, finds, lacks}

-- the values of an array are those that it was made of
pub listed-items_of : (ds : List Data) → listed (items_of ds) ≡ ds
listed-items_of [] = refl
listed-items_of (d ∷ ds) = ap (λ xs. d ∷ xs) (listed-items_of ds)

pub values_in-array : (there : Option Data) (vs : List Value) → there ≡ Some (array (items_view vs)) → values_in there ≡ map view vs
values_in-array there vs h = ap values_in h ∙ listed-items_of (map view vs)

-- a value of which `as_integer` gives a number is that number
pub integer_is : (d : Data) (z : ℤ) → Some z ≡ as_integer d → d ≡ integer z
integer_is (integer y) z h = ap integer (sym (same_Some _ _ h))
integer_is other z h = cc h

natural_is : (z : ℤ) (n : ℕ) → FitsUnsignedBits 32 z → n ≡ nat_abs z → pos n ≡ z
natural_is (pos m) n fits same = ap pos same
natural_is (negsuc m) n fits same = absurd fits

-- things that are written as integers: none where there is no integer, and else the one of that number
module _ {A : Type 0} (number_of : A → ℤ) (Kind : A → Type 0) (d : Data) where
  pub no_integer : None ≡ as_integer d → Finds (IsWritten (λ n. integer (number_of n)) Kind d) None
  no_integer h = lacks (λ n is. let e : None ≡ Some (number_of n) = h ∙ ap as_integer is.written in cc e)

  pub one_integer : (z : ℤ) → Some z ≡ as_integer d → (n : A) → IsWritten (λ n. integer (number_of n)) Kind d n → number_of n ≡ z
  one_integer z h n is = same_Some _ _ (sym (h ∙ ap as_integer is.written))

module _ (low high : ℕ) (d : Data) where
  module _ (z : ℤ) (h : Some z ≡ as_integer d) (fits : SFits w64 z) where
    pub no_whole : (FitsUnsignedBits 32 (to_z w64 (of_z w64 z)) → ⊥) → high < 2 ^ 32 → Finds (IsWholeIn low high d) None
    no_whole not small = lacks (λ n is. let most = is.is.most in let same : pos n ≡ to_z w64 (of_z w64 z) = one_integer pos (IsWithin low high) d z h n is ∙ sym (to_z-of_z w64 z fits) in
        not (subst (FitsUnsignedBits 32) same (omega (arith, is.is.most))))

    module _ (n : ℕ) (told : FitsUnsignedBits 32 (to_z w64 (of_z w64 z)) × (n ≡ nat_abs (to_z w64 (of_z w64 z)))) where
      same_number : pos n ≡ z
      same_number = natural_is (to_z w64 (of_z w64 z)) n told.0 told.1 ∙ to_z-of_z w64 z fits

      one_number : (m : ℕ) → IsWholeIn low high d m → m ≡ n
      one_number m is = let e : pos m ≡ pos n = one_integer pos (IsWithin low high) d z h m is ∙ sym same_number in cc e

      pub not_below : n < low → Finds (IsWholeIn low high d) None
      not_below below = lacks (λ m is. let e : m ≡ n = one_number m is in absurd (omega (arith, is.is.least)))

      pub not_above : high < n → Finds (IsWholeIn low high d) None
      not_above above = lacks (λ m is. let e : m ≡ n = one_number m is in absurd (omega (arith, is.is.most)))

      pub whole_is : low ≤ n → n ≤ high → Finds (IsWholeIn low high d) (Some n)
      whole_is least most = finds (record { written = integer_is d z h ∙ ap integer (sym same_number); is = record { least = least; most = most } })

-- where no array stands there are no values of one
pub no_array_no_values : (there : Option Data) → (IsArray there → ⊥) → values_in there ≡ []
no_array_no_values (Some (array ds)) not = absurd (not refl)
no_array_no_values other not = refl
