-- sizes and weights, as a document writes them
use Rattle.std.proofs.Common.{◌≡◌, ℕ, ◌≤◌, List, [], ◌∷◌, length, map, Some, None, refl, sym, ap, ◌∙◌, subst, All, arith}
use Rattle.lists.proofs.Words.{IsStrictlyIncreasing, length-map, All-from_recursion}
use Rattle.toml.specs.Data.{Data, Members, array}
use Rattle.toml.specs.View.{items_view, view}
use Rattle.toml.specs.declared.value.Value.{Value}
use Rattle.map_model.specs.MapNames.{AreWeights, AreSizes, greatest_size}
use Rattle.map_model.specs.declared.measure.Measure.{Measure}
use Rattle.layer_map.specs.MapChecks.{Holds, sizes_are_array, sizes_are_few}
use Rattle.layer_map.specs.inside.ReadValues.{AreWholesIn, Finds, finds, lacks, AreWritten}
use Rattle.layer_map.specs.Values.{values_in, whole_number}
use Rattle.layer_map.specs.DocumentSizes.{sizes_in}
use Rattle.map_model.specs.declared.limits.TheConstants.{MOST_SIZES}
use Rattle.layer_map.proofs.SpelledLaws.{lists_tell}
use Rattle.layer_map.proofs.EachLaws.{count_of}
use Rattle.layer_map.proofs.ValueLaws.{values_in-array}

-- sizes are whole numbers within their bounds
module _ (measure : Measure) where
  abbrev high : ℕ
  high = greatest_size measure

  sizes_are_wholes : (values : List Data) (sizes : List ℕ) → AreWritten whole_number (AreSizes measure) values sizes → AreWholesIn 1 high values sizes
  sizes_are_wholes values sizes are =
      record { written = are.written; is = λ k d within. record { least = (are.is.each k d within).least; most = (are.is.each k d within).most } }

  module _ (vs : List Value) where
    pub not_sizes : ((numbers : List ℕ) → AreWholesIn 1 high (map view vs) numbers → ⊥) → Finds (AreWritten whole_number (AreSizes measure) (map view vs)) None
    not_sizes not = lacks (λ sizes are. not sizes (sizes_are_wholes (map view vs) sizes are))

    module _ (numbers : List ℕ) (are : AreWholesIn 1 high (map view vs) numbers) where
      -- they are no sizes where they lack what sizes have
      pub no_sizes : (P : List ℕ → Type 0) → ((sizes : List ℕ) → AreSizes measure sizes → P sizes) → (P numbers → ⊥) → Finds (AreWritten whole_number (AreSizes measure) (map view vs)) None
      no_sizes P have lack = lacks (λ sizes is. lack (subst P (lists_tell whole_number (λ m n same. cc same) sizes numbers (sym is.written ∙ are.written)) (have sizes is.is)))

      pub are_sizes : length vs ≤ MOST_SIZES → 1 ≤ length numbers → IsStrictlyIncreasing numbers → Finds (AreWritten whole_number (AreSizes measure) (map view vs)) (Some numbers)
      are_sizes few some rising =
          let count : length vs ≡ length numbers = sym (length-map vs view) ∙ ap length are.written ∙ length-map numbers whole_number in
          finds (record {
            written = are.written;
            is = record {
              some = some;
              few = omega arith;
              each = λ k d within. record { least = (are.is k d within).least; most = (are.is k d within).most };
              rising = rising;
            };
          })

-- weights are whole numbers within their bounds, and as many as asked for
module _ (vs : List Value) (count : ℕ) where
  pub other_count : (length vs ≡ count → ⊥) → Finds (AreWritten whole_number (AreWeights count) (map view vs)) None
  other_count not = lacks (λ weights are. not (sym (length-map vs view) ∙ ap length are.written ∙ length-map weights whole_number ∙ are.is.as_many))

  pub not_weights : ((numbers : List ℕ) → AreWholesIn 0 1000000000 (map view vs) numbers → ⊥) → Finds (AreWritten whole_number (AreWeights count) (map view vs)) None
  not_weights not = lacks (λ weights are. not weights (record { written = are.written; is = λ k d within. record { least = omega arith; most = are.is.each k d within } }))

  pub are_weights : (numbers : List ℕ) → length vs ≡ count → AreWholesIn 0 1000000000 (map view vs) numbers → Finds (AreWritten whole_number (AreWeights count) (map view vs)) (Some numbers)
  are_weights numbers same are = finds (record {
    written = are.written;
    is = record { as_many = sym (length-map numbers whole_number) ∙ ap length (sym are.written) ∙ length-map vs view ∙ same; each = λ k d within. (are.is k d within).most };
  })

-- the sizes are an array of so few values
pub sizes_fit : (document : Members) (vs : List Value) → sizes_in document ≡ Some (array (items_view vs)) → length vs ≤ MOST_SIZES → All (Holds document) (sizes_are_array ∷ sizes_are_few ∷ [])
sizes_fit document vs told few =
    let count = count_of (values_in (sizes_in document)) vs (values_in-array (sizes_in document) vs told) in
    All-from_recursion (Holds document) (sizes_are_array ∷ sizes_are_few ∷ []) (rw told refl, (omega (arith, count), tt))
