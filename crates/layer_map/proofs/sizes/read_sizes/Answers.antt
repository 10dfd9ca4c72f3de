use Rattle.std.proofs.Common.{[], ◌∷◌, ◌∙◌, None, Some, arith, refl, sym, subst}
use Rattle.toml.specs.View.{table_view}
use Rattle.layer_map.specs.DocumentSizes.{measure_of, sizes_in}
use Rattle.layer_map.specs.MapChecks.{IsArray, has_sizes, sizes_are_array, sizes_are_few}
use Rattle.layer_map.specs.Values.{whole_number}
use Rattle.map_model.specs.MapNames.{AreSizes}
use Rattle.first_refusal.proofs.AnswerLaws.{handed_on, out_of_memory}
use Rattle.first_refusal.proofs.JudgeLaws.{fails_first, goes_on}
use Rattle.layer_map.proofs.EachLaws.{count_of, fails_second, passes_each}
use Rattle.layer_map.proofs.FindLaws.{found, none_stands, stands}
use Rattle.layer_map.proofs.PairLaws.{array_there}
use Rattle.layer_map.proofs.SizeLaws.{sizes_fit}
use Rattle.layer_map.proofs.ValueLaws.{values_in-array}
use Rattle.layer_map.proofs.sizes.read_sizes.Goals as goal

pub returns-in_err-values : goal.returns-in_err-values
returns-in_err-values c =
    let refused = c.in_err-values.ensures.refused in
    handed_on _ _ c.from_residual.result c.in_err-values.field-0.0 c.from_residual.ensures.1
    (rw refused.0 (fails_first _ _ _ sizes_are_array _ (λ is. refused.1 (subst IsArray (sym c.sizes_at.ensures) is))))

pub returns-then-values-gt-MOST_SIZES : goal.returns-then-values-gt-MOST_SIZES
returns-then-values-gt-MOST_SIZES c =
    let is = sym c.sizes_at.ensures ∙ c.in_ok-values.ensures.array in
    let count = count_of _ _ (values_in-array (sizes_in (table_view c.args.document.now)) c.in_ok-values.values.now is) in
    let many = c.if-values-gt-MOST_SIZES.true in
    fails_second _ _ _ sizes_are_array sizes_are_few _ (rw is refl) (λ few. omega (arith, count, many, few))

pub returns-in-None : goal.returns-in-None
returns-in-None c =
    let measure = measure_of (table_view c.args.document.now) in
    let is = sym c.sizes_at.ensures ∙ c.in_ok-values.ensures.array in
    let there = array_there whole_number (AreSizes measure) _ c.in_ok-values.values.now None is (rw (c.in-None.is, c.measure_of.ensures) at c.in_ok-sizes.ensures) in
    goes_on _ _ _ (sizes_are_array ∷ sizes_are_few ∷ []) (has_sizes ∷ []) _ (sizes_fit _ _ is c.if-values-gt-MOST_SIZES.false)
    (fails_first _ _ _ has_sizes [] (none_stands there))

pub returns-in-Some : goal.returns-in-Some
returns-in-Some c =
    let measure = measure_of (table_view c.args.document.now) in
    let is = sym c.sizes_at.ensures ∙ c.in_ok-values.ensures.array in
    let read = rw (c.in-Some.is, c.measure_of.ensures) at c.in_ok-sizes.ensures in
    let there = found (array_there whole_number (AreSizes measure) _ c.in_ok-values.values.now (Some c.in-Some.sizes.items) is read) in
    goes_on _ _ _ (sizes_are_array ∷ sizes_are_few ∷ []) (has_sizes ∷ []) _ (sizes_fit _ _ is c.if-values-gt-MOST_SIZES.false)
    (passes_each _ (has_sizes ∷ []) (stands there, tt) (rw c.from_vec.ensures there))

pub returns-in_err-sizes : goal.returns-in_err-sizes
returns-in_err-sizes c = out_of_memory _ _ c.from_residual-in_err-sizes.result c.from_residual-in_err-sizes.ensures.1
