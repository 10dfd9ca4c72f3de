use Rattle.std.proofs.Common.{length, take, refl, ap, arith}
use Rattle.lists.proofs.Words.{nat_tests}
use Rattle.toml.specs.View.{table_view}
use Rattle.layer_map.specs.LayerChecks.{LayerHolds, metal_keys}
use Rattle.layer_map.specs.MapChecks.{Holds, fault_of, has_metals, metals_are_few}
use Rattle.layer_map.specs.Values.{metals_in, metal_in}
use Rattle.first_refusal.proofs.AnswerLaws.{handed_on, out_of_memory}
use Rattle.first_refusal.proofs.JudgeLaws.{fails_first, given, passed}
use Rattle.layer_map.proofs.EachLaws.{all_read, count_of, fails_second, item_stops, none_read, one_more, taken_next}
use Rattle.layer_map.proofs.ValueLaws.{no_array_no_values, values_in-array}
use Rattle.layer_map.proofs.metals.read_metals.Goals as goal

pub returns-in_err-items : goal.returns-in_err-items
returns-in_err-items c =
    let refused = c.in_err-items.ensures.refused in
    let none = no_array_no_values (metal_in (table_view c.args.document.now)) refused.1 in
    handed_on _ _ c.from_residual.result c.in_err-items.field-0.0 c.from_residual.ensures.1
    (rw refused.0 (fails_first (Holds (table_view c.args.document.now)) fault_of _ has_metals _ (λ some. omega (arith, ap length none, some))))

pub returns-then-is_empty : goal.returns-then-is_empty
returns-then-is_empty c =
    let count = count_of _ _ (values_in-array (metal_in (table_view c.args.document.now)) c.in_ok-items.items.now c.in_ok-items.ensures.array) in
    fails_first (Holds (table_view c.args.document.now)) fault_of _ has_metals _ (λ some. grind (arith, nat_tests, c.is_empty.ensures, c.if-is_empty.true, some, count))

pub returns-then-items-gt-MOST_METALS : goal.returns-then-items-gt-MOST_METALS
returns-then-items-gt-MOST_METALS c =
    let count = count_of _ _ (values_in-array (metal_in (table_view c.args.document.now)) c.in_ok-items.items.now c.in_ok-items.ensures.array) in
    let many = c.if-items-gt-MOST_METALS.true in
    fails_second (Holds (table_view c.args.document.now)) fault_of _ has_metals metals_are_few _ (omega (arith, count, many)) (λ few. omega (arith, count, many, few))

pub loop-number-init : goal.loop-number-init
loop-number-init c =
    let count = count_of _ _ (values_in-array (metal_in (table_view c.args.document.now)) c.in_ok-items.items.now c.in_ok-items.ensures.array) in
    let few = c.if-items-gt-MOST_METALS.false in
    rw c.new-metals.ensures.items
    (record { read = none_read (grind (arith, nat_tests, c.is_empty.ensures, c.if-is_empty.false, count)) (omega (arith, count, few)); are_seen = c.requires })

pub returns-in_err-layer : goal.returns-in_err-layer
returns-in_err-layer c =
    let document = table_view c.args.document.now in
    let same = values_in-array (metal_in document) c.in_ok-items.items.now c.in_ok-items.ensures.array in
    let earlier = take c.loop-number.number (metals_in document) in
    let told = c.in_err-layer.ensures earlier c.loop-number.invariant.are_seen in
    handed_on _ _ c.from_residual-in_err-layer.result c.in_err-layer.field-0.0 c.from_residual-in_err-layer.ensures.1
    (item_stops _ same c.loop-number-test.true c.index-items-number.is c.loop-number.invariant.read (LayerHolds metal_keys earlier) (λ check h. h) (λ check h. h) (λ check. refl)
    (rw c.metal.ensures at told))

pub loop-number-preserved : goal.loop-number-preserved
loop-number-preserved c =
    let document = table_view c.args.document.now in
    let same = values_in-array (metal_in document) c.in_ok-items.items.now c.in_ok-items.ensures.array in
    let earlier = take c.loop-number.number (metals_in document) in
    let told = c.in_ok-layer.ensures earlier c.loop-number.invariant.are_seen in
    rw c.in_ok-push.ensures.items (record {
      read = one_more _ same c.loop-number-test.true c.index-items-number.is c.loop-number.invariant.read (LayerHolds metal_keys earlier) (λ check h. h) (λ check h. h) (λ check. refl) _
          (passed told) (given told).gives_it;
      are_seen = rw (taken_next _ same c.loop-number-test.true c.index-items-number.is) (given told).are_seen;
    })

pub returns : goal.returns
returns c =
    let document = table_view c.args.document.now in
    let same = values_in-array (metal_in document) c.in_ok-items.items.now c.in_ok-items.ensures.array in
    all_read _ same c.loop-number-test.false c.loop-number.invariant.read (λ some few count gives_them whole.
    rw c.from_vec.ensures (record { some = omega (arith, some, count); few = omega (arith, few, count); gives_them = gives_them; are_seen = rw whole at c.loop-number.invariant.are_seen }))

pub returns-in_err-push : goal.returns-in_err-push
returns-in_err-push c = out_of_memory _ _ c.from_residual-in_err-push.result c.from_residual-in_err-push.ensures.1
