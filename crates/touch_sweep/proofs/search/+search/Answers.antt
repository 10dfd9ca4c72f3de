use Rattle.std.proofs.Common.{◌∙◌, refl, arith}
use Rattle.lists.proofs.Words.{nat_tests, IfOk-weaker}
use Rattle.touch_sweep.specs.inside.Strips.{begins_in, meets_partly}
use Rattle.touch_sweep.proofs.SearchSteps.{IsByRow-filter, nothing_begins, in_two_steps, from_sweep, from_halves}
use Rattle.touch_sweep.proofs.search.+search.Goals as goal

pub returns-then-is_empty : goal.returns-then-is_empty
returns-then-is_empty t c = nothing_begins c.args.strip.low c.args.strip.high c.args.points.now c.args.spans.now c.as_slice-points.result.now _ (c.as_slice-points.ensures.value
    ∙ c.in_ok-points.ensures) refl c.args.pairs.now.items (let h = c.if-is_empty.ensures in grind (arith, nat_tests))

pub pair_across-requires : goal.pair_across-requires
pair_across-requires t c = record {
  points = IsByRow-filter (begins_in c.args.strip.low c.args.strip.high) c.args.points.now _ (c.as_slice-points.ensures.value ∙ c.in_ok-points.ensures) c.requires.points;
  spans = c.requires.spans;
}

pub search-requires : goal.search-requires
search-requires t c = (
  omega (arith, c.halves.ensures.left),
  (
    IsByRow-filter (begins_in c.args.strip.low c.args.strip.high) c.args.points.now _ (c.as_slice-points.ensures.value ∙ c.in_ok-points.ensures) c.requires.points,
    IsByRow-filter (meets_partly c.args.strip.low c.args.strip.high) c.args.spans.now _ (c.as_slice-spans.ensures.value ∙ c.in_ok-spans.ensures.partly) c.requires.spans,
  ),
)

pub search-requires-2 : goal.search-requires-2
search-requires-2 t c = (
  omega (arith, c.halves.ensures.right),
  (
    IsByRow-filter (begins_in c.args.strip.low c.args.strip.high) c.args.points.now _ (c.as_slice-points.ensures.value ∙ c.in_ok-points.ensures) c.requires.points,
    IsByRow-filter (meets_partly c.args.strip.low c.args.strip.high) c.args.spans.now _ (c.as_slice-spans.ensures.value ∙ c.in_ok-spans.ensures.partly) c.requires.spans,
  ),
)

pub sweep-requires : goal.sweep-requires
sweep-requires t c = record {
  points = IsByRow-filter (begins_in c.args.strip.low c.args.strip.high) c.args.points.now _ (c.as_slice-points.ensures.value ∙ c.in_ok-points.ensures) c.requires.points;
  spans = IsByRow-filter (meets_partly c.args.strip.low c.args.strip.high) c.args.spans.now _ (c.as_slice-spans.ensures.value ∙ c.in_ok-spans.ensures.partly) c.requires.spans;
}

pub returns-then-points-le-FEW : goal.returns-then-points-le-FEW
returns-then-points-le-FEW t c =
    let low = c.args.strip.low in let high = c.args.strip.high in
    let points = c.as_slice-points.result.now in let spans = c.as_slice-spans.result.now in
    IfOk-weaker _ _ _
    (λ (u : Unit {0}) rest. in_two_steps low high c.args.points.now c.args.spans.now points spans
    (c.as_slice-points.ensures.value ∙ c.in_ok-points.ensures) (c.as_slice-spans.ensures.value ∙ c.in_ok-spans.ensures.partly)
    _ _ _ c.in_ok-spans.ensures.across (from_sweep low high points spans rest))
    c.sweep.ensures.found

pub returns : goal.returns
returns t c =
    let low = c.args.strip.low in let high = c.args.strip.high in
    let points = c.as_slice-points.result.now in let spans = c.as_slice-spans.result.now in
    IfOk-weaker _ _ _
    (λ (u : Unit {0}) rest. in_two_steps low high c.args.points.now c.args.spans.now points spans
    (c.as_slice-points.ensures.value ∙ c.in_ok-points.ensures) (c.as_slice-spans.ensures.value ∙ c.in_ok-spans.ensures.partly)
    _ _ _ c.in_ok-spans.ensures.across (from_halves low high _ _ _ _ points spans c.halves.ensures.begins c.halves.ensures.meets c.halves.ensures.ends c.in_ok-search.ensures rest))
    c.search-2.ensures
