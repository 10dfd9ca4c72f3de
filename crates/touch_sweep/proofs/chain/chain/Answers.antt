use Rattle.std.proofs.Common.{arith, ap, length, List, ◌+◌, ◌*◌, ◌≤◌}
use Rattle.lists.proofs.Words.{ints, nat_tests, IfOk-weaker}
use Rattle.touch_sweep.specs.declared.numbered.Numbered.{Numbered}
use Rattle.touch_sweep.specs.inside.Chains.{ChainsRest}
use Rattle.touch_sweep.proofs.ChainSteps.{none_chained, first_chained, none_of_theirs, turned, links_none, links_turned}
use Rattle.touch_sweep.proofs.chain.chain.Goals as goal

pub returns-then-is_empty-clause-joined : goal.returns-then-is_empty-clause-joined
returns-then-is_empty-clause-joined c = links_none c.args.points.now c.args.spans.now c.args.pairs.now.items (let h = c.if-is_empty.ensures in grind (arith, nat_tests))

pub loop-point-init : goal.loop-point-init
loop-point-init c =
    let no_points = ap (λ (xs : List Numbered). length xs) c.new-open_points.ensures.items in
    let no_spans = ap (λ (xs : List Numbered). length xs) c.new-open_spans.ensures.items in
    record {
      chaining = rw (c.new-open_points.ensures.items, c.new-open_spans.ensures.items)
          (none_chained c.args.points.now c.args.spans.now c.args.pairs.now.items c.requires.rows c.requires.points c.requires.spans);
      few = omega arith;
    }

pub loop-point-preserved-then-point-span : goal.loop-point-preserved-then-point-span
loop-point-preserved-then-point-span c =
    let one = ap (λ (xs : List Numbered). length xs) c.in-Some.ensures.cases.0 in
    let so_far = c.loop-point.invariant.few in let more = c.in_ok-chain_one.ensures.few in
    record {
      chaining = first_chained c.loop-point.invariant.chaining c.in-Some.point.now c.in-Some-split_first.span.now c.in-Some.later_points.now c.in-Some-split_first.later_spans.now
          c.in-Some.ensures.cases.0 c.in-Some-split_first.ensures.cases.0 (omega (arith, ints)) c.in_ok-chain_one.ensures.chained;
      few = omega arith;
    }

pub loop-point-preserved : goal.loop-point-preserved
loop-point-preserved c =
    let one = ap (λ (xs : List Numbered). length xs) c.in-Some-split_first.ensures.cases.0 in
    let so_far = c.loop-point.invariant.few in let more = c.in_ok-chain_one-2.ensures.few in
    record {
      chaining = turned (first_chained (turned c.loop-point.invariant.chaining) c.in-Some-split_first.span.now c.in-Some.point.now c.in-Some-split_first.later_spans.now c.in-Some.later_points.now
          c.in-Some-split_first.ensures.cases.0 c.in-Some.ensures.cases.0 (omega (arith, ints)) c.in_ok-chain_one-2.ensures.chained);
      few = omega arith;
    }

pub returns-in_default-split_first-clause-joined : goal.returns-in_default-split_first-clause-joined
returns-in_default-split_first-clause-joined c = IfOk-weaker _ _ _
    (λ (u : Unit {0}) (down : ChainsRest c.loop-point.points.now c.loop-point.open_points.items c.loop-point.open_spans.items c.loop-point.pairs.items c.chain_rest.new.pairs.items). down
    c.args.points.now c.args.spans.now c.args.pairs.now.items (none_of_theirs c.loop-point.invariant.chaining c.in_default-split_first.ensures.cases))
    c.chain_rest.ensures.joined

pub returns-clause-joined : goal.returns-clause-joined
returns-clause-joined c = IfOk-weaker _ _ _
    (λ (u : Unit {0}) (down : ChainsRest c.loop-point.spans.now c.loop-point.open_spans.items c.loop-point.open_points.items c.loop-point.pairs.items c.chain_rest-2.new.pairs.items). links_turned
    (down c.args.spans.now c.args.points.now c.args.pairs.now.items (none_of_theirs (turned c.loop-point.invariant.chaining) c.in_default.ensures.cases)))
    c.chain_rest-2.ensures.joined

pub returns-in_default-split_first-clause-few : goal.returns-in_default-split_first-clause-few
returns-in_default-split_first-clause-few c =
    let so_far = c.loop-point.invariant.few in
    IfOk-weaker _ _ _
    (λ (u : Unit {0}) (more : length c.chain_rest.new.pairs.items
    ≤ length c.loop-point.pairs.items + length c.loop-point.open_points.items + length c.loop-point.open_spans.items + 2 * length c.loop-point.points.now). omega arith)
    c.chain_rest.ensures.few

pub returns-clause-few : goal.returns-clause-few
returns-clause-few c =
    let so_far = c.loop-point.invariant.few in
    IfOk-weaker _ _ _
    (λ (u : Unit {0}) (more : length c.chain_rest-2.new.pairs.items
    ≤ length c.loop-point.pairs.items + length c.loop-point.open_spans.items + length c.loop-point.open_points.items + 2 * length c.loop-point.spans.now). omega arith)
    c.chain_rest-2.ensures.few
