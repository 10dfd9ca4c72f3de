use Rattle.std.proofs.Common.{◌∙◌, ap, arith, length, List, ◌+◌, ◌*◌, ◌≤◌}
use Rattle.lists.proofs.Words.{IfOk-weaker, ints}
use Rattle.touch_sweep.specs.inside.Strips.{meets_partly}
use Rattle.touch_sweep.specs.declared.numbered.Numbered.{Numbered}
use Rattle.touch_sweep.proofs.SearchSteps.{IsByRow-filter}
use Rattle.touch_sweep.proofs.LinkSteps.{column_begins, column_beside, link_column_steps}
use Rattle.touch_sweep.proofs.WorkLaws.{filter_few}
use Rattle.touch_sweep.proofs.link.link_column.Goals as goal

pub link_across-requires-clause-begin : goal.link_across-requires-clause-begin
link_across-requires-clause-begin c = column_begins c.args.points.now c.args.first _ _ c.column_of-column.ensures.begins c.column_of-column.ensures.ends c.requires.column

pub chain-requires : goal.chain-requires
chain-requires c =
    let low = c.column_of-column.result.low in let high = c.column_of-column.result.high in
    let begin = column_begins c.args.points.now c.args.first low high c.column_of-column.ensures.begins c.column_of-column.ensures.ends c.requires.column in
    let partly_is = c.as_slice.ensures.value ∙ c.in_ok-partly.ensures.partly in
    let from = c.column_of-column.ensures.begins in let to = c.column_of-column.ensures.ends in
    record {
      points = c.requires.points;
      spans = IsByRow-filter (meets_partly low high) c.args.spans.now _ partly_is c.requires.spans;
      rows = column_beside low high c.args.points.now c.args.spans.now _ begin partly_is (omega (arith, ints));
    }

pub returns-clause-joined : goal.returns-clause-joined
returns-clause-joined c =
    let low = c.column_of-column.result.low in let high = c.column_of-column.result.high in
    let begin = column_begins c.args.points.now c.args.first low high c.column_of-column.ensures.begins c.column_of-column.ensures.ends c.requires.column in
    IfOk-weaker _ _ _
    (λ (u : Unit {0}) found. link_column_steps low high c.args.points.now c.args.spans.now _ begin
    (c.as_slice.ensures.value ∙ c.in_ok-partly.ensures.partly) c.in_ok-partly.ensures.across found)
    c.chain.ensures.joined

pub returns-clause-few : goal.returns-clause-few
returns-clause-few c =
    let low = c.column_of-column.result.low in let high = c.column_of-column.result.high in
    let partly = ap (λ (xs : List Numbered). length xs) (c.as_slice.ensures.value ∙ c.in_ok-partly.ensures.partly) in
    let fewer = filter_few (meets_partly low high) c.args.spans.now in
    let across = c.in_ok-partly.ensures.few in
    IfOk-weaker _ _ _
    (λ (u : Unit {0}) (more : length c.chain.new.pairs.items ≤ length c.link_across.new.pairs.items + 2 * (length c.args.points.now + length c.as_slice.result.now)). omega arith)
    c.chain.ensures.few
