use Rattle.std.proofs.Common.{arith, ◌∙◌}
use Rattle.lists.proofs.Words.{ints}
use Rattle.union_area.proofs.SpanLaws.{both_rows, joined_as}
use Rattle.union_area.proofs.spans.above.Goals as goal

pub returns : goal.returns
returns c =
    both_rows c.args.one c.args.other c.of.result (omega (arith, ints, c.if-one-other.false)) (omega (arith, ints, c.if-one-other-2.false)) (c.of.ensures.left ∙ c.columns.ensures.low) (c.of.ensures.right ∙ c.columns.ensures.high)
    (joined_as _ _ _ _ _ _ _ _ _ _ _ _ c.rows.ensures.low c.rows.ensures.high c.rows-2.ensures.low c.rows-2.ensures.high c.of.ensures.bottom c.of.ensures.top
    (omega (arith, ints, c.if-one-other-3.false)) (omega (arith, ints, c.if-other-one.false)) c.join.ensures)
