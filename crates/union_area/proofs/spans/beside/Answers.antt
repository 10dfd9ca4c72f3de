use Rattle.std.proofs.Common.{arith, ◌∙◌}
use Rattle.lists.proofs.Words.{ints}
use Rattle.union_area.proofs.SpanLaws.{both_columns, joined_as}
use Rattle.union_area.proofs.spans.beside.Goals as goal

pub returns : goal.returns
returns c =
    both_columns c.args.one c.args.other c.of.result (omega (arith, ints, c.if-one-other.false)) (omega (arith, ints, c.if-one-other-2.false)) (c.of.ensures.bottom ∙ c.rows.ensures.low) (c.of.ensures.top ∙ c.rows.ensures.high)
    (joined_as _ _ _ _ _ _ _ _ _ _ _ _ c.columns.ensures.low c.columns.ensures.high c.columns-2.ensures.low c.columns-2.ensures.high c.of.ensures.left c.of.ensures.right
    (omega (arith, ints, c.if-one-other-3.false)) (omega (arith, ints, c.if-other-one.false)) c.join.ensures)
