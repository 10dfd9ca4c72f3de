use Rattle.gds_syntax.proofs.TurnLaws.{reference_checks_hold, fault_where_magnified, fault_where_absolute, fault_where_bad}
use Rattle.gds_syntax.proofs.references.turn_of.Goals as goal

pub returns-then-not-is_as_large-clause-failed : goal.returns-then-not-is_as_large-clause-failed
returns-then-not-is_as_large-clause-failed c =
    fault_where_magnified c.args.own.now c.args.at (λ large. cc (c.is_as_large.ensures.1 large, c.if-not-is_as_large.true))

pub returns-then-strans-ne0-clause-failed : goal.returns-then-strans-ne0-clause-failed
returns-then-strans-ne0-clause-failed c =
    fault_where_absolute c.args.own.now c.u16_in-strans.result c.u16_in-strans.ensures c.args.at (c.is_as_large.ensures.0 c.if-not-is_as_large.false) c.if-strans-ne0.true

pub returns-in_default-clause-failed : goal.returns-in_default-clause-failed
returns-in_default-clause-failed c =
    fault_where_bad c.args.own.now c.u16_in-strans.result c.u16_in-strans.ensures c.args.at (c.is_as_large.ensures.0 c.if-not-is_as_large.false)
    c.if-strans-ne0.false c.in_default.ensures.not_whole

pub returns-clause-passed : goal.returns-clause-passed
returns-clause-passed c =
    reference_checks_hold c.args.own.now c.u16_in-strans.result c.u16_in-strans.ensures c.in-Some.quarters (c.is_as_large.ensures.0 c.if-not-is_as_large.false)
    c.if-strans-ne0.false c.in-Some.ensures.whole
