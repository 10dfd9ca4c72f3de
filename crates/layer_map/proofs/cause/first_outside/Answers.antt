use Rattle.std.proofs.Common.{below_more}
use Rattle.layer_map.proofs.CauseLaws.{inside_at, none_outside, outside_at}
use Rattle.layer_map.proofs.FindLaws.{found, none_found}
use Rattle.layer_map.proofs.cause.first_outside.Goals as goal

pub returns-in-None-clause-some : goal.returns-in-None-clause-some
returns-in-None-clause-some c =
    outside_at c.args.values.now c.loop-number.number c.index-values-number.result c.args.low c.args.high c.loop-number-test.true c.index-values-number.is (none_found c.in-None.ensures)

pub loop-number-preserved : goal.loop-number-preserved
loop-number-preserved c =
    below_more _ _ c.loop-number.invariant
    (inside_at c.args.values.now c.loop-number.number c.index-values-number.result c.args.low c.args.high _ c.loop-number-test.true c.index-values-number.is (found c.in-Some.ensures))

pub returns-clause-none : goal.returns-clause-none
returns-clause-none c = none_outside c.args.values.now c.loop-number.number c.loop-number-test.false c.args.low c.args.high c.loop-number.invariant
