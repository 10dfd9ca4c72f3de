use Rattle.std.proofs.Common.{arith, below_more}
use Rattle.layer_map.proofs.CauseLaws.{falls_at, none_falls, rises_at}
use Rattle.layer_map.proofs.cause.first_fall.Goals as goal

pub loop-number-init : goal.loop-number-init
loop-number-init c k less (before, is, falls) = omega arith

pub returns-then-is_fall-clause-some : goal.returns-then-is_fall-clause-some
returns-then-is_fall-clause-some c =
    falls_at c.args.values.now c.loop-number.number c.index-values-before.result c.index-values-number.result c.loop-number.auto.number c.loop-number-test.true
    c.index-values-before.is c.index-values-number.is (c.is_fall.ensures.0 c.if-is_fall.true)

pub loop-number-preserved : goal.loop-number-preserved
loop-number-preserved c =
    below_more _ _ c.loop-number.invariant
    (rises_at c.args.values.now c.loop-number.number c.index-values-before.result c.index-values-number.result c.loop-number.auto.number c.loop-number-test.true
    c.index-values-before.is c.index-values-number.is (λ fall. cc (c.is_fall.ensures.1 fall, c.if-is_fall.false)))

pub returns-clause-none : goal.returns-clause-none
returns-clause-none c = none_falls c.args.values.now c.loop-number.number c.loop-number-test.false c.loop-number.invariant
