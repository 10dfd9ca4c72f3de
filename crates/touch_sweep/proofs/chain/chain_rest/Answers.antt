use Rattle.std.proofs.Common.{arith, ap, length, List}
use Rattle.touch_sweep.specs.declared.numbered.Numbered.{Numbered}
use Rattle.touch_sweep.proofs.ChainSteps.{down_one, down_all}
use Rattle.touch_sweep.proofs.chain.chain_rest.Goals as goal

pub loop-first-init : goal.loop-first-init
loop-first-init c = record { chained = λ mine theirs start s. s; few = omega arith }

pub loop-first-preserved : goal.loop-first-preserved
loop-first-preserved c =
    let one = ap (λ (xs : List Numbered). length xs) c.in-Some.ensures.cases.0 in
    let so_far = c.loop-first.invariant.few in let more = c.in_ok-chain_one.ensures.few in
    record {
      chained = down_one c.loop-first.invariant.chained c.in-Some.first.now c.in-Some.later.now c.in-Some.ensures.cases.0 c.in_ok-chain_one.ensures.chained;
      few = omega arith;
    }

pub returns-clause-joined : goal.returns-clause-joined
returns-clause-joined c = down_all c.loop-first.invariant.chained c.in_default.ensures.cases

pub returns-clause-few : goal.returns-clause-few
returns-clause-few c = let so_far = c.loop-first.invariant.few in omega arith
