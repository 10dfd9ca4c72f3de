use Rattle.std.proofs.Common.{arith}
use Rattle.lists.proofs.Words.{ints}
use Rattle.area_rows.proofs.StepBounds.{two_rects}
use Rattle.area_rows.proofs.sweeps.step_rows.counts_twice.Goals as goal

pub returns-in-Ok-clause-few : goal.returns-in-Ok-clause-few
returns-in-Ok-clause-few g c =
    let lower = c.new-lower.ensures in
    let upper = c.new-upper.ensures in
    two_rects c.new-lower.result c.new-upper.result (omega (arith, ints)) (omega (arith, ints)) (omega (arith, ints)) c.args.steps.now
    c.area_twice.new.steps c.area_twice.ensures.few_steps

pub returns-in-Err-clause-few : goal.returns-in-Err-clause-few
returns-in-Err-clause-few g c =
    let lower = c.new-lower.ensures in
    let upper = c.new-upper.ensures in
    two_rects c.new-lower.result c.new-upper.result (omega (arith, ints)) (omega (arith, ints)) (omega (arith, ints)) c.args.steps.now
    c.area_twice.new.steps c.area_twice.ensures.few_steps
