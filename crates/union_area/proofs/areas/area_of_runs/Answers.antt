use Rattle.std.proofs.Common.{◌+◌, ◌^◌, ◌<◌, arith, length}
use Rattle.fault_model.specs.FaultNames.{cells_of}
use Rattle.union_area.proofs.laws.PartLaws.{few_tallied}
use Rattle.union_area.proofs.RunLaws.{all_counted, none_counted, one_counted}
use Rattle.union_area.proofs.areas.area_of_runs.Goals as goal

pub loop-run-init : goal.loop-run-init
loop-run-init c = none_counted c.args.runs.now c.args.window c.requires.within

pub overflow_add-area : goal.overflow_add-area
overflow_add-area c =
    let more = one_counted c.args.runs.now c.args.window c.requires.within c.requires.apart _ _ _ c.loop-run-test.true c.run-item.is c.loop-run.invariant in
    let few : c.loop-run.area + length (cells_of c.run-item.result) < 2 ^ 63 = few_tallied c.args.window _ more.tally in
    omega (arith, c.count_of-area.ensures.count)

pub loop-run-preserved : goal.loop-run-preserved
loop-run-preserved c =
    rw c.count_of-area.ensures.count (one_counted c.args.runs.now c.args.window c.requires.within c.requires.apart _ _ _ c.loop-run-test.true c.run-item.is c.loop-run.invariant)

pub returns : goal.returns
returns c =
    let whole = all_counted c.args.runs.now c.args.window c.requires.within _ _ c.loop-run-test.false c.loop-run.invariant in
    record { tally = whole; small = few_tallied c.args.window _ whole }
