use Rattle.std.proofs.Common.{take, take_all}
use Rattle.lists.proofs.Reading.{taken_more}
use Rattle.ring_test.proofs.MergeLaws.{before_here, merged_none}
use Rattle.ring_test.proofs.merging.merge.Goals as goal

pub loop-run-init : goal.loop-run-init
loop-run-init c = merged_none

pub loop-run-preserved : goal.loop-run-preserved
loop-run-preserved c =
    let runs = c.args.runs.now in
    let k = c.loop-run.run-index in
    rw (taken_more runs k c.run-item.result c.loop-run-test.true c.run-item.is)
    (c.with_run-merged.ensures (take k runs) (before_here runs k c.run-item.result c.loop-run-test.true c.run-item.is c.requires) c.loop-run.invariant)

pub returns : goal.returns
returns c = rw (take_all c.loop-run.run-index c.args.runs.now c.loop-run-test.false) at c.loop-run.invariant
