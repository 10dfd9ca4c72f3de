use Rattle.std.proofs.Common.{arith}
use Rattle.lists.proofs.Words.{ints, clamps, All-nil}
use Rattle.touch_sweep.proofs.StripSteps.{more_within, all_within}
use Rattle.touch_sweep.proofs.strip.Strip.around.Goals as goal

pub loop-entry-init : goal.loop-entry-init
loop-entry-init c = All-nil _

pub loop-entry-preserved : goal.loop-entry-preserved
loop-entry-preserved c = more_within c.args.entries.now c.loop-entry.entry-index c.entry-item.result _ _ _ _ c.loop-entry-test.true c.entry-item.is
    (omega (arith, ints, clamps)) (omega (arith, ints, clamps)) (omega (arith, ints, clamps)) (omega (arith, ints, clamps)) c.loop-entry.invariant

pub returns-clause-within : goal.returns-clause-within
returns-clause-within c = all_within c.args.entries.now c.loop-entry.entry-index _ _ c.loop-entry-test.false c.loop-entry.invariant
