use Rattle.std.proofs.Common.{take}
use Rattle.touch_sweep.proofs.AcrossSteps.{AreMeetingAmong}
use Rattle.touch_sweep.proofs.across.meeting_among.Given as goal

abbrev pub invariant-loop-a : goal.invariant-loop-a
invariant-loop-a l = AreMeetingAmong l.first l.second (take l.a-index l.pairs) l.met.items
