use Rattle.std.proofs.Common.{◌≡◌, length}
use Rattle.touch_sweep.proofs.EntrySteps.{AreFirstNumbered}
use Rattle.touch_sweep.proofs.numbered.with_numbers.Given as goal

abbrev pub invariant-loop-number : goal.invariant-loop-number
invariant-loop-number l = record { numbered : AreFirstNumbered l.rects l.number l.entries.items; as_many : length l.entries.items ≡ l.number }
