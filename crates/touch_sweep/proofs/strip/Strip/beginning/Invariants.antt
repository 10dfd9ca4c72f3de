use Rattle.std.proofs.Common.{◌≡◌, take, filter}
use Rattle.touch_sweep.specs.inside.Strips.{begins_in}
use Rattle.touch_sweep.proofs.strip.Strip.beginning.Given as goal

abbrev pub invariant-loop-entry : goal.invariant-loop-entry
invariant-loop-entry l = l.found.items ≡ filter (begins_in l.self.low l.self.high) (take l.entry-index l.entries)
