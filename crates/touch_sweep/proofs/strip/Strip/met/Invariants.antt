use Rattle.std.proofs.Common.{◌≡◌, take, filter}
use Rattle.touch_sweep.specs.inside.Strips.{crosses, meets_partly}
use Rattle.touch_sweep.proofs.strip.Strip.met.Given as goal

abbrev pub invariant-loop-entry : goal.invariant-loop-entry
invariant-loop-entry l =
    (l.across.items ≡ filter (crosses l.self.low l.self.high) (take l.entry-index l.entries))
    × (l.partly.items ≡ filter (meets_partly l.self.low l.self.high) (take l.entry-index l.entries))
