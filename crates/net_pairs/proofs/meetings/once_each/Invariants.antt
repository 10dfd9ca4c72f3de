use Rattle.std.proofs.Common.{◌≡◌, map, take}
use Rattle.net_pairs.specs.inside.Meetings.{counted_once}
use Rattle.net_pairs.proofs.meetings.once_each.Given as goal

abbrev pub invariant-loop-run : goal.invariant-loop-run
invariant-loop-run l = l.once.items ≡ map counted_once (take l.run-index l.runs)
