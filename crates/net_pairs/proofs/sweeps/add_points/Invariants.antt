use Rattle.std.proofs.Common.{take}
use Rattle.net_pairs.specs.inside.Meetings.{GainsSum, meetings_with_span}
use Rattle.net_pairs.proofs.sweeps.add_points.Given as goal

abbrev pub invariant-loop-point : goal.invariant-loop-point
invariant-loop-point l = GainsSum (meetings_with_span l.window l.lesser l.span (take l.point-index l.points)) l.fn.sums.items.items l.sums.items.items
