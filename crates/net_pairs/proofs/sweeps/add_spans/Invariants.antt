use Rattle.std.proofs.Common.{take}
use Rattle.net_pairs.specs.inside.Meetings.{GainsSum, meetings_with}
use Rattle.net_pairs.proofs.sweeps.add_spans.Given as goal

abbrev pub invariant-loop-span : goal.invariant-loop-span
invariant-loop-span l = GainsSum (meetings_with l.window l.lesser l.point (take l.span-index l.spans)) l.fn.sums.items.items l.sums.items.items
