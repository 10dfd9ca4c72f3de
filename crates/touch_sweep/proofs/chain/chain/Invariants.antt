use Rattle.std.proofs.Common.{◌+◌, ◌*◌, ◌≤◌, length}
use Rattle.touch_sweep.specs.inside.Chains.{IsChaining}
use Rattle.touch_sweep.proofs.chain.chain.Given as goal

abbrev pub invariant-loop-point : goal.invariant-loop-point
invariant-loop-point l = record {
  chaining : IsChaining l.fn.points l.fn.spans l.points l.spans l.open_points.items l.open_spans.items l.initial.pairs.items l.pairs.items;
  few : length l.pairs.items + length l.open_points.items + length l.open_spans.items + 2 * (length l.points + length l.spans)
      ≤ length l.initial.pairs.items + 2 * (length l.fn.points + length l.fn.spans);
}

abbrev pub decreases-loop-point : goal.decreases-loop-point
decreases-loop-point l = length l.points + length l.spans
