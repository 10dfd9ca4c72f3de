use Rattle.std.proofs.Common.{◌+◌, ◌*◌, ◌≤◌, length}
use Rattle.depth_sweep.specs.inside.DeepCells.{least_of}
use Rattle.depth_sweep.proofs.Sweeping.{IsSetting, IsSwept}
use Rattle.depth_sweep.proofs.areas.area.Given as goal

abbrev pub invariant-loop-event : goal.invariant-loop-event
invariant-loop-event g l = record {
  setting : IsSetting l.window l.rects l.places.items l.bars.items l.event-items;
  swept : IsSwept l.window l.rects l.places.items l.event-items (least_of l.depth) l.event-index l.tree l.row l.total;
  within : l.event-index ≤ length l.event-items;
  spent : l.steps ≤ l.fn.steps + l.event-index * (16 * (l.tree.height + 1));
  rise : l.fn.steps + l.event-index ≤ l.steps;
}
