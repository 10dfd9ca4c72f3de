use Rattle.std.proofs.Common.{◌+◌, ◌*◌, ◌≤◌, length}
use Rattle.skyline_runs.specs.inside.Skylines.{HasSides}
use Rattle.skyline_runs.proofs.Looking.{sides_of}
use Rattle.skyline_runs.proofs.TwiceCovering.{IsTwiceTo}
use Rattle.skyline_runs.proofs.runs.twice_runs_within.Given as goal

abbrev pub invariant-loop-rect : goal.invariant-loop-rect
invariant-loop-rect l = record {
  cells : IsTwiceTo l.once l.twice l.rect-items l.rect-index;
  looks : l.left + l.rect-index ≤ l.initial.left;
  once_sides : HasSides (sides_of l.rect-items) l.once;
  twice_sides : HasSides (sides_of l.rect-items) l.twice;
  few : l.initial.left ≤ l.left + l.rect-index * ((2 * length l.rect-items + 1) * (2 * length l.rect-items + 2));
}
