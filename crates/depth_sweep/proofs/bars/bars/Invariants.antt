use Rattle.std.proofs.Common.{take}
use Rattle.depth_sweep.specs.inside.Bars.{AreBarsOf}
use Rattle.depth_sweep.proofs.bars.bars.Given as goal

abbrev pub invariant-loop-rect : goal.invariant-loop-rect
invariant-loop-rect l = AreBarsOf l.window (take l.rect-index l.rects) l.places l.bars.items
