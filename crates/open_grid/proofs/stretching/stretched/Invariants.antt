use Rattle.std.proofs.Common.{take}
use Rattle.open_grid.specs.inside.ZoneSteps.{AreStretched}
use Rattle.open_grid.proofs.stretching.stretched.Given as goal

abbrev pub invariant-loop-line : goal.invariant-loop-line
invariant-loop-line l = AreStretched l.axis l.zone (take l.line-index l.lines) l.rects.items
