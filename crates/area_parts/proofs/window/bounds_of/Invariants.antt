use Rattle.std.proofs.Common.{take}
use Rattle.area_parts.specs.inside.LayoutBounds.{AreBounds}
use Rattle.area_parts.proofs.window.bounds_of.Given as goal

abbrev pub invariant-loop-rect : goal.invariant-loop-rect
invariant-loop-rect l = AreBounds (take l.rect-index l.rects) l.bounds
