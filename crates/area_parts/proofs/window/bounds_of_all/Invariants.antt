use Rattle.std.proofs.Common.{take}
use Rattle.area_parts.specs.inside.LayoutBounds.{AreBounds}
use Rattle.area_parts.proofs.laws.WindowLaws.{rects_of}
use Rattle.area_parts.proofs.window.bounds_of_all.Given as goal

abbrev pub invariant-loop-list : goal.invariant-loop-list
invariant-loop-list l = AreBounds (rects_of (take l.list-index l.lists)) l.bounds
