use Rattle.std.proofs.Common.{take}
use Rattle.remnants.specs.inside.IslandBoxes.{GainsHalves, IsOfRects}
use Rattle.remnants.proofs.island_boxes.with_rects.Given as goal

abbrev pub invariant-loop-rect : goal.invariant-loop-rect
invariant-loop-rect l = GainsHalves (IsOfRects (take l.rect-index l.rects) l.terminal) l.fn.boxes.items l.more.items
