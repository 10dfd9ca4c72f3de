-- rectangles that have the wanted ones of some cells
use Rattle.std.specs.Prelude.{List, Contains, ◌↔◌}
use Rattle.geo_core.specs.Plane.{IsInUnion}
use Rattle.geo_core.specs.declared.plane.Cell.{Cell}
use Rattle.geo_core.specs.declared.plane.Rect.{Rect}
use Rattle.skyline_runs.specs.Runs.{AreApart}

-- they have exactly those of the cells that are wanted, and no cell in common
pub record AreWantedRects (wanted : Cell → Type 0) (cells : List Cell) (rects : List Rect) : Type 0 where
  pub cells_are : (c : Cell) → IsInUnion rects c ↔ (Contains cells c × wanted c)
  pub apart : AreApart rects
