-- cells that are deep enough to be counted
use Rattle.std.specs.Prelude.{ℕ, ◌≤◌, List}
use Rattle.geo_core.specs.declared.plane.Cell.{Cell}
use Rattle.geo_core.specs.declared.plane.Rect.{Rect}
use Rattle.skyline_runs.specs.Depths.{depth_of}
use Rattle.depth_sweep.specs.declared.areas.Depth.{Depth}
use Rattle.depth_sweep.specs.declared.areas.Depth.TheVariants.{Once, Twice}

-- at least so many rectangles of the list have the cell
pub record IsDeep (rects : List Rect) (least : ℕ) (c : Cell) : Type 0 where
  pub deep : least ≤ depth_of rects c

-- the least depth of the cells that are counted
abbrev pub least_of : Depth → ℕ
least_of Once = 1
least_of Twice = 2
