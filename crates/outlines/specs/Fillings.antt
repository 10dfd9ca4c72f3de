-- lists of rectangles that have together a set of cells
use Rattle.std.specs.Prelude.{List, All, ◌↔◌}
use Rattle.geo_core.specs.Plane.{IsInLayout, IsInUnion}
use Rattle.geo_core.specs.declared.plane.Cell.{Cell}
use Rattle.geo_core.specs.declared.plane.Rect.{Rect}

-- the rectangles have together the cells that are covered, and no others, and each lies where a layout may
pub record IsCover (IsCovered : Cell → Type 0) (rects : List Rect) : Type 0 where
  pub same : (c : Cell) → IsInUnion rects c ↔ IsCovered c
  pub within : All IsInLayout rects
