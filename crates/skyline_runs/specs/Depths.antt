-- in how many rectangles of a list a cell lies
use Rattle.std.specs.Prelude.{ℕ, Bool, ◌&&◌, int_le, int_lt, List, count_by}
use Rattle.geo_core.specs.declared.plane.Cell.{Cell}
use Rattle.geo_core.specs.declared.plane.Rect.{Rect}

-- the rectangle has the cell
abbrev pub has_cell : Cell → Rect → Bool
has_cell c rect = int_le rect.x0 c.i && int_lt c.i rect.x1 && (int_le rect.y0 c.j && int_lt c.j rect.y1)

-- how many rectangles of the list have the cell
abbrev pub depth_of : List Rect → Cell → ℕ
depth_of rects c = count_by (has_cell c) rects
