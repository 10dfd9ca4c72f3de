-- how many rectangles have a cell
use Rattle.std.specs.Prelude.{ℕ, ℤ, Bool, ◌&&◌, int_le, int_lt, List, count_by}
use Rattle.geo_core.specs.declared.plane.Cell.{Cell}
use Rattle.geo_core.specs.declared.plane.Rect.{Rect}

-- whether the number lies from `low` to before `high`
abbrev pub lies_in : ℤ → ℤ → ℤ → Bool
lies_in low high x = int_le low x && int_lt x high

-- whether the rectangle has the cell
abbrev pub has_cell : Cell → Rect → Bool
has_cell c rect = lies_in rect.x0 rect.x1 c.i && lies_in rect.y0 rect.y1 c.j

-- how many of the rectangles have the cell
abbrev pub depth_at : Cell → List Rect → ℕ
depth_at c rects = count_by (has_cell c) rects
