-- parts of rectangles that lie in a window, by columns and rows
use Rattle.std.specs.Prelude.{ℕ, ◌+◌, ◌<◌, ◌≤◌, ◌≡◌, ◌≤ℤ◌, Bool, false, ◌&&◌, int_le, int_lt, nat_le, ℤ, List, length, All, count_by}
use Rattle.geo_core.specs.Plane.{Has}
use Rattle.geo_core.specs.declared.plane.Cell.{Cell}
use Rattle.geo_core.specs.declared.plane.Rect.{Rect}
use Rattle.depth_sweep.specs.declared.bar.Bar.{Bar}
use Rattle.skyline_runs.specs.Depths.{has_cell, depth_of}
use Rattle.depth_sweep.specs.inside.SweepPlaces.{IsInColumn}

-- the bar has the column and the row
abbrev pub has_column : ℕ → Bar → Bool
has_column column bar = nat_le bar.low column && nat_le (column + 1) bar.high

abbrev pub has_row : ℤ → Bar → Bool
has_row j bar = int_le bar.bottom j && int_lt j bar.top

-- how many of the bars have both
abbrev pub bars_over : List Bar → ℕ → ℤ → ℕ
bars_over bars column j = count_by (λ bar. has_column column bar && has_row j bar) bars

-- the bar lies within the columns and the rows of the window
pub record IsWithin (window : Rect) (places : List ℤ) (bar : Bar) : Type 0 where
  pub high : bar.high < length places
  pub bottom : window.y0 ≤ℤ bar.bottom
  pub top : bar.top ≤ℤ window.y1

-- the bar lies in the window and is over the window's cells that the rectangle has
pub record IsBarOf (window : Rect) (places : List ℤ) (rect : Rect) (bar : Bar) : Type 0 where
  pub within : IsWithin window places bar
  pub same : (column : ℕ) (c : Cell) → IsInColumn places column c.i → Has window c →
      has_column column bar && has_row c.j bar ≡ has_cell c rect

-- the rectangle has no cell in the window
abbrev pub HasNoPart : Rect → Rect → Type 0
HasNoPart window rect = (c : Cell) → Has window c → has_cell c rect ≡ false

-- the bars lie in the window, and as many of them are over each of its cells as rectangles have it; where there is no bar,
-- no rectangle has a cell there
pub record AreBarsOf (window : Rect) (rects : List Rect) (places : List ℤ) (bars : List Bar) : Type 0 where
  pub count : length bars ≤ length rects
  pub within : All (IsWithin window places) bars
  pub same : (column : ℕ) (c : Cell) → IsInColumn places column c.i → Has window c →
      bars_over bars column c.j ≡ depth_of rects c
  pub none : length bars ≡ 0 → All (HasNoPart window) rects
