-- parts of a window
use Rattle.std.specs.Prelude.{ℕ, ℤ, pos, ◌≡◌, ◌*◌, ◌≤◌, ◌+ℤ◌, ◌-ℤ◌, ◌<ℤ◌, ◌≤ℤ◌, ◌↔◌, ◌⊎◌, length, unsigned_abs}
use Rattle.geo_core.specs.Intervals.{IsWithin}
use Rattle.geo_core.specs.Plane.{Has, low_along, high_along}
use Rattle.geo_core.specs.declared.axis.Axis.{Axis}
use Rattle.geo_core.specs.declared.axis.Axis.TheVariants.{X, Y}
use Rattle.geo_core.specs.declared.plane.Cell.{Cell}
use Rattle.geo_core.specs.declared.plane.Rect.{Rect}
use Rattle.fault_model.specs.FaultNames.{range}

-- each cell of the window lies in one of the two rectangles and not in the other, and they have no other cells
pub record AreParts (window first second : Rect) : Type 0 where
  pub cells : (c : Cell) → Has window c ↔ (Has first c ⊎ Has second c)
  pub apart : (c : Cell) → Has first c → Has second c → ⊥

-- the rectangle has each cell of the window
abbrev pub HasAllOf : Rect → Rect → Type 0
HasAllOf window rect = (c : Cell) → Has window c → Has rect c

-- the place lies between two others
pub record IsBetween (low high place : ℤ) : Type 0 where
  pub above : low <ℤ place
  pub below : place <ℤ high

-- the place lies half way between two others: neither side of it is longer than the other by more than one
abbrev pub IsHalfWay : ℤ → ℤ → ℤ → Type 0
IsHalfWay low high place = IsWithin (place -ℤ low) (high -ℤ place) (pos 1)

-- twice the distance of the place from the middle of two others, which may lie between two places
abbrev pub twice_from_middle : ℤ → ℤ → ℤ → ℕ
twice_from_middle low high place = unsigned_abs ((place +ℤ place) -ℤ (low +ℤ high))

-- it is no farther from their middle than another place
abbrev pub IsAsCentral : ℤ → ℤ → ℤ → ℤ → Type 0
IsAsCentral low high place other = twice_from_middle low high place ≤ twice_from_middle low high other

-- the cells lie in one line along the axis: in one row for X, which goes from left to right, and in one column for Y
abbrev pub AreInLine : Axis → Cell → Cell → Type 0
AreInLine X c d = c.j ≡ d.j
AreInLine Y c d = c.i ≡ d.i

-- where the cell stands along the axis: its column, or its row
abbrev pub place_along : Axis → Cell → ℤ
place_along X c = c.i
place_along Y c = c.j

-- the window is cut at the place along the axis: the first rectangle has its cells before the place, and the second the others
pub record AreCutAt (axis : Axis) (place : ℤ) (window first second : Rect) : Type 0 where
  pub before : (c : Cell) → Has first c ↔ (Has window c × (place_along axis c <ℤ place))
  pub behind : (c : Cell) → Has second c ↔ (Has window c × (place ≤ℤ place_along axis c))

-- the line has the cells of the window that stand first along the axis: its left column, or its bottom row
pub record IsFirstLine (axis : Axis) (window line : Rect) : Type 0 where
  pub cells : (c : Cell) → Has line c ↔ (Has window c × (place_along axis c ≡ low_along axis window))

-- how many places the window has along the axis: its columns, or its rows
abbrev pub count_along : Axis → Rect → ℕ
count_along axis window = length (range (low_along axis window) (high_along axis window))

-- neither side of the rectangle is longer than four times the other
pub record IsBroad (rect : Rect) : Type 0 where
  pub wide : count_along X rect ≤ 4 * count_along Y rect
  pub high : count_along Y rect ≤ 4 * count_along X rect
