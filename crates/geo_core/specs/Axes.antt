-- what a rectangle has along each of the two axes
use Rattle.std.specs.Prelude.{ℤ}
use Rattle.geo_core.specs.declared.axis.Axis.{Axis}
use Rattle.geo_core.specs.declared.axis.Axis.TheVariants.{X, Y}
use Rattle.geo_core.specs.declared.plane.Rect.{Rect}

-- the least of its columns or rows
abbrev pub low_along : Axis → Rect → ℤ
low_along X rect = rect.x0
low_along Y rect = rect.y0

-- the number past the greatest of them
abbrev pub high_along : Axis → Rect → ℤ
high_along X rect = rect.x1
high_along Y rect = rect.y1
