-- how sizes of defects are measured
use Rattle.std.specs.Prelude.{ℕ, ◌+◌}
use Rattle.map_model.specs.declared.measure.Measure.{Measure}
use Rattle.map_model.specs.declared.measure.Measure.TheVariants.{Radius, Side}

-- the side of a defect of this size: twice the radius, or the side itself
abbrev pub side_by : Measure → ℕ → ℕ
side_by Radius radius = radius + radius
side_by Side side = side

-- the greatest size
abbrev pub greatest_size : Measure → ℕ
greatest_size Radius = 1000000
greatest_size Side = 2000000
