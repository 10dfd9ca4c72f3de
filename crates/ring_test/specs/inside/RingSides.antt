-- the sides of a ring: each begins at a corner and ends before the next one
use Rattle.std.specs.Prelude.{ℤ, pos, ◌+ℤ◌}
use Rattle.geo_core.specs.Intervals.{IsIn}
use Rattle.ring_test.specs.Rings.{Hole, steps_across, steps_up, ring_length}

-- the number is one of the side below the hole, of that on its right, of that above it, of that on its left
abbrev pub IsBelow : Hole → ℤ → Type 0
IsBelow hole k = IsIn (pos 0) (steps_across hole) k

abbrev pub IsOnRight : Hole → ℤ → Type 0
IsOnRight hole k = IsIn (steps_across hole) (steps_across hole +ℤ steps_up hole) k

abbrev pub IsAbove : Hole → ℤ → Type 0
IsAbove hole k = IsIn (steps_across hole +ℤ steps_up hole) (steps_across hole +ℤ steps_up hole +ℤ steps_across hole) k

abbrev pub IsOnLeft : Hole → ℤ → Type 0
IsOnLeft hole k = IsIn (steps_across hole +ℤ steps_up hole +ℤ steps_across hole) (ring_length hole) k
