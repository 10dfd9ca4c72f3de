-- boundaries of a few cells: their outlines, and which numbers they take
use Rattle.std.specs.Prelude.{ℕ, pos, Bool, List, [], ◌∷◌, ◌^◌, nat_lt}
use Rattle.std.specs.List.{list_all}
use Rattle.geo_core.specs.declared.plane.Point.{Point}

-- the point so far to the right of the origin, and so far above it
abbrev pub corner : ℕ → ℕ → Point
corner x y = record { x = pos x; y = pos y }

-- the outline of [0,right)x[bottom,top): from the lower left corner counterclockwise, and back to it
abbrev pub outline : ℕ → ℕ → ℕ → List Point
outline right bottom top = corner 0 bottom ∷ corner right bottom ∷ corner right top ∷ corner 0 top ∷ corner 0 bottom ∷ []

-- each of the numbers fits two bytes
abbrev pub are_small : List ℕ → Bool
are_small numbers = list_all (λ n. nat_lt n (2 ^ 16)) numbers
