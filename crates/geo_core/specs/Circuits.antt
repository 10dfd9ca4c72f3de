-- closed outlines
use Rattle.std.specs.Prelude.{List, [], ◌∷◌, ◌++◌, length, take, ◌≡◌, ◌≤◌}
use Rattle.geo_core.specs.declared.plane.Point.{Point}

-- the list, and then the first of its items again
abbrev pub circuit : {X : Type 0} → List X → List X
circuit items = items ++ take 1 items

-- the last of the points is the first again
pub record IsClosed (points : List Point) : Type 0 where
  pub first : Point
  pub between : List Point
  pub parts : points ≡ first ∷ between ++ first ∷ []

-- an outline: four points or more, of which the last is the first again
pub record IsOutline (points : List Point) : Type 0 where
  pub count : 4 ≤ length points
  pub closed : IsClosed points
