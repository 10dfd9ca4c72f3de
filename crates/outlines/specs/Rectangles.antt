-- the outlines of a rectangle
use Rattle.std.specs.Prelude.{reverse, ℕ, List, [], ◌∷◌, ◌++◌, take, drop, ◌<◌, ◌≡◌}
use Rattle.geo_core.specs.Plane.{circuit}
use Rattle.geo_core.specs.declared.plane.Point.{Point}
use Rattle.geo_core.specs.declared.plane.Rect.{Rect}

-- the corners, counterclockwise from the lower left
abbrev pub rectangle_corners : Rect → List Point
rectangle_corners rect =
    record { x = rect.x0; y = rect.y0 } ∷ record { x = rect.x1; y = rect.y0 }
    ∷ record { x = rect.x1; y = rect.y1 } ∷ record { x = rect.x0; y = rect.y1 } ∷ []

-- the list in the same order, begun at the item of this index: those in front of it come last
abbrev pub rotation : {X : Type 0} → ℕ → List X → List X
rotation start items = drop start items ++ take start items

-- the points are the four corners in one direction or the other, begun at any of them, and then the first of them again
pub data GoesRound (rect : Rect) (points : List Point) : Type 0 where
  counterclockwise : (start : ℕ) → start < 4 → points ≡ circuit (rotation start (rectangle_corners rect)) → GoesRound rect points
  clockwise : (start : ℕ) → start < 4 → points ≡ circuit (rotation start (reverse (rectangle_corners rect))) →
      GoesRound rect points
