-- the corners of a path, as one comes to them
use Rattle.std.specs.Prelude.{Bool, false, not, if◌then◌else◌, List, [], ◌∷◌, Option, Some, None}
use Rattle.geo_core.specs.declared.plane.Point.{Point}
use Rattle.rect_cover.specs.PathPieces.{is_long, direction_of, is_same}
use Rattle.rect_cover.specs.declared.direction.Direction.{Direction}

-- whether a path that came to a point in the one direction leaves it in another
abbrev pub turns : Option Direction → Direction → Bool
turns None next = false
turns (Some before) next = not (is_same before next)

-- the corners from a point on, to which one came in this direction: the point itself, where the path turns at it or ends
abbrev pub corners_ahead : Point → Option Direction → List Point → List Point
corners_ahead at heading [] = at ∷ []
corners_ahead at heading (to ∷ rest) =
    if is_long (at, to)
    then (if turns heading (direction_of (at, to))
    then at ∷ corners_ahead to (Some (direction_of (at, to))) rest
    else corners_ahead to (Some (direction_of (at, to))) rest)
    else corners_ahead at heading rest
