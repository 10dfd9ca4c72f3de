-- where the shape in which a route ends comes to lie
use Rattle.std.specs.Prelude.{List, map}
use Rattle.geo_core.specs.declared.plane.Point.{Point}
use Rattle.flatten.specs.Routes.{Route}
use Rattle.flatten.specs.Steps.{moved_along}

-- where a route moves the points of its shape
abbrev pub route_points : Route → List Point
route_points route = map (λ point. moved_along route.steps point) route.shape.points
