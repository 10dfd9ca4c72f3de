-- which cells placed shapes cover
use Rattle.std.specs.Prelude.{ℕ, List, Contains}
use Rattle.geo_core.specs.declared.plane.Cell.{Cell}
use Rattle.map_model.specs.MapNames.{LayerMap, IsMappedTo}
use Rattle.flatten.specs.Routes.{Route}
use Rattle.rect_cover.specs.Covers.{Covers}
use Rattle.rect_cover.specs.RoutePoints.{route_points}

-- one of the routes ends in a shape of the metal or the cut with this number, and the shape covers the cell where the
-- route places it
pub record IsCoveredOn (layer_map : LayerMap) (routes : List Route) (number : ℕ) (c : Cell) : Type 0 where
  pub route : Route
  pub among : Contains routes route
  pub is_mapped : IsMappedTo layer_map (route.shape.layer, route.shape.datatype) number
  pub covers : Covers route.shape.kind (route_points route) c
