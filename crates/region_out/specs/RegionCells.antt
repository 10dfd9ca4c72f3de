-- which cells the top of a library covers
use Rattle.std.specs.Prelude.{ℕ, List, Contains, None, ◌≡◌}
use Rattle.geo_core.specs.declared.plane.Cell.{Cell}
use Rattle.library_model.specs.declared.library.Structure.{Structure}
use Rattle.flatten.specs.Routes.{Route, routes}
use Rattle.flatten.specs.Tops.{IsTop}
use Rattle.rect_cover.specs.Covers.{Covers}
use Rattle.rect_cover.specs.RoutePoints.{route_points}

-- A route from the top, which is the only structure to which no reference leads, ends in a shape of this layer and datatype, and
-- the shape covers the cell where the route places it.
pub record IsCoveredByTop (structures : List Structure) (layer datatype : ℕ) (c : Cell) : Type 0 where
  pub top : ℕ
  pub is_top : IsTop structures None top
  pub route : Route
  pub among : Contains (routes structures 256 top) route
  pub on_layer : route.shape.layer ≡ layer
  pub of_datatype : route.shape.datatype ≡ datatype
  pub covers : Covers route.shape.kind (route_points route) c
