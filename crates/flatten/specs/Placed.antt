-- placed shapes as the ends of routes
use Rattle.std.specs.Prelude.{ℕ, List, Option, ◌≡◌}
use Rattle.lists.specs.Words.{AllZip}
use Rattle.first_refusal.specs.Outcomes.{value}
use Rattle.library_model.specs.declared.library.Structure.{Structure}
use Rattle.map_model.specs.MapNames.{LayerMap, IsMappedTo}
use Rattle.flatten.specs.Routes.{Route}
use Rattle.flatten.specs.Motions.{MovesAlong}
use Rattle.flatten.specs.Placements.{Placing}
use Rattle.flatten.specs.declared.placed.Placed.{Placed}

-- the placed shape is the end of the route
pub record IsEndOf (layer_map : LayerMap) (route : Route) (placed : Placed) : Type 0 where
  pub structure : placed.structure ≡ route.structure
  pub element : placed.element ≡ route.element
  pub at : placed.at ≡ route.shape.at
  pub layer : IsMappedTo layer_map (route.shape.layer, route.shape.datatype) placed.layer
  pub moves : MovesAlong (record { turn = placed.turn; dx = placed.dx; dy = placed.dy }) route.steps

-- these are the placed shapes: the placement comes to routes, and each shape is the end of one, in their order
pub record ArePlaced (structures : List Structure) (layer_map : LayerMap) (wanted : Option (List ℕ)) (placed : List Placed) : Type 0 where
  pub routes : List Route
  pub placing : Placing structures layer_map wanted (value routes)
  pub ends : AllZip (IsEndOf layer_map) routes placed
