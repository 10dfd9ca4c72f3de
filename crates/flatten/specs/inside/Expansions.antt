-- what the expansion of structures adds to a list of placed shapes
use Rattle.std.specs.Prelude.{ℕ, List, ◌++◌, ◌≡◌, map, flat_map, Contains}
use Rattle.lists.specs.Words.{Bor, AllZip}
use Rattle.library_model.specs.declared.element.Shape.{Shape}
use Rattle.library_model.specs.declared.library.Structure.{Structure}
use Rattle.map_model.specs.MapNames.{LayerMap, IsMappedTo}
use Rattle.first_refusal.specs.Checks.{Checks}
use Rattle.first_refusal.specs.Outcomes.{Outcome}
use Rattle.flatten.specs.Steps.{Step}
use Rattle.flatten.specs.Routes.{Route, behind_step}
use Rattle.flatten.specs.inside.FollowedParts.{Nodes, parts_at}
use Rattle.flatten.specs.inside.Ends.{node_routes}
use Rattle.flatten.specs.Placed.{IsEndOf}
use Rattle.flatten.specs.Placements.{PlacesInRange}
use Rattle.flatten.specs.inside.Plans.{IsPlanOf}
use Rattle.flatten.specs.declared.fault.PlaceFault.{PlaceFault}
use Rattle.flatten.specs.declared.fault.PlaceFault.TheVariants.{OutOfRange}
use Rattle.flatten.specs.declared.part.Part.TheVariants.{End}
use Rattle.flatten.specs.declared.placed.Placed.{Placed}
use Rattle.flatten.specs.declared.plan.Plan.{Plan}

-- the plan is one of some library
abbrev pub HasLibrary : Plan → Type 0
HasLibrary plan = (structures : List Structure) × (layer_map : LayerMap) × IsPlanOf structures layer_map plan

-- the route behind these steps
abbrev pub behind_steps : List Step → Route → Route
behind_steps steps route = record route { steps = steps ++ route.steps }

-- the routes that begin with one of these copies of a structure, and then have at most so many steps more
abbrev pub copy_routes : Nodes → ℕ → ℕ → List Step → List Route
copy_routes nodes left target copies = flat_map (λ step. map (behind_step step) (node_routes nodes left target)) copies

-- each shape among the parts has its layer
abbrev pub HaveLayers : LayerMap → Nodes → Type 0
HaveLayers layer_map nodes = (one element layer : ℕ) (shape : Bor Shape) → Contains (parts_at nodes one) (End element layer shape)
    → IsMappedTo layer_map (shape.now.layer, shape.now.datatype) layer

-- the list grows by one placed shape for each of the routes, in their order
pub record AddsEnds (layer_map : LayerMap) (routes : List Route) (before after : List Placed) : Type 0 where
  pub added : List Placed
  pub grown : after ≡ before ++ added
  pub ends : AllZip (IsEndOf layer_map) routes added

-- What the placement of routes comes to: where each is placed in range, the list has grown by their ends, by each map that fits.
-- Else the fault is that of the first that is not.
abbrev pub PlacesEach : {T : Type 0} → (LayerMap → Type 0) → List Route → List Placed → (T → List Placed) → Outcome T PlaceFault → Type 0
PlacesEach Fits routes before after = Checks PlacesInRange routes (λ route. OutOfRange route.shape.at)
    (λ thing. (layer_map : LayerMap) → Fits layer_map → AddsEnds layer_map routes before (after thing))

-- what an expansion behind these steps comes to, where these routes are those that go on from there
abbrev pub Expands : Nodes → List Step → List Route → List Placed → List Placed → Outcome (Unit {0}) PlaceFault → Type 0
Expands nodes steps routes before after =
    PlacesEach (λ layer_map. HaveLayers layer_map nodes) (map (behind_steps steps) routes) before (λ done. after)
