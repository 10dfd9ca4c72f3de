-- the routes that begin at parts
use Rattle.std.specs.Prelude.{ℕ, zero, suc, List, [], ◌∷◌, map, flat_map, Vec}
use Rattle.lists.specs.Words.{Global}
use Rattle.library_model.specs.declared.element.Shape.{Shape}
use Rattle.flatten.specs.Steps.{Step, steps_of}
use Rattle.flatten.specs.Routes.{Route, behind_step}
use Rattle.flatten.specs.inside.FollowedParts.{parts_at}
use Rattle.flatten.specs.declared.part.Part.{Part}
use Rattle.flatten.specs.declared.part.Part.TheVariants.{End, Copies}

-- the route along these steps to a shape
abbrev pub route_to : List Step → ℕ → ℕ → Shape → Route
route_to steps structure element shape = record { steps = steps; structure = structure; element = element; shape = shape }

-- the routes that begin at a part of the structure with this number, where those from targets are these
abbrev pub part_routes : (ℕ → List Route) → ℕ → Part → List Route
part_routes from structure (End element layer shape) = route_to [] structure element shape.now ∷ []
part_routes from structure (Copies reference target) = flat_map (λ step. map (behind_step step) (from target)) (steps_of reference.now)

-- the routes that begin at the parts of the structure with this number and have at most so many steps
unfoldable pub node_routes : List (Vec Part Global) → ℕ → ℕ → List Route
node_routes nodes zero one = flat_map (part_routes (λ target. []) one) (parts_at nodes one)
node_routes nodes (suc steps) one = flat_map (part_routes (node_routes nodes steps) one) (parts_at nodes one)

-- the routes from the target of a reference, where at most so many steps begin with that reference's
abbrev pub routes_below : List (Vec Part Global) → ℕ → ℕ → List Route
routes_below nodes zero target = []
routes_below nodes (suc steps) target = node_routes nodes steps target
