-- routes: the ways from a structure, reference by reference, to the shapes that it places
use Rattle.std.specs.Prelude.{ℕ, zero, suc, List, [], ◌∷◌, map, flat_map, filter, length, sum_by}
use Rattle.lists.specs.Words.{enumerate_from, option_map_or}
use Rattle.library_model.specs.declared.element.Element.{Element}
use Rattle.library_model.specs.declared.element.Element.TheVariants.{Shape as shape_element, Reference as reference_element}
use Rattle.library_model.specs.declared.element.Reference.{Reference}
use Rattle.library_model.specs.declared.element.Shape.{Shape}
use Rattle.library_model.specs.declared.library.Structure.{Structure}
use Rattle.map_model.specs.MapNames.{LayerMap}
use Rattle.flatten.specs.Structures.{elements_of, is_mapped, target_of}
use Rattle.flatten.specs.Steps.{Step, steps_of}

-- a route: its steps, and the shape in which it ends, with the numbers of the shape's structure and element
pub record Route : Type 0 where
  pub steps : List Step
  pub structure : ℕ
  pub element : ℕ
  pub shape : Shape

-- the route with one step more in front
abbrev pub behind_step : Step → Route → Route
behind_step step route = record route { steps = step ∷ route.steps }

-- The routes that begin at one element of the structure with this number. A shape is the end of a route without steps.
-- Each step of a reference goes on by each of the routes that its target has.
abbrev pub routes_at : (Reference → List Route) → ℕ → ℕ × Element → List Route
routes_at routes_from_target structure (number, shape_element shape) = record {
  steps = [];
  structure = structure;
  element = number;
  shape = shape;
} ∷ []
routes_at routes_from_target structure (number, reference_element reference) =
    flat_map (λ step. map (behind_step step) (routes_from_target reference)) (steps_of reference)

-- the routes from a structure, its elements in file order
abbrev pub routes_through : List Structure → (Reference → List Route) → ℕ → List Route
routes_through structures routes_from_target start = flat_map (routes_at routes_from_target start)
    (enumerate_from 0 (elements_of structures start))

-- The routes from a structure that have at most so many steps: where no step is left, references lead nowhere, and else
-- on by one step less. A name that no structure has leads nowhere.
unfoldable pub routes : List Structure → ℕ → ℕ → List Route
routes structures zero = routes_through structures (λ reference. [])
routes structures (suc steps) = routes_through structures (λ reference. option_map_or (routes structures steps)
    (target_of structures reference) [])

-- those of them that end in a shape of a mapped layer
abbrev pub mapped_routes : LayerMap → List Route → List Route
mapped_routes layer_map = filter (λ route. is_mapped layer_map route.shape)

-- how many points the shapes have in which routes end
abbrev pub point_count : List Route → ℕ
point_count = sum_by (λ route. length route.shape.points)
