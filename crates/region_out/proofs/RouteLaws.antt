-- The one structure is the top, and places the boundaries and nothing else.
use Rattle.std.proofs.Common.{◌≡◌, ℕ, ◌++◌, List, [], ◌∷◌, map, flat_map, None, Contains, option_to_list, refl, sym, ap, subst, arith, lit<, lit≤}
use Rattle.lists.proofs.Containing.{Contains-none}
use Rattle.lists.proofs.Mapping.{Contains-map, Contains-map_from}
use Rattle.lists.proofs.Numbering.{numbered_there, unnumbered}
use Rattle.lists.specs.Words.{enumerate_from}
use Rattle.geo_core.specs.declared.plane.Rect.{Rect}
use Rattle.library_model.specs.declared.element.Element.TheVariants.{Shape as shape_element}
use Rattle.library_model.specs.declared.library.Structure.{Structure}
use Rattle.flatten.specs.OneRoute.{IsRoute, LeadAlong, LeadsOn}
use Rattle.flatten.specs.Routes.{Route, routes}
use Rattle.flatten.specs.Steps.{Step}
use Rattle.flatten.specs.Structures.{elements_of, references_among, target_of, targets_of}
use Rattle.flatten.specs.Tops.{IsTop, IsUnnamed}
use Rattle.flatten.proofs.laws.Routes.{routes_are_listed}
use Rattle.region_out.specs.RegionLibraries.{region_boundary, region_element, region_structure}

-- boundaries are no references
no_references : (rects : List Rect) → references_among (map region_element rects) ≡ []
no_references [] = refl
no_references (rect ∷ rects) = no_references rects

module _ (rects : List Rect) where
  abbrev structures : List Structure
  structures = region_structure rects ∷ []

  -- ---- the top

  no_targets : targets_of structures 0 ≡ []
  no_targets = ap (flat_map (λ reference. option_to_list (target_of structures reference))) (no_references rects)

  is_unnamed : (one : ℕ) → IsUnnamed structures one
  is_unnamed one there = Contains-none (subst (λ (targets : List ℕ). Contains (targets ++ []) one) no_targets there)

  pub first_is_top : IsTop structures None 0
  first_is_top = record { there = lit< tt; unnamed = is_unnamed 0; only = λ other there unnamed. omega arith }

  pub only_first_is_top : (top : ℕ) → IsTop structures None top → top ≡ 0
  only_first_is_top top is = let there = is.there in omega arith

  -- ---- routes

  no_step : (step : Step) (other : ℕ) → LeadsOn structures 0 step other → Contains [] step.reference
  no_step step other is = subst (λ references. Contains references step.reference) (no_references rects) is.has

  no_steps : (steps : List Step) (other : ℕ) → LeadAlong structures 0 steps other → (steps ≡ []) × (0 ≡ other)
  no_steps [] other same = (refl, same)
  no_steps (step ∷ steps) other along = absurd (Contains-none (no_step step along.0 along.1))

  -- the route to the boundary of the rectangle, which is the element with this number
  abbrev pub route_to : ℕ → Rect → Route
  route_to number rect = record { steps = []; structure = 0; element = number; shape = region_boundary rect }

  -- each route is one to the boundary of a rectangle
  pub route_is : (route : Route) → Contains (routes structures 256 0) route
      → (rect : Rect) × Contains rects rect × (route.steps ≡ []) × (route.shape ≡ region_boundary rect)
  route_is route listed =
      let is : IsRoute structures 0 route = ((routes_are_listed structures 256 0 route).0 listed).1 in
      let ends = no_steps route.steps route.structure is.leads in
      let one : ℕ × _ = (route.element, shape_element route.shape) in
      let numbered = subst (λ structure. Contains (enumerate_from 0 (elements_of structures structure)) one) (sym ends.1) is.ends in
      let from = Contains-map_from region_element rects (shape_element route.shape) (unnumbered (map region_element rects) one numbered) in
      let same : region_element from.0 ≡ shape_element route.shape = from.2 in
      (from.0, from.1, ends.0, cc)

  -- and there is one to that of each
  pub route_there : (rect : Rect) → Contains rects rect → (number : ℕ) × Contains (routes structures 256 0) (route_to number rect)
  route_there rect among =
      let numbered = numbered_there (map region_element rects) (region_element rect) (Contains-map region_element rects rect among) in
      (numbered.0, (routes_are_listed structures 256 0 _).1 (lit≤ tt, record { leads = refl; ends = numbered.1 }))
