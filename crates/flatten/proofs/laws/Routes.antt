-- the list of routes has each route with no more steps than its bound, and no other
use Rattle.std.proofs.Common.{ℕ, zero, suc, ◌+◌, ◌*◌, ◌<◌, ◌≤◌, ◌≡◌, ◌↔◌, List, [], ◌∷◌, get_or, length, map, Option, Some, None, refl, sym, ap, subst, ◌∙◌, arith, All, Contains, slice_get}
use Rattle.lists.proofs.Words.{enumerate_from, range_with_len, option_map_or, length-enumerate_from, get_or-enumerate_from, slice_get_within, get_or_from_slice_get, slice_get_read}
use Rattle.library_model.specs.declared.element.Element.{Element}
use Rattle.library_model.specs.declared.element.Element.TheVariants.{Shape as shape_element, Reference as reference_element}
use Rattle.library_model.specs.declared.element.Shape.{Shape}
use Rattle.library_model.specs.declared.element.Reference.{Reference}
use Rattle.library_model.specs.declared.library.Structure.{Structure}
use Rattle.flatten.specs.Structures.{elements_of, references_among, references_in, target_of}
use Rattle.flatten.specs.Steps.{Step, steps_of, steps_in_row, columns_of, rows_of}
use Rattle.flatten.specs.Routes.{Route, behind_step, routes_at, routes}
use Rattle.flatten.specs.OneRoute.{LeadAlong, IsRoute}
use Rattle.flatten.specs.inside.Ends.{route_to}
use Rattle.lists.proofs.Containing.{all_of_each, Contains-head, Contains-none, Contains-one}
use Rattle.lists.proofs.Mapping.{Contains-flat_map, Contains-flat_map_from, Contains-map, Contains-map_from}
use Rattle.lists.proofs.Numbering.{numbered_there}
use Rattle.flatten.proofs.NumberLaws.{number_below}
use Rattle.flatten.proofs.ArrayLaws.{stands_there}
use Rattle.flatten.proofs.RouteLaws.{from_target, reference_among, routes-is}

-- ---- the copies of a reference

-- what holds of each copy of a reference holds of each step of its list
each_copy : (reference : Reference) (P : Step → Type 0)
    → ((column row : ℕ) → column < columns_of reference.lattice → row < rows_of reference.lattice → P (record { reference = reference; column = column; row = row }))
    → (step : Step) → Contains (steps_of reference) step → P step
each_copy reference P each step there =
    let by_row = Contains-flat_map_from (steps_in_row reference) (range_with_len 0 (rows_of reference.lattice)) step there in
    let by_column = Contains-map_from (λ column. let one : Step = record { reference = reference; column = column; row = by_row.0 } in one) (range_with_len 0 (columns_of reference.lattice))
    step by_row.2 in
    subst P by_column.2 (each by_column.0 by_row.0 (number_below _ by_column.0 by_column.1) (number_below _ by_row.0 by_row.1))

-- and each of its copies is in the list
copy_there : (step : Step) → step.column < columns_of step.reference.lattice → step.row < rows_of step.reference.lattice → Contains (steps_of step.reference) step
copy_there step in_columns in_rows =
    let at : ℕ = step.row * columns_of step.reference.lattice + step.column in
    let there : slice_get (steps_of step.reference) at ≡ Some step = stands_there step.reference step.column step.row in_columns in_rows in
    (at, slice_get_within (steps_of step.reference) at step there, get_or_from_slice_get (steps_of step.reference) at step step there)

-- ---- the references of a structure

is_reference : (element : Element) (reference : Reference) → Contains (references_in element) reference → element ≡ reference_element reference
is_reference (shape_element shape) reference there = absurd (Contains-none there)
is_reference (reference_element other) reference there = ap reference_element (Contains-one other reference there)

among_elements : (elements : List Element) (reference : Reference) → Contains (references_among elements) reference → (n : ℕ) × Contains (enumerate_from 0 elements) (n, reference_element reference)
among_elements elements reference there =
    let from = Contains-flat_map_from references_in elements reference there in
    numbered_there elements (reference_element reference) (subst (Contains elements) (is_reference from.0 reference from.2) from.1)

-- ---- routes

module _ (structures : List Structure) where
  -- the route is one, and no longer than this
  abbrev IsShortRoute : ℕ → ℕ → Route → Type 0
  IsShortRoute most start route = (length route.steps ≤ most) × IsRoute structures start route

  -- a route onward from the target of a reference
  abbrev IsOnward : ℕ → Reference → Route → Type 0
  IsOnward most reference rest = (next : ℕ) × (target_of structures reference ≡ Some next) × (length rest.steps < most) × IsRoute structures next rest

  onward : (most : ℕ) → ((next : ℕ) (rest : Route) → Contains (routes structures most next) rest → IsShortRoute most next rest)
      → (reference : Reference) (rest : Route) → Contains (from_target structures (suc most) reference) rest → IsOnward (suc most) reference rest
  onward most known reference rest there = by_target (target_of structures reference) refl there
    where
      by_target : (o : Option ℕ) → target_of structures reference ≡ o → Contains (option_map_or (routes structures most) o []) rest → IsOnward (suc most) reference rest
      by_target None e there = absurd (Contains-none there)
      by_target (Some next) e there = let is = known next rest there in (next, e, omega arith, is.1)

  -- a route through an element ends there, or goes on by a step
  by_element : (most start : ℕ) → ((reference : Reference) (rest : Route) → Contains (from_target structures most reference) rest → IsOnward most reference rest)
      → (n : ℕ) (element : Element) → Contains (enumerate_from 0 (elements_of structures start)) (n, element)
      → (route : Route) → Contains (routes_at (from_target structures most) start (n, element)) route → IsShortRoute most start route
  by_element most start known n (shape_element shape) there route listed =
      subst (IsShortRoute most start) (Contains-one _ route listed) (omega arith, record { leads = refl; ends = there })
  by_element most start known n (reference_element reference) there route listed =
      let by_step = Contains-flat_map_from (λ step. map (behind_step step) (from_target structures most reference)) (steps_of reference) route listed in
      each_copy reference (λ step. Contains (map (behind_step step) (from_target structures most reference)) route → IsShortRoute most start route)
      (λ column row in_columns in_rows among.
      let rest = Contains-map_from (behind_step _) (from_target structures most reference) route among in
      let next = known reference rest.0 rest.1 in
      subst (IsShortRoute most start) rest.2 (
        omega (arith, next.2),
        record {
          leads = (next.0, record { has = reference_among (elements_of structures start) n reference there; in_columns = in_columns; in_rows = in_rows; leads = next.1 }, next.3.leads);
          ends = next.3.ends;
        },
      )) by_step.0 by_step.1 by_step.2

  by_routes : (most start : ℕ) → ((reference : Reference) (rest : Route) → Contains (from_target structures most reference) rest → IsOnward most reference rest)
      → (route : Route) → Contains (routes structures most start) route → IsShortRoute most start route
  by_routes most start known route listed =
      let at = Contains-flat_map_from (routes_at (from_target structures most) start) (enumerate_from 0 (elements_of structures start)) route (rw (routes-is structures most start) at listed) in
      by_element most start known at.0.0 at.0.1 at.1 route at.2

  is_route : (most start : ℕ) (route : Route) → Contains (routes structures most start) route → IsShortRoute most start route
  is_route zero start = by_routes zero start (λ reference rest there. absurd (Contains-none there))
  is_route (suc most) start = by_routes (suc most) start (onward most (is_route most))

  is_listed : (steps : List Step) (most start structure element : ℕ) (shape : Shape) → length steps ≤ most
      → LeadAlong structures start steps structure → Contains (enumerate_from 0 (elements_of structures structure)) (element, shape_element shape)
      → Contains (routes structures most start) (route_to steps structure element shape)
  is_listed [] most start structure element shape short leads ends =
      rw (← leads, routes-is structures most start)
      (Contains-flat_map (routes_at (from_target structures most) start) (enumerate_from 0 (elements_of structures start)) (element, shape_element shape) _ (rw (← leads) at ends) (Contains-head _ []))
  is_listed (step ∷ steps) zero start structure element shape short leads ends = absurd (omega arith)
  is_listed (step ∷ steps) (suc most) start structure element shape short (next, on, leads) ends =
      let from = from_target structures (suc most) in
      let at = among_elements (elements_of structures start) step.reference on.has in
      rw (routes-is structures (suc most) start)
      (Contains-flat_map (routes_at from start) (enumerate_from 0 (elements_of structures start)) (at.0, reference_element step.reference) _ at.1
      (Contains-flat_map (λ one. map (behind_step one) (from step.reference)) (steps_of step.reference) step _ (copy_there step on.in_columns on.in_rows)
      (Contains-map (behind_step step) (from step.reference) (route_to steps structure element shape)
      (rw on.leads (is_listed steps most next structure element shape (omega arith) leads ends)))))

  pub routes_are_listed : (most : ℕ) (start : ℕ) (route : Route) → Contains (routes structures most start) route ↔ IsShortRoute most start route
  routes_are_listed most start route = (is_route most start route, λ (short, is). is_listed route.steps most start route.structure route.element route.shape short is.leads is.ends)

pub routes_are_short : (structures : List Structure) (most start : ℕ) → All (λ route. length route.steps ≤ most) (routes structures most start)
routes_are_short structures most start = all_of_each (λ route. length route.steps ≤ most) (routes structures most start) (λ route there. (is_route structures most start route there).0)

-- ---- the shape in which a route ends

-- what a number stands for in a numbered list
numbered_is : {X : Type 0} (xs : List X) (n : ℕ) (x : X) → Contains (enumerate_from 0 xs) (n, x) → slice_get xs n ≡ Some x
numbered_is xs n x (k, h, e) =
    let within : k < length xs = omega (arith, length-enumerate_from 0 xs) in
    let at_k : (0 + k, get_or xs k x) ≡ (n, x) = sym (get_or-enumerate_from 0 xs k (n, x) within) ∙ e in
    let number : 0 + k ≡ n = ap (λ o. o.0) at_k in
    let same : k ≡ n = omega arith in
    rw (← same) (slice_get_read xs (length xs) k x refl within (sym (ap (λ o. o.1) at_k)))

-- it stands where the route's numbers say
pub shape_stands : (structures : List Structure) (start : ℕ) (route : Route) → IsRoute structures start route
    → (structure : Structure) × (slice_get structures route.structure ≡ Some structure) × (slice_get structure.elements route.element ≡ Some (shape_element route.shape))
shape_stands structures start route is = by_structure (slice_get structures route.structure) refl is.ends
  where
    by_structure : (o : Option Structure) → slice_get structures route.structure ≡ o → Contains (enumerate_from 0 (option_map_or (λ s. s.elements) o [])) (route.element, shape_element route.shape)
        → (structure : Structure) × (slice_get structures route.structure ≡ Some structure) × (slice_get structure.elements route.element ≡ Some (shape_element route.shape))
    by_structure None e ends = absurd (Contains-none ends)
    by_structure (Some s) e ends = (s, e, numbered_is s.elements route.element (shape_element route.shape) ends)
