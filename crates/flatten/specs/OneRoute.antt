-- what one route is, apart from any list of routes
use Rattle.std.specs.Prelude.{ℕ, List, [], ◌∷◌, ◌≡◌, ◌<◌, Contains, Some}
use Rattle.lists.specs.Words.{enumerate_from}
use Rattle.library_model.specs.declared.element.Element.TheVariants.{Shape as shape_element}
use Rattle.library_model.specs.declared.library.Structure.{Structure}
use Rattle.flatten.specs.Structures.{elements_of, references_among, target_of}
use Rattle.flatten.specs.Steps.{Step, columns_of, rows_of}
use Rattle.flatten.specs.Routes.{Route}

-- the step leads from the one structure to the other: it is a copy of those that a reference of the one makes, which leads
-- to the other
pub record LeadsOn (structures : List Structure) (one : ℕ) (step : Step) (other : ℕ) : Type 0 where
  pub has : Contains (references_among (elements_of structures one)) step.reference
  pub in_columns : step.column < columns_of step.reference.lattice
  pub in_rows : step.row < rows_of step.reference.lattice
  pub leads : target_of structures step.reference ≡ Some other

-- the steps, one after the other, lead from the one structure to the other
abbrev pub LeadAlong : List Structure → ℕ → List Step → ℕ → Type 0
LeadAlong structures one [] other = one ≡ other
LeadAlong structures one (step ∷ steps) other = (next : ℕ) × LeadsOn structures one step next × LeadAlong structures next steps other

-- the route is one from this structure: its steps lead to a structure of which its shape is an element
pub record IsRoute (structures : List Structure) (start : ℕ) (route : Route) : Type 0 where
  pub leads : LeadAlong structures start route.steps route.structure
  pub ends : Contains (enumerate_from 0 (elements_of structures route.structure)) (route.element, shape_element route.shape)
