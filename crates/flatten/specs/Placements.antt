-- The placement of a library's shapes: what is checked, one check after the other, the fault of each, and the routes to
-- the shapes that are placed.
use Rattle.std.specs.Prelude.{ℕ, List, ◌∷◌, ◌++◌, map, length, All, Option, IsSome, ◌≡◌, ◌≤◌}
use Rattle.geo_core.specs.Plane.{IsInRange}
use Rattle.library_model.specs.declared.element.Reference.{Reference}
use Rattle.library_model.specs.declared.library.Structure.{Structure}
use Rattle.map_model.specs.MapNames.{LayerMap}
use Rattle.first_refusal.specs.Outcomes.{Outcome, Then}
use Rattle.first_refusal.specs.Checks.{Checks}
use Rattle.flatten.specs.Structures.{all_references, numbers_of, offset_of, target_of}
use Rattle.flatten.specs.Steps.{moved_along}
use Rattle.flatten.specs.Routes.{Route, routes, mapped_routes, point_count}
use Rattle.flatten.specs.ReferenceChains.{StartsChain, IsEndless}
use Rattle.flatten.specs.Tops.{IsTop, HasTop, IsNoOtherTop}
use Rattle.flatten.specs.declared.fault.PlaceFault.{PlaceFault}
use Rattle.flatten.specs.declared.fault.PlaceFault.TheVariants.{UnknownStructure, Cycle, NoTop, ManyTops, TooDeep, TooManyShapes}
use Rattle.flatten.specs.declared.fault.PlaceFault.TheVariants.{OutOfRange}

-- what is checked of the library as a whole
pub data LibraryCheck : Type 0 where
  has_its_target : Reference → LibraryCheck
  leads_to_no_cycle : ℕ → LibraryCheck
  has_top : LibraryCheck
  is_no_other_top : ℕ → LibraryCheck

-- what each demands, where the top of this name is wanted, or any
abbrev pub LibraryHolds : List Structure → Option (List ℕ) → LibraryCheck → Type 0
LibraryHolds structures wanted (has_its_target reference) = IsSome (target_of structures reference)
LibraryHolds structures wanted (leads_to_no_cycle one) = IsEndless structures one → ⊥
LibraryHolds structures wanted has_top = HasTop structures wanted
LibraryHolds structures wanted (is_no_other_top one) = IsNoOtherTop structures wanted one

-- all of them in their order
abbrev pub library_checks : List Structure → List LibraryCheck
library_checks structures =
    map has_its_target (all_references structures) ++ (map leads_to_no_cycle (numbers_of structures) ++ has_top ∷ map is_no_other_top
    (numbers_of structures))

-- the fault that each gives where it fails
abbrev pub library_fault : List Structure → LibraryCheck → PlaceFault
library_fault structures (has_its_target reference) = UnknownStructure reference.at
library_fault structures (leads_to_no_cycle one) = Cycle (offset_of structures one)
library_fault structures has_top = NoTop
library_fault structures (is_no_other_top one) = ManyTops (offset_of structures one)

-- what is checked of the top and of what it places
pub data TopCheck : Type 0 where
  is_shallow : TopCheck
  is_small : TopCheck
  is_in_range : Route → TopCheck

-- no chain of more than 256 references starts at the structure
abbrev pub IsShallow : List Structure → ℕ → Type 0
IsShallow structures top = (n : ℕ) → StartsChain structures n top → n ≤ 256

-- at most a million shapes are placed, and eight million points in them
pub record IsSmall (placed : List Route) : Type 0 where
  pub few_shapes : length placed ≤ 1000000
  pub few_points : point_count placed ≤ 8000000

-- each point of the route's shape is in range where the route places it
abbrev pub PlacesInRange : Route → Type 0
PlacesInRange route = All (λ point. IsInRange (moved_along route.steps point)) route.shape.points

-- the routes from the top to shapes of mapped layers, in their order
abbrev pub placed_routes : List Structure → LayerMap → ℕ → List Route
placed_routes structures layer_map top = mapped_routes layer_map (routes structures 256 top)

-- what each demands, where the routes to what the top places are these
abbrev pub TopHolds : List Structure → ℕ → List Route → TopCheck → Type 0
TopHolds structures top placed is_shallow = IsShallow structures top
TopHolds structures top placed is_small = IsSmall placed
TopHolds structures top placed (is_in_range route) = PlacesInRange route

-- all of them in their order
abbrev pub top_checks : List Route → List TopCheck
top_checks placed = is_shallow ∷ is_small ∷ map is_in_range placed

-- the fault that each gives where it fails
abbrev pub top_fault : List Structure → ℕ → TopCheck → PlaceFault
top_fault structures top is_shallow = TooDeep (offset_of structures top)
top_fault structures top is_small = TooManyShapes (offset_of structures top)
top_fault structures top (is_in_range route) = OutOfRange route.shape.at

-- what the choice of the top comes to
abbrev pub Choosing : List Structure → Option (List ℕ) → Outcome ℕ PlaceFault → Type 0
Choosing structures wanted = Checks (LibraryHolds structures wanted) (library_checks structures) (library_fault structures)
    (IsTop structures wanted)

-- what the placement of what the top places comes to: these routes, or a fault
abbrev pub PlacingFrom : List Structure → ℕ → List Route → Outcome (List Route) PlaceFault → Type 0
PlacingFrom structures top placed = Checks (TopHolds structures top placed) (top_checks placed) (top_fault structures top)
    (λ routes. routes ≡ placed)

-- what the placement of a library's shapes comes to
abbrev pub Placing : List Structure → LayerMap → Option (List ℕ) → Outcome (List Route) PlaceFault → Type 0
Placing structures layer_map wanted =
    Then (Choosing structures wanted) (λ top. PlacingFrom structures top (placed_routes structures layer_map top))
