-- what the bytes of a layout come to: the shapes that are placed on layers of the map, with its terminals on their metals, or
-- a fault
use Rattle.std.specs.Prelude.{ℕ, List, map, flat_map, Option, ◌≡◌}
use Rattle.lists.specs.Words.{enumerate_from}
use Rattle.first_refusal.specs.Outcomes.{Outcome, Retold, Then}
use Rattle.first_refusal.specs.Checks.{Checks}
use Rattle.geo_core.specs.declared.plane.Cell.{Cell}
use Rattle.library_grammar.specs.FirstFault.{BytesComeTo}
use Rattle.library_model.specs.declared.library.Library.{Library}
use Rattle.map_model.specs.MapNames.{LayerMap}
use Rattle.net_extract.specs.Extraction.{off_metal}
use Rattle.flatten.specs.Placements.{Placing}
use Rattle.flatten.specs.Routes.{Route}
use Rattle.rect_cover.specs.RoutePoints.{route_points}
use Rattle.rect_cover.specs.ShapeChecks.{ShapeCheck, ShapeHolds, checks_of, shape_fault}
use Rattle.run_inputs.specs.Coverage.{IsCoveredOn}
use Rattle.run_inputs.specs.declared.layout_fault.LayoutFault.{LayoutFault}
use Rattle.run_inputs.specs.declared.layout_fault.LayoutFault.TheVariants.{Syntax, Place, Cover, Net}

-- what is asked about: the layer map, the body of UNITS of the layout's library, and the routes to the shapes that it places on
-- layers of the map
pub record Subject : Type 0 where
  pub layer_map : LayerMap
  pub units : List ℕ
  pub routes : List Route

-- a check of the shape in which a route ends
abbrev pub RouteCheck : Type 0
RouteCheck = Route × ShapeCheck

-- the checks of routes, one route after the other, and those of each shape in their order
abbrev pub route_checks : List Route → List RouteCheck
route_checks = flat_map (λ route. map (λ check. (route, check)) (checks_of route.shape.kind))

-- what each demands of the shape where it is placed
abbrev pub RouteHolds : RouteCheck → Type 0
RouteHolds of_route = ShapeHolds (route_points of_route.0) of_route.1

-- the fault that each gives where it fails
abbrev pub route_fault : RouteCheck → LayoutFault
route_fault of_route = Cover (shape_fault of_route.0.shape.at of_route.1)

-- the routes to shapes on layers of the map, in a library with these units: whether each shape has a cover, and the subject
abbrev pub RoutesComeTo : LayerMap → List ℕ → List Route → Outcome Subject LayoutFault → Type 0
RoutesComeTo layer_map units routes = Checks RouteHolds (route_checks routes) route_fault
    (λ subject. subject ≡ record { layer_map = layer_map; units = units; routes = routes })

-- a library, of which the structure of this name is wanted, or any: the routes to what it places, and then those
abbrev pub LibraryComesTo : LayerMap → Option (List ℕ) → Library → Outcome Subject LayoutFault → Type 0
LibraryComesTo layer_map wanted library =
    Then (Retold (λ fault. Place fault) (Placing library.structures layer_map wanted)) (RoutesComeTo layer_map library.units)

-- the bytes of a layout: the library that they come to, and then that
abbrev pub ShapesComeTo : LayerMap → Option (List ℕ) → List ℕ → Outcome Subject LayoutFault → Type 0
ShapesComeTo layer_map wanted bytes = Then (Retold (λ fault. Syntax fault) (BytesComeTo bytes)) (LibraryComesTo layer_map wanted)

-- a terminal with its number: its metal covers its cell
abbrev pub IsTerminalOn : Subject → ℕ × (ℕ × Cell) → Type 0
IsTerminalOn subject numbered = IsCoveredOn subject.layer_map subject.routes numbered.1.0 numbered.1.1

-- the fault of one that is not on its metal
abbrev pub terminal_fault : ℕ × (ℕ × Cell) → LayoutFault
terminal_fault numbered = Net (off_metal numbered)

-- the terminals of the layer map, in order: whether each is on its metal
abbrev pub TerminalsComeTo : Subject → Outcome Subject LayoutFault → Type 0
TerminalsComeTo subject =
    Checks (IsTerminalOn subject) (enumerate_from 0 subject.layer_map.terminals) terminal_fault (λ same. same ≡ subject)

-- the bytes of a layout that is short enough: its shapes, and then the terminals
abbrev pub ShortLayoutComesTo : LayerMap → Option (List ℕ) → List ℕ → Outcome Subject LayoutFault → Type 0
ShortLayoutComesTo layer_map wanted bytes = Then (ShapesComeTo layer_map wanted bytes) TerminalsComeTo
