-- What a library of rectangles covers once it was read. Its offsets may be others, but its one structure is the top, and places the
-- boundaries and nothing else.
use Rattle.std.proofs.Common.{◌≡◌, ◌↔◌, refl, sym, ap, subst, ℕ, arith, lit<, lit≤}
use Rattle.std.proofs.Common.{List, [], ◌∷◌, ◌++◌, map, flat_map, Contains, None, option_to_list}
use Rattle.lists.proofs.Containing.{Contains-none, Contains-slice_get, number_of}
use Rattle.lists.proofs.Mapping.{Contains-map, Contains-map_from}
use Rattle.lists.proofs.Numbering.{numbered_there, unnumbered}
use Rattle.lists.proofs.Words.{AllZip}
use Rattle.lists.specs.Words.{enumerate_from}
use Rattle.geo_core.specs.Plane.{Has, IsInUnion}
use Rattle.geo_core.specs.declared.plane.Cell.{Cell}
use Rattle.geo_core.specs.declared.plane.Point.{Point}
use Rattle.geo_core.specs.declared.plane.Rect.{Rect}
use Rattle.library_model.specs.declared.element.Element.{Element}
use Rattle.library_model.specs.declared.element.Element.TheVariants.{Shape as shape_element}
use Rattle.library_model.specs.declared.element.Shape.{Shape}
use Rattle.library_model.specs.declared.element.ShapeKind.{ShapeKind}
use Rattle.library_model.specs.declared.library.Library.{Library}
use Rattle.library_model.specs.declared.library.Structure.{Structure}
use Rattle.net_extract.proofs.laws.BesideLaws.{across_from, back_from}
use Rattle.gds_write.specs.SameLibrary.{IsSameButOffsets, IsSameElement, IsSameShape, IsSameStructure, shapes}
use Rattle.flatten.specs.OneRoute.{IsRoute, LeadAlong, LeadsOn}
use Rattle.flatten.specs.Routes.{Route, routes}
use Rattle.flatten.specs.Steps.{Step, moved_along}
use Rattle.flatten.specs.Structures.{elements_of, references_among, references_in, target_of, targets_of}
use Rattle.flatten.specs.Tops.{IsTop, IsUnnamed}
use Rattle.flatten.proofs.laws.Routes.{routes_are_listed}
use Rattle.rect_cover.specs.Covers.{Covers}
use Rattle.rect_cover.specs.RoutePoints.{route_points}
use Rattle.region_out.specs.RegionCells.{IsCoveredByTop}
use Rattle.region_out.specs.RegionLibraries.{AreUnits, region_boundary, region_element, region_library_of, region_structure}
use Rattle.region_out.proofs.laws.RegionCells.{boundary_covers}

-- ---- elements

-- the elements are those of the rectangles, but for offsets
abbrev AreRead : List Rect → List Element → Type 0
AreRead rects elements = AllZip IsSameElement (map region_element rects) elements

-- one that is the same as a boundary is a shape
read_boundary : (rect : Rect) (element : Element) → IsSameElement (region_element rect) element
    → (shape : Shape) × (element ≡ shape_element shape) × IsSameShape (region_boundary rect) shape
read_boundary rect element (shapes {other = shape} same) = (shape, refl, same)

-- so none is a reference
no_references : (rects : List Rect) (elements : List Element) → AreRead rects elements → references_among elements ≡ []
no_references [] [] same = refl
no_references [] (element ∷ elements) same = absurd same
no_references (rect ∷ rects) [] same = absurd same
no_references (rect ∷ rects) (element ∷ elements) same =
    let boundary = read_boundary rect element same.0 in
    subst (λ (one : Element). references_in one ++ references_among elements ≡ []) (sym boundary.1)
    (no_references rects elements same.1)

-- ---- routes to boundaries

-- the route has no step, and ends in the boundary of the rectangle
record IsRouteTo (rect : Rect) (route : Route) : Type 0 where
  unmoved : route.steps ≡ []
  shape : IsSameShape (region_boundary rect) route.shape

-- where these steps move its points, a shape of this kind covers the cell
abbrev CoversAlong : Cell → List Step → ShapeKind → List Point → Type 0
CoversAlong c steps kind points = Covers kind (map (λ point. moved_along steps point) points) c

-- so the shape covers the rectangle where the route places it
route_covers : (rect : Rect) (route : Route) (c : Cell) → IsRouteTo rect route
    → Covers route.shape.kind (route_points route) c ↔ Has rect c
route_covers rect route c is =
    let kind = (region_boundary rect).kind in
    let points = subst (λ points. CoversAlong c [] kind points ↔ Has rect c) is.shape.points (boundary_covers rect c) in
    let of_kind = subst (λ kind. CoversAlong c [] kind route.shape.points ↔ Has rect c) is.shape.kind points in
    subst (λ steps. CoversAlong c steps route.shape.kind route.shape.points ↔ Has rect c) (sym is.unmoved) of_kind

module _ (rects : List Rect) (structure : Structure) (same : AreRead rects structure.elements) where
  abbrev structures : List Structure
  structures = structure ∷ []

  none_among : references_among structure.elements ≡ []
  none_among = no_references rects structure.elements same

  -- ---- the top

  no_targets : targets_of structures 0 ≡ []
  no_targets = ap (flat_map (λ reference. option_to_list (target_of structures reference))) none_among

  is_unnamed : (one : ℕ) → IsUnnamed structures one
  is_unnamed one there =
      Contains-none (subst (λ (targets : List ℕ). Contains (targets ++ []) one) no_targets there)

  first_is_top : IsTop structures None 0
  first_is_top =
      record { there = lit< tt; unnamed = is_unnamed 0; only = λ other there unnamed. omega arith }

  only_first_is_top : (top : ℕ) → IsTop structures None top → top ≡ 0
  only_first_is_top top is = let there = is.there in omega arith

  -- ---- its routes

  no_steps : (steps : List Step) (other : ℕ) → LeadAlong structures 0 steps other → (steps ≡ []) × (0 ≡ other)
  no_steps [] other leads = (refl, leads)
  no_steps (step ∷ steps) other along =
      let is : LeadsOn structures 0 step along.0 = along.1 in
      absurd (Contains-none (subst (λ references. Contains references step.reference) none_among is.has))

  -- each leads to the boundary of a rectangle
  route_is : (route : Route) → Contains (routes structures 256 0) route → (rect : Rect) × Contains rects rect × IsRouteTo rect route
  route_is route listed =
      let is : IsRoute structures 0 route = ((routes_are_listed structures 256 0 route).0 listed).1 in
      let ends = no_steps route.steps route.structure is.leads in
      let element = shape_element route.shape in
      let one : ℕ × _ = (route.element, element) in
      let numbered =
      subst (λ number. Contains (enumerate_from 0 (elements_of structures number)) one) (sym ends.1) is.ends in
      let among = unnumbered structure.elements one numbered in
      let back = back_from IsSameElement (map region_element rects) structure.elements element same among in
      let from = Contains-map_from region_element rects back.0 back.1 in
      let alike = subst (λ (other : Element). IsSameElement other element) (sym from.2) back.2 in
      let boundary = read_boundary from.0 element alike in
      let shape : boundary.0 ≡ route.shape = cc boundary.1 in (
        from.0,
        from.1,
        record { unmoved = ends.0; shape = subst (IsSameShape (region_boundary from.0)) shape boundary.2 },
      )

  -- and one leads to that of each
  route_there : (rect : Rect) → Contains rects rect → (route : Route) × Contains (routes structures 256 0) route × IsRouteTo rect route
  route_there rect among =
      let listed = Contains-map region_element rects rect among in
      let across =
      across_from IsSameElement (map region_element rects) structure.elements (region_element rect) same listed in
      let boundary = read_boundary rect across.0 across.2 in
      let there = subst (λ (element : Element). Contains structure.elements element) boundary.1 across.1 in
      let numbered = numbered_there structure.elements (shape_element boundary.0) there in
      let route : Route = record { steps = []; structure = 0; element = numbered.0; shape = boundary.0 } in
      let is : IsRoute structures 0 route = record { leads = refl; ends = numbered.1 } in (
        route,
        (routes_are_listed structures 256 0 route).1 (lit≤ tt, is),
        record { unmoved = refl; shape = boundary.2 },
      )

  -- ---- cells

  module _ (c : Cell) where
    covered_in_union : IsCoveredByTop structures 1 0 c → IsInUnion rects c
    covered_in_union is =
        let first = only_first_is_top is.top is.is_top in
        let listed = subst (λ top. Contains (routes structures 256 top) is.route) first is.among in
        let to = route_is is.route listed in
        let at = number_of rects to.0 to.1 in
        record { number = at.0; rect = to.0; at = at.1; has = (route_covers to.0 is.route c to.2).0 is.covers }

    union_is_covered : IsInUnion rects c → IsCoveredByTop structures 1 0 c
    union_is_covered is =
        let there = route_there is.rect (Contains-slice_get rects is.number is.rect is.at) in
        record {
          top = 0;
          is_top = first_is_top;
          route = there.0;
          among = there.1;
          on_layer = sym there.2.shape.layer;
          of_datatype = sym there.2.shape.datatype;
          covers = (route_covers is.rect there.0 c there.2).1 is.has;
        }

    structure_covers : IsCoveredByTop structures 1 0 c ↔ IsInUnion rects c
    structure_covers = (covered_in_union, union_is_covered)

-- ---- the library

-- the library that was read has one structure
of_structures : (rects : List Rect) (read : List Structure) (c : Cell)
    → AllZip IsSameStructure (region_structure rects ∷ []) read → IsCoveredByTop read 1 0 c ↔ IsInUnion rects c
of_structures rects [] c same = absurd same
of_structures rects (one ∷ []) c same = structure_covers rects one same.0.elements c
of_structures rects (one ∷ other ∷ more) c same = absurd same.1

-- so it covers the cells of the rectangles
pub read_covers : (rects : List Rect) (units : List ℕ) (fit : AreUnits units) (read : Library) (c : Cell)
    → IsSameButOffsets (region_library_of rects units fit) read
    → IsCoveredByTop read.structures 1 0 c ↔ IsInUnion rects c
read_covers rects units fit read c same = of_structures rects read.structures c same.structures
