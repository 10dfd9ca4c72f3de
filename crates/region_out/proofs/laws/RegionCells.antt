-- What the library of rectangles covers.
use Rattle.std.proofs.Common.{◌↔◌, ℕ, List, [], Contains, map, refl, subst, lit<}
use Rattle.lists.proofs.Containing.{Contains-slice_get, number_of}
use Rattle.geo_core.specs.Plane.{Has, IsInUnion}
use Rattle.geo_core.specs.declared.plane.Cell.{Cell}
use Rattle.geo_core.specs.declared.plane.Rect.{Rect}
use Rattle.outlines.specs.Rectangles.{counterclockwise}
use Rattle.outlines.proofs.laws.RectangleLaws.{rectangle_covered}
use Rattle.library_model.specs.declared.element.Shape.{Shape}
use Rattle.flatten.specs.Routes.{routes}
use Rattle.flatten.specs.Steps.{Step, moved_along}
use Rattle.rect_cover.specs.Covers.{Covers}
use Rattle.region_out.specs.RegionCells.{IsCoveredByTop}
use Rattle.region_out.specs.RegionLibraries.{AreUnits, region_boundary, region_library_of}
use Rattle.region_out.proofs.RouteLaws.{first_is_top, only_first_is_top, route_is, route_there, route_to}

-- a boundary covers its rectangle
pub boundary_covers : (rect : Rect) (c : Cell) → Covers (region_boundary rect).kind (region_boundary rect).points c ↔ Has rect c
boundary_covers rect c = rectangle_covered rect c (region_boundary rect).points (counterclockwise 0 (lit< tt) refl)

-- where these steps move it, this shape covers the cell
abbrev CoversAlong : Cell → List Step → Shape → Type 0
CoversAlong c steps shape = Covers shape.kind (map (λ point. moved_along steps point) shape.points) c

module _ (rects : List Rect) (units : List ℕ) (fit : AreUnits units) (c : Cell) where
  covered_in_union : IsCoveredByTop (region_library_of rects units fit).structures 1 0 c → IsInUnion rects c
  covered_in_union is =
      let listed = subst (λ top. Contains (routes (region_library_of rects units fit).structures 256 top) is.route) (only_first_is_top rects is.top is.is_top) is.among in
      let to = route_is rects is.route listed in
      let unmoved = subst (λ steps. CoversAlong c steps is.route.shape) to.2 is.covers in
      let covers = subst (CoversAlong c []) to.3 unmoved in
      let at = number_of rects to.0 to.1 in
      record { number = at.0; rect = to.0; at = at.1; has = (boundary_covers to.0 c).0 covers }

  union_is_covered : IsInUnion rects c → IsCoveredByTop (region_library_of rects units fit).structures 1 0 c
  union_is_covered is =
      let there = route_there rects is.rect (Contains-slice_get rects is.number is.rect is.at) in
      record {
        top = 0;
        is_top = first_is_top rects;
        route = route_to rects there.0 is.rect;
        among = there.1;
        on_layer = refl;
        of_datatype = refl;
        covers = (boundary_covers is.rect c).1 is.has;
      }

  pub library_covers : IsCoveredByTop (region_library_of rects units fit).structures 1 0 c ↔ IsInUnion rects c
  library_covers = (covered_in_union, union_is_covered)
