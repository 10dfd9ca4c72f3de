-- placed shapes and the routes of which they are the ends
use Rattle.std.proofs.Common.{ℕ, suc, ◌≡◌, List, [], ◌∷◌, map, Option, Some, refl, sym, ap, subst, ◌∙◌, arith, All, Contains, slice_get}
use Rattle.lists.proofs.Words.{AllZip, All-nil, All-cons, All-contains, All-map}
use Rattle.first_refusal.specs.Outcomes.{value, goes_on}
use Rattle.first_refusal.specs.Checks.{all_hold}
use Rattle.geo_core.specs.declared.plane.Point.{Point}
use Rattle.library_model.specs.Points.{AreWellPointed, HasItsPoints, IsWellPointed}
use Rattle.library_model.specs.declared.element.Element.TheVariants.{Shape as shape_element}
use Rattle.library_model.specs.declared.element.Shape.{Shape}
use Rattle.library_model.specs.declared.library.Structure.{Structure}
use Rattle.map_model.specs.MapNames.{LayerMap, IsMappedTo}
use Rattle.flatten.specs.Structures.{is_mapped}
use Rattle.flatten.specs.Steps.{moved_along}
use Rattle.flatten.specs.Routes.{Route, routes}
use Rattle.flatten.specs.OneRoute.{IsRoute}
use Rattle.flatten.specs.Motions.{MovesAlong}
use Rattle.flatten.specs.Placements.{PlacesInRange, Placing, placed_routes, TopHolds, is_shallow, is_small, is_in_range}
use Rattle.geo_core.specs.Plane.{IsInRange}
use Rattle.flatten.specs.Placed.{IsEndOf, ArePlaced}
use Rattle.flatten.specs.declared.limits.TheConstants.{MOST_STEPS}
use Rattle.flatten.specs.declared.placed.Placed.{Placed}
use Rattle.flatten.proofs.laws.Routes.{routes_are_listed, shape_stands}
use Rattle.rect_cover.specs.Coverings.{IsPlacedShape, IsWellPlaced, placed_at, placed_points}
use Rattle.rect_cover.specs.RoutePoints.{route_points}
use Rattle.lists.proofs.Containing.{Contains-slice_get, Contains-tail, all_of_each}
use Rattle.lists.proofs.Filtering.{Contains-from_filter}
use Rattle.lists.proofs.Mapping.{Contains-map}

-- ---- routes

-- the shape of the route stands where the route's numbers say, and its points come to lie in range
pub record IsGoodRoute (structures : List Structure) (route : Route) : Type 0 where
  pub structure : Structure
  pub is_structure : slice_get structures route.structure ≡ Some structure
  pub is_element : slice_get structure.elements route.element ≡ Some (shape_element route.shape)
  pub in_range : PlacesInRange route

module _ (structures : List Structure) where
  good_of : (top : ℕ) (route : Route) → IsRoute structures top route → PlacesInRange route → IsGoodRoute structures route
  good_of top route is near =
      let stands = shape_stands structures top route is in
      record { structure = stands.0; is_structure = stands.1; is_element = stands.2; in_range = near }

  module _ (layer_map : LayerMap) (wanted : Option (List ℕ)) where
    -- the routes to which a placement comes
    pub good_routes : (placed : List Route) → Placing structures layer_map wanted (value placed) → All (IsGoodRoute structures) placed
    good_routes placed (goes_on {v = top} (all_hold whole is_top) (all_hold all same)) =
        let of_top = placed_routes structures layer_map top in
        subst (All (IsGoodRoute structures)) (sym same) (all_of_each (IsGoodRoute structures) of_top (λ route among.
        let listed : Contains (routes structures MOST_STEPS top) route = Contains-from_filter (λ r. is_mapped layer_map r.shape) (routes structures MOST_STEPS top) route among in
        let is : IsRoute structures top route = ((routes_are_listed structures MOST_STEPS top route).0 listed).1 in
        let near : PlacesInRange route =
        All-contains (TopHolds structures top of_top) (is_shallow ∷ is_small ∷ map is_in_range of_top) (is_in_range route) all
        (Contains-tail is_shallow (is_small ∷ map is_in_range of_top) (is_in_range route) (Contains-tail is_small (map is_in_range of_top) (is_in_range route)
        (Contains-map is_in_range of_top route among))) in
        good_of top route is near))

-- ---- placed shapes

-- the placed shape is the end of the route, which is a good one
pub record IsPlacedAlong (structures : List Structure) (layer_map : LayerMap) (route : Route) (placed : Placed) : Type 0 where
  pub is_shape : IsPlacedShape structures placed route.shape
  pub layer : IsMappedTo layer_map (route.shape.layer, route.shape.datatype) placed.layer
  pub moves : MovesAlong (record { turn = placed.turn; dx = placed.dx; dy = placed.dy }) route.steps
  pub in_range : PlacesInRange route

placed_along_one : (structures : List Structure) (layer_map : LayerMap) (route : Route) (placed : Placed) → IsGoodRoute structures route → IsEndOf layer_map route placed
    → IsPlacedAlong structures layer_map route placed
placed_along_one structures layer_map route placed good end = record {
  is_shape = record {
    structure = good.structure;
    is_structure = ap (slice_get structures) end.structure ∙ good.is_structure;
    is_element = ap (slice_get good.structure.elements) end.element ∙ good.is_element;
    begins = end.at;
  };
  layer = end.layer;
  moves = end.moves;
  in_range = good.in_range;
}

-- a fact of each item of the one list is one of the pairs
zip_with : {X Y : Type 0} (P : X → Type 0) (R S : X → Y → Type 0) → ((x : X) (y : Y) → P x → R x y → S x y) → (xs : List X) (ys : List Y) → All P xs → AllZip R xs ys → AllZip S xs ys
zip_with P R S each [] [] all h = tt
zip_with P R S each [] (y ∷ ys) all h = absurd h
zip_with P R S each (x ∷ xs) [] all h = absurd h
zip_with P R S each (x ∷ xs) (y ∷ ys) all h =
    (each x y (all 0 x (omega arith)) h.0, zip_with P R S each xs ys (λ k d lt. all (suc k) d (omega (arith, lt))) h.1)

pub placed_along : (structures : List Structure) (layer_map : LayerMap) (wanted : Option (List ℕ)) (placed : List Placed) → (are : ArePlaced structures layer_map wanted placed)
    → AllZip (IsPlacedAlong structures layer_map) are.routes placed
placed_along structures layer_map wanted placed are =
    zip_with (IsGoodRoute structures) (IsEndOf layer_map) (IsPlacedAlong structures layer_map) (placed_along_one structures layer_map) are.routes placed
    (good_routes structures layer_map wanted are.routes are.placing) are.ends

module _ (structures : List Structure) (layer_map : LayerMap) where
  -- its points come to lie where the route moves them
  pub points_alike : (route : Route) (placed : Placed) → IsPlacedAlong structures layer_map route placed → placed_points placed route.shape ≡ route_points route
  points_alike route placed along = each route.shape.points where
    each : (points : List Point) → map (placed_at placed) points ≡ map (λ point. moved_along route.steps point) points
    each [] = refl
    each (p ∷ ps) = ap (λ q. q ∷ map (placed_at placed) ps) (along.moves p) ∙ ap (λ qs. moved_along route.steps p ∷ qs) (each ps)

  module _ (pointed : AreWellPointed structures) where
    -- a shape of the structures has its points
    shape_pointed : (placed : Placed) (shape : Shape) → IsPlacedShape structures placed shape → HasItsPoints shape.kind shape.points
    shape_pointed placed shape is =
        let of_structure = All-contains (λ s. All IsWellPointed s.elements) structures is.structure pointed (Contains-slice_get structures placed.structure is.structure is.is_structure) in
        All-contains IsWellPointed is.structure.elements (shape_element shape) of_structure (Contains-slice_get is.structure.elements placed.element (shape_element shape) is.is_element)

    well_placed_one : (route : Route) (placed : Placed) → IsPlacedAlong structures layer_map route placed → IsWellPlaced structures placed
    well_placed_one route placed along = record {
      shape = route.shape;
      is_shape = along.is_shape;
      has_points = shape_pointed placed route.shape along.is_shape;
      in_range = subst (All IsInRange) (sym (points_alike route placed along)) (All-map IsInRange (λ point. moved_along route.steps point) route.shape.points along.in_range);
    }

    -- so they are well placed
    pub well_placed : (routes : List Route) (placed : List Placed) → AllZip (IsPlacedAlong structures layer_map) routes placed → All (IsWellPlaced structures) placed
    well_placed [] [] along = All-nil (IsWellPlaced structures)
    well_placed [] (p ∷ ps) along = absurd along
    well_placed (r ∷ rs) [] along = absurd along
    well_placed (r ∷ rs) (p ∷ ps) along = All-cons (IsWellPlaced structures) p ps (well_placed_one r p along.0) (well_placed rs ps along.1)
