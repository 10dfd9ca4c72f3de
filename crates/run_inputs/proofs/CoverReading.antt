-- What the covers of placed shapes say of the checks of the routes to them.
use Rattle.std.proofs.Common.{List, [], ◌∷◌, ◌++◌, map, refl, ap, subst, All}
use Rattle.lists.proofs.Words.{append-nil, AllZip, zip, All-nil, All-cons, All-head, All-tail, All-append, All-map}
use Rattle.first_refusal.specs.Outcomes.{Outcome, value, refused}
use Rattle.first_refusal.specs.Checks.{IsRefusalOfFirst, all_hold, one_fails}
use Rattle.geo_core.specs.declared.plane.Rect.{Rect}
use Rattle.library_model.specs.declared.element.Shape.{Shape}
use Rattle.library_model.specs.declared.library.Structure.{Structure}
use Rattle.map_model.specs.MapNames.{LayerMap, IsMappedTo}
use Rattle.flatten.specs.Routes.{Route}
use Rattle.flatten.specs.declared.placed.Placed.{Placed}
use Rattle.flatten.proofs.laws.Refusals.{first_said, refused_within}
use Rattle.rect_cover.specs.Covers.{Covers}
use Rattle.rect_cover.specs.Coverings.{CoverComesTo, IsCoverable, IsFirstCoverFault, PlacedComesTo, placed_points}
use Rattle.rect_cover.specs.RoutePoints.{route_points}
use Rattle.outlines.specs.Fillings.{IsCover}
use Rattle.rect_cover.specs.ShapeChecks.{ShapeHolds, checks_of, shape_fault}
use Rattle.rect_cover.specs.declared.fault.CoverFault.{CoverFault}
use Rattle.rect_cover.proofs.laws.PlacedShapes.{placed_shapes_agree}
use Rattle.rect_cover.proofs.laws.RouteEnds.{IsPlacedAlong, points_alike}
use Rattle.run_inputs.specs.Layout.{RouteCheck, RouteHolds, route_checks, route_fault}
use Rattle.run_inputs.specs.LayoutReaders.{Covered}
use Rattle.run_inputs.specs.declared.layout_fault.LayoutFault.{LayoutFault}
use Rattle.run_inputs.specs.declared.layout_fault.LayoutFault.TheVariants.{Cover}

-- the checks of the shape in which a route ends
abbrev checks_on : Route → List RouteCheck
checks_on route = map (λ check. (route, check)) (checks_of route.shape.kind)

-- a fault behind checks that hold
refused_behind : (before here : List RouteCheck) (refusal : LayoutFault) → All RouteHolds before → IsRefusalOfFirst RouteHolds here route_fault refusal
    → IsRefusalOfFirst RouteHolds (before ++ here) route_fault refusal
refused_behind before here refusal all first =
    subst (λ checks. IsRefusalOfFirst RouteHolds (before ++ checks) route_fault refusal) (append-nil here) (refused_within RouteHolds route_fault before here [] refusal all first)

module _ (route : Route) where
  -- a cover, and the checks that hold where there is one
  pub covered_checks : (rects : List Rect) → CoverComesTo route.shape.kind (route_points route) route.shape.at (value rects) → All RouteHolds (checks_on route)
  covered_checks rects (all_hold all is) = All-map RouteHolds (λ check. (route, check)) (checks_of route.shape.kind) all

  pub cover_of : (rects : List Rect) → CoverComesTo route.shape.kind (route_points route) route.shape.at (value rects) → IsCover (Covers route.shape.kind (route_points route)) rects
  cover_of rects (all_hold all is) = is

  -- a fault, as that of the first check that fails
  refused_check : (fault : CoverFault) → CoverComesTo route.shape.kind (route_points route) route.shape.at (refused fault)
      → IsRefusalOfFirst RouteHolds (checks_on route) route_fault (Cover fault)
  refused_check fault (one_fails first) =
      first_said (ShapeHolds (route_points route)) RouteHolds (λ check. (route, check)) (λ check. Cover (shape_fault route.shape.at check)) route_fault
      (λ check h. h) (λ check h. h) (λ check. refl) (checks_of route.shape.kind) (Cover fault)
      (record { check = first.check; is_first = first.is_first; is_its_refusal = ap (λ f. Cover f) first.is_its_refusal })

-- a placed shape and its cover, at the end of a route
pub record IsCoveredAlong (layer_map : LayerMap) (route : Route) (one : Covered) : Type 0 where
  pub layer : IsMappedTo layer_map (route.shape.layer, route.shape.datatype) one.0.layer
  pub cover : IsCover (Covers route.shape.kind (route_points route)) one.1

module _ (structures : List Structure) (layer_map : LayerMap) where
  -- what the cover of a placed shape comes to, said of its route
  comes_along : (route : Route) (placed : Placed) (outcome : Outcome (List Rect) CoverFault) → IsPlacedAlong structures layer_map route placed → PlacedComesTo structures placed outcome
      → CoverComesTo route.shape.kind (route_points route) route.shape.at outcome
  comes_along route placed outcome along comes =
      let same = placed_shapes_agree structures placed comes.shape route.shape comes.is_shape along.is_shape in
      let of_shape = subst (λ (s : Shape). CoverComesTo s.kind (placed_points placed s) s.at outcome) same comes.comes in
      subst (λ points. CoverComesTo route.shape.kind points route.shape.at outcome) (points_alike structures layer_map route placed along) of_shape

  -- where all shapes have covers, all checks hold
  all_coverable : (routes : List Route) (placed : List Placed) → AllZip (IsPlacedAlong structures layer_map) routes placed → All (IsCoverable structures) placed → All RouteHolds (route_checks routes)
  all_coverable [] placed along all = All-nil RouteHolds
  all_coverable (r ∷ rs) [] along all = absurd along
  all_coverable (r ∷ rs) (p ∷ ps) along all =
      let (rects, comes) = All-head (IsCoverable structures) p ps all in
      All-append RouteHolds (checks_on r) (route_checks rs) (covered_checks r rects (comes_along r p (value rects) along.0 comes))
      (all_coverable rs ps along.1 (All-tail (IsCoverable structures) p ps all))

  abbrev pub HasCover : Placed → List Rect → Type 0
  HasCover one list = PlacedComesTo structures one (value list)

  listed_coverable : (placed : List Placed) (lists : List (List Rect)) → AllZip HasCover placed lists → All (IsCoverable structures) placed
  listed_coverable [] lists h = All-nil (IsCoverable structures)
  listed_coverable (p ∷ ps) [] h = absurd h
  listed_coverable (p ∷ ps) (list ∷ lists) h = All-cons (IsCoverable structures) p ps (list, h.0) (listed_coverable ps lists h.1)

  pub all_covered : (routes : List Route) (placed : List Placed) (lists : List (List Rect)) → AllZip (IsPlacedAlong structures layer_map) routes placed → AllZip HasCover placed lists
      → All RouteHolds (route_checks routes)
  all_covered routes placed lists along h = all_coverable routes placed along (listed_coverable placed lists h)

  -- the fault of the first shape that has one is that of the first check that fails
  first_behind : (routes : List Route) (before : List Placed) (one : Placed) (after : List Placed) (fault : CoverFault) → AllZip (IsPlacedAlong structures layer_map) routes (before ++ one ∷ after)
      → All (IsCoverable structures) before → PlacedComesTo structures one (refused fault) → IsRefusalOfFirst RouteHolds (route_checks routes) route_fault (Cover fault)
  first_behind [] [] one after fault along all its = absurd along
  first_behind [] (b ∷ before) one after fault along all its = absurd along
  first_behind (r ∷ rs) [] one after fault along all its =
      refused_within RouteHolds route_fault [] (checks_on r) (route_checks rs) (Cover fault) (All-nil RouteHolds) (refused_check r fault (comes_along r one (refused fault) along.0 its))
  first_behind (r ∷ rs) (b ∷ before) one after fault along all its =
      let (rects, comes) = All-head (IsCoverable structures) b before all in
      refused_behind (checks_on r) (route_checks rs) (Cover fault) (covered_checks r rects (comes_along r b (value rects) along.0 comes))
      (first_behind rs before one after fault along.1 (All-tail (IsCoverable structures) b before all) its)

  pub first_refused : (routes : List Route) (placed : List Placed) (fault : CoverFault) → AllZip (IsPlacedAlong structures layer_map) routes placed → IsFirstCoverFault structures placed fault
      → IsRefusalOfFirst RouteHolds (route_checks routes) route_fault (Cover fault)
  first_refused routes placed fault along first =
      first_behind routes first.is_first.before first.one first.is_first.after fault (subst (AllZip (IsPlacedAlong structures layer_map) routes) first.is_first.parts along)
      first.is_first.all_before first.is_its_fault

  -- each has the cover of what its route ends in
  pub covered_along : (routes : List Route) (placed : List Placed) (lists : List (List Rect)) → AllZip (IsPlacedAlong structures layer_map) routes placed → AllZip HasCover placed lists
      → AllZip (IsCoveredAlong layer_map) routes (zip placed lists)
  covered_along [] [] [] along h = tt
  covered_along [] [] (list ∷ lists) along h = absurd h
  covered_along [] (p ∷ ps) lists along h = absurd along
  covered_along (r ∷ rs) [] lists along h = absurd along
  covered_along (r ∷ rs) (p ∷ ps) [] along h = absurd h
  covered_along (r ∷ rs) (p ∷ ps) (list ∷ lists) along h =
      (record { layer = along.0.layer; cover = cover_of r list (comes_along r p (value list) along.0 h.0) }, covered_along rs ps lists along.1 h.1)
