-- the limits of a top, by what is kept of its weight
use Rattle.std.proofs.Common.{ℕ, ◌≤◌, ◌<◌, ◌≡◌, ◌⊎◌, inl, inr, List, [], ◌∷◌, length, get_or, map, refl, sym, ap, ◌∙◌, arith, All}
use Rattle.lists.proofs.Words.{option_map_or, cases_lt, slice_get-get_or, sum_by-cons, All-nil, All-cons}
use Rattle.std.proofs.Math.ListN.{get_or-eq_default}
use Rattle.first_refusal.specs.Outcomes.{refused}
use Rattle.first_refusal.proofs.CheckLaws.{fails_at_once, fails_later}
use Rattle.first_refusal.specs.Checks.{one_fails}
use Rattle.library_model.specs.declared.library.Structure.{Structure}
use Rattle.map_model.specs.MapNames.{LayerMap}
use Rattle.flatten.specs.Structures.{offset_of}
use Rattle.flatten.specs.Routes.{Route}
use Rattle.flatten.specs.inside.Weights.{Weight, Weighs, IsKept}
use Rattle.flatten.specs.inside.Surveys.{state_of}
use Rattle.flatten.specs.Placements.{is_shallow, is_small, is_in_range, IsShallow, IsSmall, TopHolds, PlacingFrom, placed_routes}
use Rattle.flatten.specs.inside.Plans.{IsPlanOf}
use Rattle.flatten.specs.declared.plan.Plan.{Plan}
use Rattle.flatten.specs.declared.summary.Summary.{Summary}
use Rattle.flatten.specs.declared.summary.State.{State}
use Rattle.flatten.specs.declared.summary.State.TheVariants.{New, Done}
use Rattle.flatten.specs.declared.fault.PlaceFault.TheVariants.{TooDeep, TooManyShapes}
use Rattle.flatten.proofs.EndLaws.{weigh}
use Rattle.flatten.proofs.CountLaws.{counted, routes_alike}
use Rattle.flatten.proofs.GraphLaws.{height_bounds, height_starts}

-- only what is there is done
pub done_within : (states : List State) (one : ℕ) (summary : Summary) → state_of states one ≡ Done summary → one < length states
done_within states one summary done = elim (cases_lt one (length states)) [
  | inl within ↦ within
  | inr past ↦ absurd (let new : state_of states one ≡ New = get_or-eq_default states New past in cc done)
]

-- the offset of a structure that is read
pub at_offset : (structures : List Structure) (one : ℕ) (structure : Structure) → one < length structures → (get_or structures one structure).at ≡ offset_of structures one
at_offset structures one structure within = ap (λ o. option_map_or (λ (s : Structure). s.at) o 0) (sym (slice_get-get_or structures one structure within))

-- one for each is how many there are
ones : (routes : List Route) → weigh (λ shape. 1) routes ≡ length routes
ones [] = refl
ones (route ∷ routes) = rw (sum_by-cons {X = Route} (λ r. 1) route routes, ones routes) (omega arith)

module _ {structures : List Structure} {layer_map : LayerMap} {plan : Plan} (of : IsPlanOf structures layer_map plan) where
  -- the top has a state
  pub top_within : plan.top < length plan.states.items
  top_within = let done = of.planned.done plan.top of.planned.chosen.0 in done_within plan.states.items plan.top done.0 done.1

  module _ {summary : Summary} (done : state_of plan.states.items plan.top ≡ Done summary) where
    abbrev known : (weight : Weight) × Weighs plan.nodes.items plan.top weight × IsKept weight summary
    known = of.planned.settled.are_true plan.top summary done

    abbrev placed : List Route
    placed = placed_routes structures layer_map plan.top

    shallow : summary.height ≤ 256 → IsShallow structures plan.top
    shallow low n chain =
        let h : n ≤ known.0.height = height_bounds structures layer_map plan.nodes.items of.planned.surveyed.nodes_are plan.top known.0 known.1 n chain in
        omega (arith, known.2.height)

    deep : 256 < summary.height → IsShallow structures plan.top → ⊥
    deep high all =
        let h : known.0.height ≤ 256 = all known.0.height (height_starts structures layer_map plan.nodes.items of.planned.surveyed.nodes_are plan.top known.0 known.1) in
        omega (arith, known.2.height)

    shapes_are : summary.height ≤ 256 → length placed ≡ known.0.shapes
    shapes_are low =
        sym (ones placed) ∙ ap (weigh (λ shape. 1)) (routes_alike structures layer_map plan.nodes.items of.planned.surveyed.nodes_are 256 plan.top)
        ∙ counted plan.nodes.items (λ shape. 1) (λ w. w.shapes) refl (λ a b. refl) (λ of element layer shape. refl) (λ copies w. refl) plan.top known.0 known.1 256 (omega (arith, known.2.height))

    points_are : summary.height ≤ 256 → weigh (λ shape. length shape.points) placed ≡ known.0.points
    points_are low =
        ap (weigh (λ shape. length shape.points)) (routes_alike structures layer_map plan.nodes.items of.planned.surveyed.nodes_are 256 plan.top)
        ∙ counted plan.nodes.items (λ shape. length shape.points) (λ w. w.points) refl (λ a b. refl) (λ of element layer shape. refl) (λ copies w. refl) plan.top known.0 known.1 256
        (omega (arith, known.2.height))

    small : summary.height ≤ 256 → summary.shapes ≤ 1000000 → summary.points ≤ 8000000 → IsSmall placed
    small low few_shapes few_points = record { few_shapes = omega (arith, known.2.shapes, shapes_are low); few_points = omega (arith, known.2.points, points_are low) }

    large : summary.height ≤ 256 → (1000000 < summary.shapes) ⊎ (8000000 < summary.points) → IsSmall placed → ⊥
    large low (inl many) is_small_one = let h = is_small_one.few_shapes in omega (arith, known.2.shapes, shapes_are low)
    large low (inr many) is_small_one = let h = is_small_one.few_points in omega (arith, known.2.points, points_are low)

    pub deep_refused : (at : ℕ) → at ≡ offset_of structures plan.top → 256 < summary.height → PlacingFrom structures plan.top placed (refused (TooDeep at))
    deep_refused at begins high = one_fails (record {
      check = is_shallow;
      is_first = fails_at_once (TopHolds structures plan.top placed) is_shallow (is_small ∷ map is_in_range placed) (deep high);
      is_its_refusal = ap TooDeep begins;
    })

    pub large_refused : (at : ℕ) → at ≡ offset_of structures plan.top → summary.height ≤ 256 → (1000000 < summary.shapes) ⊎ (8000000 < summary.points)
        → PlacingFrom structures plan.top placed (refused (TooManyShapes at))
    large_refused at begins low many = one_fails (record {
      check = is_small;
      is_first = fails_later (TopHolds structures plan.top placed) is_shallow (is_small ∷ map is_in_range placed) is_small (shallow low)
          (fails_at_once (TopHolds structures plan.top placed) is_small (map is_in_range placed) (large low many));
      is_its_refusal = ap TooManyShapes begins;
    })

    pub size_kept : summary.height ≤ 256 → summary.shapes ≤ 1000000 → summary.points ≤ 8000000 → All (TopHolds structures plan.top placed) (is_shallow ∷ is_small ∷ [])
    size_kept low few_shapes few_points =
        All-cons (TopHolds structures plan.top placed) is_shallow (is_small ∷ []) (shallow low)
        (All-cons (TopHolds structures plan.top placed) is_small [] (small low few_shapes few_points) (All-nil (TopHolds structures plan.top placed)))
