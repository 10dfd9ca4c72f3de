-- the placement of a library, from what its plan and its expansion say
use Rattle.std.proofs.Common.{ℕ, ◌<◌, length, arith, ◌∙◌, ◌≡◌, ◌≢◌, List, [], ◌∷◌, map, Option, Result, Ok, Err, Vec, refl, sym, ap, subst, All}
use Rattle.std.specs.Prelude.{IfOk, IfErr}
use Rattle.lists.proofs.Words.{AllZip, Global}
use Rattle.first_refusal.specs.Outcomes.{refused, goes_on}
use Rattle.first_refusal.specs.Answers.{Answers, gives, refuses, no_memory}
use Rattle.first_refusal.specs.Checks.{all_hold, one_fails}
use Rattle.first_refusal.proofs.JudgeLaws.{Judges, goes_on as goes_on_behind, renamed}
use Rattle.library_model.specs.declared.library.Structure.{Structure}
use Rattle.map_model.specs.MapNames.{LayerMap}
use Rattle.flatten.specs.Routes.{Route, routes}
use Rattle.flatten.specs.Placements.{Placing, TopCheck, TopHolds, top_checks, top_fault, is_shallow, is_small, is_in_range, PlacesInRange, placed_routes}
use Rattle.flatten.specs.Placed.{ArePlaced, IsEndOf}
use Rattle.flatten.specs.inside.Ends.{node_routes}
use Rattle.flatten.specs.inside.Plans.{IsPlan}
use Rattle.flatten.specs.inside.Expansions.{AddsEnds, HasLibrary, HaveLayers, PlacesEach, behind_steps}
use Rattle.flatten.specs.inside.FollowedParts.{AreNodesBelow, Nodes}
use Rattle.flatten.specs.inside.Prunings.{AreNodesDone, IsPruned}
use Rattle.flatten.specs.declared.fault.PlaceFault.{PlaceFault}
use Rattle.flatten.specs.declared.fault.PlaceFault.TheVariants.{OutOfRange, Memory}
use Rattle.flatten.specs.declared.placed.Placed.{Placed}
use Rattle.flatten.specs.declared.plan.Plan.{Plan}
use Rattle.flatten.proofs.PlanLaws.{nodes_long}
use Rattle.flatten.proofs.PruningLaws.{pruned_below, pruned_routes}
use Rattle.flatten.proofs.ExpansionLaws.{have_layers}
use Rattle.flatten.proofs.CountLaws.{routes_alike}

-- routes behind no steps
behind_none : (routes : List Route) → map (behind_steps []) routes ≡ routes
behind_none [] = refl
behind_none (route ∷ routes) = ap (λ rs. route ∷ rs) (behind_none routes)

-- a plan whose graph is pruned
module _ (plan : Plan) (has : HasLibrary plan) where
  pub all_done : AreNodesDone plan.states.items plan.nodes.items
  all_done one reference target there =
      has.2.planned.done target (let h = has.2.planned.surveyed.below one reference target there in omega (arith, nodes_long has.0 has.1 plan.nodes.items has.2.planned.surveyed.nodes_are))

  module _ {pruned : Nodes} (is : IsPruned plan.nodes.items pruned) where
    pub still_below : AreNodesBelow (length pruned) pruned
    still_below = pruned_below plan.nodes.items pruned is has.2.planned.surveyed.below

    pub still_there : plan.top < length pruned
    still_there = let within = has.2.planned.chosen.0 in omega (arith, nodes_long has.0 has.1 plan.nodes.items has.2.planned.surveyed.nodes_are, is.long)

    pub routes_behind_none : (k : ℕ) → map (behind_steps []) (node_routes pruned k plan.top) ≡ node_routes plan.nodes.items k plan.top
    routes_behind_none k = behind_none (node_routes pruned k plan.top) ∙ pruned_routes plan.nodes.items pruned is k plan.top

module _ (structures : List Structure) (layer_map : LayerMap) (wanted : Option (List ℕ)) (plan : Plan) (is : IsPlan structures layer_map wanted plan) where
  abbrev all : List Route
  all = placed_routes structures layer_map plan.top

  abbrev Holds : TopCheck → Type 0
  Holds = TopHolds structures plan.top all

  -- the top's routes are those that are placed
  routes_are : node_routes plan.nodes.items 256 plan.top ≡ all
  routes_are = sym (routes_alike structures layer_map plan.nodes.items is.surveyed.nodes_are 256 plan.top)

  module _ (few : All Holds (is_shallow ∷ is_small ∷ [])) where
    -- the checks of the top, from those of the routes
    placing_from : {T : Type 0} (Is : T → Type 0) (result : Result T PlaceFault) → Judges Memory PlacesInRange all (λ route. OutOfRange route.shape.at) Is result
        → Judges Memory Holds (is_shallow ∷ is_small ∷ map is_in_range all) (top_fault structures plan.top) Is result
    placing_from Is result told =
        goes_on_behind Holds (top_fault structures plan.top) Is (is_shallow ∷ is_small ∷ []) (map is_in_range all) result few
        (renamed PlacesInRange Holds (λ (route : Route). OutOfRange route.shape.at) (top_fault structures plan.top) is_in_range (λ route h. h) (λ route h. h) (λ route. refl) Is all result told)

    pub all_placed : (result : Result (Vec Placed Global) PlaceFault)
        → Answers Memory (PlacesEach (λ layer_map. HaveLayers layer_map plan.nodes.items) (node_routes plan.nodes.items 256 plan.top) [] (λ placed. placed.items)) result
        → IfOk result (λ placed. ArePlaced structures layer_map wanted placed.items) × IfErr result (λ fault. fault ≢ Memory → Placing structures layer_map wanted (refused fault))
    all_placed result told = by_checks result (placing_from _ result (rw routes_are at told))
      where
        by_checks : (result : Result (Vec Placed Global) PlaceFault)
            → Judges Memory Holds (top_checks all) (top_fault structures plan.top)
            (λ (placed : Vec Placed Global). (layer_map : LayerMap) → HaveLayers layer_map plan.nodes.items → AddsEnds layer_map all [] placed.items) result
            → IfOk result (λ placed. ArePlaced structures layer_map wanted placed.items) × IfErr result (λ fault. fault ≢ Memory → Placing structures layer_map wanted (refused fault))
        by_checks (Ok placed) (gives (all_hold checks added)) =
            let h = added layer_map (have_layers structures layer_map plan.nodes.items is.surveyed.nodes_are) in
            (record { routes = all; placing = goes_on is.chosen.1 (all_hold checks refl); ends = subst (AllZip (IsEndOf layer_map) all) (sym h.grown) h.ends }, tt)
        by_checks (Err fault) (refuses (one_fails first)) = (tt, λ kept. goes_on is.chosen.1 (one_fails first))
        by_checks (Err _) no_memory = (tt, λ kept. absurd (kept refl))
