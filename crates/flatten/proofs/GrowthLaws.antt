-- lists of placed shapes that grow
use Rattle.std.proofs.Common.{ℕ, ◌+◌, ◌≤◌, ◌<◌, ◌≡◌, List, [], ◌∷◌, ◌++◌, length, get_or, map, take, take_all, append_assoc, Result, Ok, Err, refl, sym, ap, ◌∙◌, arith, Contains, All}
use Rattle.std.specs.Prelude.{IsErrAnd}
use Rattle.lists.proofs.Words.{flat_map, Bor, append-nil, map-append, All-nil, range_with_len, length-range_with_len, get_or-range_with_len}
use Rattle.first_refusal.specs.Answers.{Answers, gives}
use Rattle.first_refusal.specs.Checks.{all_hold}
use Rattle.first_refusal.proofs.AnswerLaws.{handed_on}
use Rattle.first_refusal.proofs.JudgeLaws.{given, passed, weaker}
use Rattle.library_model.specs.declared.element.Shape.{Shape}
use Rattle.map_model.specs.MapNames.{LayerMap, IsMappedTo}
use Rattle.flatten.specs.Steps.{Step}
use Rattle.flatten.specs.Routes.{Route, behind_step}
use Rattle.flatten.specs.Motions.{MovesAlong}
use Rattle.flatten.specs.Placed.{IsEndOf}
use Rattle.flatten.specs.Placements.{PlacesInRange}
use Rattle.flatten.specs.inside.FollowedParts.{Nodes, parts_at}
use Rattle.flatten.specs.inside.Ends.{node_routes, part_routes, route_to}
use Rattle.flatten.specs.inside.Expansions.{AddsEnds, Expands, HaveLayers, PlacesEach, behind_steps}
use Rattle.flatten.specs.declared.fault.PlaceFault.{PlaceFault}
use Rattle.flatten.specs.declared.fault.PlaceFault.TheVariants.{OutOfRange, Memory}
use Rattle.flatten.specs.declared.motion.Motion.{Motion}
use Rattle.flatten.specs.declared.part.Part.TheVariants.{End}
use Rattle.flatten.specs.declared.placed.Placed.{Placed}
use Rattle.lists.proofs.Pairing.{AllZip-append}
use Rattle.flatten.proofs.FirstLaws.{hold_at, next_added, refused_at}

-- no routes add nothing
pub no_ends : {layer_map : LayerMap} {before : List Placed} → AddsEnds layer_map [] before before
no_ends {before} = record { added = []; grown = sym (append-nil before); ends = tt }

-- the ends of routes behind those of others
ends_both : (layer_map : LayerMap) (routes more : List Route) (before between after : List Placed) → AddsEnds layer_map routes before between → AddsEnds layer_map more between after
    → AddsEnds layer_map (routes ++ more) before after
ends_both layer_map routes more before between after first second = record {
  added = first.added ++ second.added;
  grown = second.grown ∙ ap (λ list. list ++ second.added) first.grown ∙ append_assoc before first.added second.added;
  ends = AllZip-append (IsEndOf layer_map) routes more first.added second.added first.ends second.ends;
}

-- the routes of items behind steps
abbrev pub behind : {X : Type 0} → (X → List Route) → List Step → X → List Route
behind of_item steps x = map (behind_steps steps) (of_item x)

behind-flat_map : {X : Type 0} (of_item : X → List Route) (steps : List Step) (xs : List X) → map (behind_steps steps) (flat_map of_item xs) ≡ flat_map (behind of_item steps) xs
behind-flat_map of_item steps [] = refl
behind-flat_map of_item steps (x ∷ xs) =
    map-append (behind_steps steps) (of_item x) (flat_map of_item xs) ∙ ap (λ rs. behind of_item steps x ++ rs) (behind-flat_map of_item steps xs)

-- a loop over items, of which each has routes: those of the items before a place are placed
pub record IsFollowedTo {X : Type 0} (nodes : Nodes) (motion : Motion) (of_item : X → List Route) (xs : List X) (i : ℕ) (before now : List Placed) : Type 0 where
  pub in_range : (steps : List Step) → MovesAlong motion steps → All PlacesInRange (flat_map (behind of_item steps) (take i xs))
  pub adds : (steps : List Step) → MovesAlong motion steps → (layer_map : LayerMap) → HaveLayers layer_map nodes → AddsEnds layer_map (flat_map (behind of_item steps) (take i xs)) before now

module _ {X : Type 0} {nodes : Nodes} {motion : Motion} {of_item : X → List Route} {xs : List X} {before : List Placed} where
  pub none_followed : IsFollowedTo nodes motion of_item xs 0 before before
  none_followed = record { in_range = λ steps moves. All-nil PlacesInRange; adds = λ steps moves layer_map have. no_ends }

  module _ {i : ℕ} {now : List Placed} (so_far : IsFollowedTo nodes motion of_item xs i before now) (routes : List Route) (all : routes ≡ flat_map of_item xs) where
    read : (steps : List Step) → map (behind_steps steps) routes ≡ flat_map (behind of_item steps) xs
    read steps = ap (map (behind_steps steps)) all ∙ behind-flat_map of_item steps xs

    pub all_followed : {done : Unit {0}} → length xs ≤ i → (steps : List Step) → MovesAlong motion steps → Answers Memory (Expands nodes steps routes before now) (Ok done)
    all_followed past steps moves =
        rw (read steps) (gives (all_hold (rw (take_all i xs past) at (so_far.in_range steps moves)) (rw (take_all i xs past) at (so_far.adds steps moves))))

    module _ (x : X) (more : i < length xs) (is : x ≡ get_or xs i x) where
      pub one_refuses : {after back : List Placed} (result : Result (Unit {0}) PlaceFault) (fault : PlaceFault) → IsErrAnd result (λ same. same ≡ fault)
          → ((steps : List Step) → MovesAlong motion steps → Answers Memory (Expands nodes steps (of_item x) now after) (Err fault))
          → (steps : List Step) → MovesAlong motion steps → Answers Memory (Expands nodes steps routes before back) result
      one_refuses result fault gave told steps moves = handed_on Memory _ result fault gave
          (rw (read steps) (refused_at (behind of_item steps) xs i x more is PlacesInRange (so_far.in_range steps moves) (λ (route : Route). OutOfRange route.shape.at) _ _ fault (told steps moves)))

  pub one_followed : {i : ℕ} {now after : List Placed} {done : Unit {0}} → IsFollowedTo nodes motion of_item xs i before now → (x : X) → i < length xs → x ≡ get_or xs i x
      → ((steps : List Step) → MovesAlong motion steps → Answers Memory (Expands nodes steps (of_item x) now after) (Ok done)) → IsFollowedTo nodes motion of_item xs (i + 1) before after
  one_followed {i} {now} {after} so_far x more is told = record {
    in_range = λ steps moves. hold_at (behind of_item steps) xs i x more is PlacesInRange (so_far.in_range steps moves) (passed (told steps moves));
    adds = λ steps moves layer_map have.
        rw (next_added (behind of_item steps) xs i x more is)
        (ends_both layer_map _ (behind of_item steps x) before now after (so_far.adds steps moves layer_map have) (given (told steps moves) layer_map have));
  }

pub nothing_placed : (nodes : Nodes) (motion : Motion) {routes : List Route} {before : List Placed} {done : Unit {0}} → routes ≡ [] → (steps : List Step) → MovesAlong motion steps
    → Answers Memory (Expands nodes steps routes before before) (Ok done)
nothing_placed nodes motion none steps moves = rw none (gives (all_hold (All-nil PlacesInRange) (λ layer_map have. no_ends)))

-- numbers as items
pub number_more : {count i : ℕ} → i < count → i < length (range_with_len 0 count)
number_more {count} h = rw (length-range_with_len 0 count) h

pub number_is : {count i : ℕ} → i < count → i ≡ get_or (range_with_len 0 count) i i
number_is {count} {i} h = let zero-more : 0 + i ≡ i = omega arith in sym (get_or-range_with_len 0 count i i h ∙ zero-more)

-- a shape is the end of the steps that lead to it
pub end_placed : (nodes : Nodes) (from : ℕ → List Route) {one element layer : ℕ} {shape : Bor Shape} {before after : List Placed} {result : Result (Unit {0}) PlaceFault} (steps : List Step)
    → Contains (parts_at nodes one) (End element layer shape)
    → Answers Memory (PlacesEach (λ layer_map. IsMappedTo layer_map (shape.now.layer, shape.now.datatype) layer) (route_to steps one element shape.now ∷ []) before (λ done. after)) result
    → Answers Memory (Expands nodes steps (part_routes from one (End element layer shape)) before after) result
end_placed nodes from {one} {element} {layer} {shape} {before} {after} {result} steps there told =
    rw (append-nil steps) (weaker PlacesInRange (λ (route : Route). OutOfRange route.shape.at) _ _ _ result (λ done h layer_map have. h layer_map (have one element layer shape there)) told)

-- steps before a step before a route
behind_both : (steps : List Step) (step : Step) (routes : List Route) → map (behind_steps steps) (map (behind_step step) routes) ≡ map (behind_steps (steps ++ step ∷ [])) routes
behind_both steps step [] = refl
behind_both steps step (route ∷ routes) = simp (append_assoc, behind_both steps step routes)

pub stepped : (nodes : Nodes) (motion farther : Motion) (target : ℕ) {step : Step} {left less : ℕ} {before after : List Placed} {result : Result (Unit {0}) PlaceFault}
    → ((steps : List Step) → MovesAlong motion steps → MovesAlong farther (steps ++ step ∷ [])) → less ≡ left
    → ((steps : List Step) → MovesAlong farther steps → Answers Memory (Expands nodes steps (node_routes nodes less target) before after) result)
    → (steps : List Step) → MovesAlong motion steps → Answers Memory (Expands nodes steps (map (behind_step step) (node_routes nodes left target)) before after) result
stepped nodes motion farther target {step} {left} {less} {before} {after} {result} moves same told steps along =
    rw (← same, behind_both steps step (node_routes nodes less target)) (told (steps ++ step ∷ []) (moves steps along))
