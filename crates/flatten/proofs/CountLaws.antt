-- the routes from a structure by its parts, and what they weigh
use Rattle.std.proofs.Common.{ℕ, zero, suc, ◌+◌, ◌*◌, ◌≤◌, ◌≡◌, List, [], ◌∷◌, Vec, refl, sym, ap, subst, ◌∙◌, arith, Contains}
use Rattle.lists.proofs.Words.{flat_map, sum_by-append, sum_by-cons, Bor, Global, option_map_or}
use Rattle.library_model.specs.Names.{names_of}
use Rattle.library_model.specs.declared.element.Shape.{Shape}
use Rattle.library_model.specs.declared.element.Reference.{Reference}
use Rattle.library_model.specs.declared.library.Structure.{Structure}
use Rattle.map_model.specs.MapNames.{LayerMap}
use Rattle.flatten.specs.Routes.{Route, routes, mapped_routes}
use Rattle.flatten.specs.inside.FollowedParts.{AreNodes, LeadsTo, parts_at}
use Rattle.flatten.specs.inside.Weights.{Weight, no_weight, both_weights, times_weight, weight_of, weight_over, Weighs, weighs, copies_of}
use Rattle.flatten.specs.inside.Ends.{node_routes, part_routes, routes_below}
use Rattle.flatten.specs.declared.part.Part.{Part}
use Rattle.flatten.specs.declared.part.Part.TheVariants.{End, Copies}
use Rattle.flatten.specs.Steps.{steps_of}
use Rattle.lists.proofs.Containing.{Contains-head, Contains-tail}
use Rattle.flatten.proofs.RouteLaws.{from_target, routes-is}
use Rattle.flatten.proofs.GraphLaws.{is_of_at, parts_of_at, bound_in}
use Rattle.flatten.proofs.EndLaws.{parts_alike, weigh, weigh-copies}
use Rattle.flatten.proofs.ArrayLaws.{steps_long}

-- the routes from a structure are those of its parts
pub node_routes-is : (nodes : List (Vec Part Global)) (k one : ℕ) → node_routes nodes k one ≡ flat_map (part_routes (routes_below nodes k) one) (parts_at nodes one)
unfolding node_routes
node_routes-is nodes zero one = refl
node_routes-is nodes (suc k) one = refl

-- and those of the library to shapes of mapped layers
module _ (structures : List Structure) (layer_map : LayerMap) (nodes : List (Vec Part Global)) (are_nodes : AreNodes (names_of structures) layer_map structures nodes) where
  -- where it holds of the targets of its parts
  alike_by : (k one : ℕ) → ((reference : Bor Reference) (target : ℕ) → Contains (parts_at nodes one) (Copies reference target)
      → mapped_routes layer_map (from_target structures k reference.now) ≡ routes_below nodes k target) → mapped_routes layer_map (routes structures k one) ≡ node_routes nodes k one
  alike_by k one alike =
      ap (mapped_routes layer_map) (routes-is structures k one)
      ∙ parts_alike layer_map (names_of structures) one (from_target structures k) (routes_below nodes k) (parts_of_at structures layer_map nodes are_nodes one) alike
      ∙ sym (node_routes-is nodes k one)

  pub routes_alike : (k one : ℕ) → mapped_routes layer_map (routes structures k one) ≡ node_routes nodes k one
  routes_alike zero one = alike_by zero one (λ reference target there. refl)
  routes_alike (suc k) one = alike_by (suc k) one (λ reference target there.
      ap (λ o. mapped_routes layer_map (option_map_or (routes structures k) o [])) (is_of_at structures layer_map nodes are_nodes one (Copies reference target) there).1 ∙ routes_alike k target)

-- numbers of weights are those of the routes
module _ (nodes : List (Vec Part Global)) (weight : Shape → ℕ) (number : Weight → ℕ)
    (of_none : number no_weight ≡ 0) (of_both : (a b : Weight) → number (both_weights a b) ≡ number a + number b)
    (of_end : (of : ℕ → Weight) (element layer : ℕ) (shape : Bor Shape) → number (weight_of of (End element layer shape)) ≡ weight shape.now)
    (of_copies : (copies : ℕ) (w : Weight) → number (times_weight copies w) ≡ copies * number w) where
  -- where that holds of the structures to which parts refer, it holds of the routes that begin at the parts
  module _ (structure : ℕ) (of : ℕ → Weight) (by_number : ℕ → List Route) where
    weigh-part : (part : Part) → ((reference : Bor Reference) (target : ℕ) → part ≡ Copies reference target → weigh weight (by_number target) ≡ number (of target))
        → weigh weight (part_routes by_number structure part) ≡ number (weight_of of part)
    weigh-part (End element layer shape) known = rw (of_end of) (simp (sum_by-cons {X = Route}) (omega arith))
    weigh-part (Copies reference target) known =
        rw (weigh-copies weight (by_number target) (steps_of reference.now), steps_long reference.now, known reference target refl, of_copies (copies_of reference.now) (of target)) refl

    weigh-parts : (parts : List Part) → ((reference : Bor Reference) (target : ℕ) → Contains parts (Copies reference target) → weigh weight (by_number target) ≡ number (of target))
        → weigh weight (flat_map (part_routes by_number structure) parts) ≡ number (weight_over of parts)
    weigh-parts [] known = sym of_none
    weigh-parts (part ∷ parts) known =
        rw (
          of_both (weight_of of part) (weight_over of parts),
          ← weigh-part part (λ reference target e. known reference target (subst (Contains (part ∷ parts)) e (Contains-head part parts))),
          ← weigh-parts parts (λ reference target there. known reference target (Contains-tail part parts (Copies reference target) there)),
        )
        (sum_by-append {X = Route} (λ route. weight route.shape) (part_routes by_number structure part) (flat_map (part_routes by_number structure) parts))

  -- and so of those with one step less
  below : (of : ℕ → Weight) (parts : List Part) → ((target : ℕ) → LeadsTo parts target → (k : ℕ) → (of target).height ≤ k → weigh weight (node_routes nodes k target) ≡ number (of target))
      → (k : ℕ) → (weight_over of parts).height ≤ k → (reference : Bor Reference) (target : ℕ) → Contains parts (Copies reference target)
      → weigh weight (routes_below nodes k target) ≡ number (of target)
  below of parts each zero low reference target there = let high = bound_in of parts reference target there in absurd (omega arith)
  below of parts each (suc k) low reference target there = let high = bound_in of parts reference target there in each target (reference, there) k (omega arith)

  pub counted : (one : ℕ) (w : Weight) → Weighs nodes one w → (k : ℕ) → w.height ≤ k → weigh weight (node_routes nodes k one) ≡ number w
  counted one w (weighs of each) k low =
      rw (node_routes-is nodes k one) (weigh-parts one of (routes_below nodes k) (parts_at nodes one) (below of (parts_at nodes one) (λ target to. counted target (of target) (each target to)) k low))
