-- the placed shapes of a library are one list, and there is one where it is not refused
use Rattle.std.proofs.Common.{ℕ, ◌≡◌, Bool, true, false, cond, List, [], ◌∷◌, Option, refl, sym, ap, ◌∙◌, subst}
use Rattle.lists.proofs.Words.{AllZip}
use Rattle.first_refusal.specs.Laws.{IsUnique}
use Rattle.first_refusal.specs.Outcomes.{value, goes_on}
use Rattle.first_refusal.specs.Checks.{all_hold}
use Rattle.library_model.specs.declared.library.Structure.{Structure}
use Rattle.map_model.specs.MapNames.{LayerMap, layers_of, pairs_of}
use Rattle.lists.specs.Differing.{AreDifferent}
use Rattle.map_model.proofs.laws.PairLaws.{pair_tells_layer}
use Rattle.flatten.specs.Structures.{is_mapped}
use Rattle.flatten.specs.Routes.{Route, mapped_routes, routes as all_routes}
use Rattle.flatten.specs.Placements.{Placing, PlacingFrom, placed_routes}
use Rattle.flatten.specs.Placed.{IsEndOf, ArePlaced}
use Rattle.flatten.specs.declared.motion.Motion.{Motion}
use Rattle.flatten.specs.declared.placed.Placed.{Placed}
use Rattle.flatten.proofs.OneMotion.{motions_agree, one_motion}
use Rattle.flatten.proofs.laws.Placings.{placings_agree}
use Rattle.flatten.proofs.LayerLaws.{is_mapped-is}

-- where each item stands for one thing at most, items stand for one list at most
lists_agree : {X Y : Type 0} (R : X → Y → Type 0) → ((x : X) → IsUnique (R x)) → (xs : List X) → IsUnique (AllZip R xs)
lists_agree R each [] [] [] a b = refl
lists_agree R each [] [] (z ∷ zs) a b = absurd b
lists_agree R each [] (y ∷ ys) zs a b = absurd a
lists_agree R each (x ∷ xs) [] zs a b = absurd a
lists_agree R each (x ∷ xs) (y ∷ ys) [] a b = absurd b
lists_agree R each (x ∷ xs) (y ∷ ys) (z ∷ zs) a b =
    ap (λ one. one ∷ ys) (each x y z a.0 b.0) ∙ ap (λ others. z ∷ others) (lists_agree R each xs ys zs a.1 b.1)

module _ (layer_map : LayerMap) (differ : AreDifferent (pairs_of (layers_of layer_map))) where
  ends_agree : (route : Route) → IsUnique (IsEndOf layer_map route)
  ends_agree route one other a b = ap (λ n. shape_at n motion_one) numbers ∙ ap (shape_at (numbers_of other)) motions
    where
      numbers_of : Placed → ℕ × ℕ × ℕ × ℕ
      numbers_of placed = (placed.structure, placed.element, placed.at, placed.layer)

      shape_at : ℕ × ℕ × ℕ × ℕ → Motion → Placed
      shape_at n motion = record { structure = n.0; element = n.1; at = n.2; layer = n.3; turn = motion.turn; dx = motion.dx; dy = motion.dy }

      motion_one : Motion
      motion_one = record { turn = one.turn; dx = one.dx; dy = one.dy }

      motions : motion_one ≡ record { turn = other.turn; dx = other.dx; dy = other.dy }
      motions = motions_agree motion_one (record { turn = other.turn; dx = other.dx; dy = other.dy }) (λ p. a.moves p ∙ sym (b.moves p))

      layers : one.layer ≡ other.layer
      layers = pair_tells_layer (layers_of layer_map) (route.shape.layer, route.shape.datatype) one.layer other.layer differ a.layer b.layer

      numbers : numbers_of one ≡ numbers_of other
      numbers = cc (a.structure, b.structure, a.element, b.element, a.at, b.at, layers)

  pub placed_shapes_agree : (structures : List Structure) (wanted : Option (List ℕ)) → IsUnique (ArePlaced structures layer_map wanted)
  placed_shapes_agree structures wanted one other a b =
      let outcomes : value a.routes ≡ value b.routes = placings_agree structures layer_map wanted (value a.routes) (value b.routes) a.placing b.placing in
      let routes : a.routes ≡ b.routes = cc in
      lists_agree (IsEndOf layer_map) ends_agree b.routes one other (subst (λ rs. AllZip (IsEndOf layer_map) rs one) routes a.ends) b.ends

module _ (layer_map : LayerMap) where
  -- a route to a mapped shape has an end
  end_of : (route : Route) → is_mapped layer_map route.shape ≡ true → (placed : Placed) × IsEndOf layer_map route placed
  end_of route mapped =
      let layer = (is_mapped-is layer_map route.shape).0 mapped in
      let motion = one_motion route.steps in (
        record { structure = route.structure; element = route.element; at = route.shape.at; layer = layer.0; turn = motion.0.turn; dx = motion.0.dx; dy = motion.0.dy },
        record { structure = refl; element = refl; at = refl; layer = layer.1; moves = motion.1 },
      )

  -- ends of mapped routes, of which there is one more or not
  abbrev HaveEnds : List Route → Type 0
  HaveEnds routes = (placed : List Placed) × AllZip (IsEndOf layer_map) routes placed

  one_end_more : (route : Route) (routes : List Route) → HaveEnds routes → (b : Bool) → is_mapped layer_map route.shape ≡ b → HaveEnds (cond b (route ∷ routes) routes)
  one_end_more route routes rest true mapped = let one = end_of route mapped in (one.0 ∷ rest.0, (one.1, rest.1))
  one_end_more route routes rest false unmapped = rest

  have_ends : (routes : List Route) → HaveEnds (mapped_routes layer_map routes)
  have_ends [] = ([], tt)
  have_ends (route ∷ routes) = one_end_more route (mapped_routes layer_map routes) (have_ends routes) (is_mapped layer_map route.shape) refl

  module _ (structures : List Structure) where
    ends_from : (top : ℕ) (routes : List Route) → PlacingFrom structures top (placed_routes structures layer_map top) (value routes) → HaveEnds routes
    ends_from top _ (all_hold {v = routes} all is) = subst HaveEnds (sym is) (have_ends (all_routes structures 256 top))

    pub placed_shapes_exist : (wanted : Option (List ℕ)) (routes : List Route) → Placing structures layer_map wanted (value routes) → (placed : List Placed)
        × ArePlaced structures layer_map wanted placed
    placed_shapes_exist wanted routes placing = let ends = ends_of routes placing in (ends.0, record { routes = routes; placing = placing; ends = ends.1 })
      where
        ends_of : (routes : List Route) → Placing structures layer_map wanted (value routes) → HaveEnds routes
        ends_of routes (goes_on {v = top} chosen from) = ends_from top routes from
