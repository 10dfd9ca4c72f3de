-- the routes of a structure's parts, and what they weigh
use Rattle.std.proofs.Common.{ℕ, ◌*◌, ◌≡◌, Bool, true, false, cond, List, [], ◌∷◌, ◌++◌, length, map, refl, ap, ◌∙◌, arith, Contains, filter, sum_by}
use Rattle.lists.proofs.Words.{flat_map, Bor, filter-append, sum_by-append, sum_by-cons}
use Rattle.library_model.specs.declared.element.Element.{Element}
use Rattle.library_model.specs.declared.element.Shape.{Shape}
use Rattle.library_model.specs.declared.element.Reference.{Reference}
use Rattle.map_model.specs.MapNames.{LayerMap}
use Rattle.flatten.specs.Structures.{is_mapped}
use Rattle.flatten.specs.Steps.{Step, steps_of}
use Rattle.flatten.specs.Routes.{Route, behind_step, routes_at, mapped_routes}
use Rattle.flatten.specs.inside.FollowedParts.{AreParts, no_more, passed_over, ends_there, goes_on}
use Rattle.flatten.specs.inside.Ends.{part_routes, route_to}
use Rattle.flatten.specs.declared.part.Part.{Part}
use Rattle.flatten.specs.declared.part.Part.TheVariants.{Copies}
use Rattle.lists.proofs.Containing.{Contains-head, Contains-tail}
use Rattle.lists.proofs.Mapping.{flat_map-same}
use Rattle.flatten.proofs.LayerLaws.{is_mapped-some}

-- a filter goes past lists of lists
filter-flat_map : {X Y : Type 0} (p : Y → Bool) (f : X → List Y) (xs : List X) → filter p (flat_map f xs) ≡ flat_map (λ x. filter p (f x)) xs
filter-flat_map p f [] = refl
filter-flat_map p f (x ∷ xs) = filter-append p (f x) (flat_map f xs) ∙ ap (λ ys. filter p (f x) ++ ys) (filter-flat_map p f xs)

-- a test that holds keeps the item, and one that fails does not
filter-yes : {X : Type 0} (p : X → Bool) (x : X) (xs : List X) → p x ≡ true → filter p (x ∷ xs) ≡ x ∷ filter p xs
filter-yes p x xs t = ap (λ b. cond b (x ∷ filter p xs) (filter p xs)) t

filter-no : {X : Type 0} (p : X → Bool) (x : X) (xs : List X) → p x ≡ false → filter p (x ∷ xs) ≡ filter p xs
filter-no p x xs f = ap (λ b. cond b (x ∷ filter p xs) (filter p xs)) f

module _ (layer_map : LayerMap) where
  abbrev mapped : Route → Bool
  mapped route = is_mapped layer_map route.shape

  -- a step in front changes nothing of the shape
  mapped-behind : (step : Step) (routes : List Route) → mapped_routes layer_map (map (behind_step step) routes) ≡ map (behind_step step) (mapped_routes layer_map routes)
  mapped-behind step [] = refl
  mapped-behind step (route ∷ routes) = rw (mapped-behind step routes) (by_test (mapped route))
    where
      by_test : (b : Bool) → let rest = mapped_routes layer_map routes in
          cond b (behind_step step route ∷ map (behind_step step) rest) (map (behind_step step) rest) ≡ map (behind_step step) (cond b (route ∷ rest) rest)
      by_test true = refl
      by_test false = refl

  -- the mapped routes of elements are those of their parts
  module _ (names : List (List ℕ)) (structure : ℕ) (by_reference : Reference → List Route) (by_number : ℕ → List Route) where
    -- the mapped routes from each target
    abbrev AreAlike : List Part → Type 0
    AreAlike parts = (reference : Bor Reference) (target : ℕ) → Contains parts (Copies reference target) → mapped_routes layer_map (by_reference reference.now) ≡ by_number target

    copies_alike : (reference : Reference) (target : ℕ) → mapped_routes layer_map (by_reference reference) ≡ by_number target
        → mapped_routes layer_map (flat_map (λ step. map (behind_step step) (by_reference reference)) (steps_of reference)) ≡ flat_map (λ step. map (behind_step step) (by_number target))
        (steps_of reference)
    copies_alike reference target e =
        filter-flat_map mapped (λ step. map (behind_step step) (by_reference reference)) (steps_of reference)
        ∙ flat_map-same (λ step. mapped_routes layer_map (map (behind_step step) (by_reference reference))) (λ step. map (behind_step step) (by_number target)) (steps_of reference)
        (λ step there. mapped-behind step (by_reference reference) ∙ ap (map (behind_step step)) e)

    pub parts_alike : {elements : List (ℕ × Element)} {parts : List Part} → AreParts names layer_map elements parts → AreAlike parts
        → mapped_routes layer_map (flat_map (routes_at by_reference structure) elements) ≡ flat_map (part_routes by_number structure) parts
    parts_alike no_more alike = refl
    parts_alike (passed_over {number = n} {shape = shape} {elements = es} unmapped h) alike =
        filter-no mapped (route_to [] structure n shape) (flat_map (routes_at by_reference structure) es) unmapped ∙ parts_alike h alike
    parts_alike (ends_there {number = n} {layer = l} {shape = shape} {elements = es} has h) alike =
        filter-yes mapped (route_to [] structure n shape.now) (flat_map (routes_at by_reference structure) es) (is_mapped-some layer_map shape.now l has)
        ∙ ap (λ rs. route_to [] structure n shape.now ∷ rs) (parts_alike h (λ reference target there. alike reference target (Contains-tail _ _ (Copies reference target) there)))
    parts_alike (goes_on {target = t} {reference = r} {elements = es} stands h) alike =
        rw (
          filter-append mapped (flat_map (λ step. map (behind_step step) (by_reference r.now)) (steps_of r.now)) (flat_map (routes_at by_reference structure) es),
          copies_alike r.now t (alike r t (Contains-head _ _)),
          parts_alike h (λ reference target there. alike reference target (Contains-tail _ _ (Copies reference target) there)),
        ) refl

-- weights of routes: of each shape a number
module _ (weight : Shape → ℕ) where
  abbrev pub weigh : List Route → ℕ
  weigh = sum_by (λ route. weight route.shape)

  weigh-behind : (step : Step) (routes : List Route) → weigh (map (behind_step step) routes) ≡ weigh routes
  weigh-behind step [] = refl
  weigh-behind step (route ∷ routes) = simp (sum_by-cons {X = Route}, weigh-behind step routes)

  pub weigh-copies : (routes : List Route) (steps : List Step) → weigh (flat_map (λ step. map (behind_step step) routes) steps) ≡ length steps * weigh routes
  weigh-copies routes [] = omega arith
  weigh-copies routes (step ∷ steps) = simp (sum_by-append {X = Route}, weigh-behind step routes, weigh-copies routes steps) (omega arith)
