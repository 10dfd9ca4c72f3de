-- structures that place nothing, and what is left of a graph without them
use Rattle.std.proofs.Common.{ℕ, zero, suc, ◌+◌, ◌*◌, ◌≤◌, ◌<◌, ◌≡◌, ◌↔◌, inl, inr, Bool, true, false, List, [], ◌∷◌, ◌++◌, map, Vec, Option, Some, None, refl, sym, ap, subst, ◌∙◌, arith, Contains}
use Rattle.std.proofs.Common.{length, length-set, get_or, get_or-set_same, get_or-set_other, set, slice_get, ◌≢◌}
use Rattle.lists.proofs.Words.{flat_map, Bor, Global, slice_get_past, cases_lt}
use Rattle.map_model.specs.MapNames.{LayerMap}
use Rattle.std.specs.Prelude.{nat_lt}
use Rattle.std.proofs.lemmas.Bool.{le-ltb, ltb-false}
use Rattle.std.specs.List.Retain.{IsFiltered, ReturnsInTurn}
use Rattle.std.specs.List.{items_where_true}
use Rattle.library_model.specs.declared.element.Lattice.{Lattice}
use Rattle.library_model.specs.declared.element.Reference.{Reference}
use Rattle.flatten.specs.Steps.{Step, steps_of, rows_of, columns_of}
use Rattle.flatten.specs.Routes.{Route, behind_step}
use Rattle.flatten.specs.inside.FollowedParts.{Nodes, parts_at, AreNodesBelow}
use Rattle.flatten.specs.inside.Weights.{Weight, weight_over, Weighs, weighs, copies_of}
use Rattle.flatten.specs.inside.Ends.{node_routes, part_routes, routes_below}
use Rattle.flatten.specs.inside.Expansions.{HaveLayers}
use Rattle.flatten.specs.inside.Prunings.{AreNodesDone, IsPrunedTo, IsBarren, IsBarrenPart, IsPruned, Prunes, TellsBarren, no_more, goes, stays}
use Rattle.flatten.specs.inside.Surveys.{AreDone, AreTrue, state_of}
use Rattle.flatten.specs.declared.part.Part.{Part}
use Rattle.flatten.specs.declared.part.Part.TheVariants.{End, Copies}
use Rattle.flatten.specs.declared.summary.Summary.{Summary}
use Rattle.flatten.specs.declared.summary.State.{State}
use Rattle.flatten.specs.declared.summary.State.TheVariants.{Done}
use Rattle.std.proofs.Math.Nat.{mul-le-mul}
use Rattle.std.proofs.lemmas.Option.{gets}
use Rattle.lists.proofs.Comparing.{equal_or_not}
use Rattle.lists.proofs.Containing.{Contains-cons_cases, Contains-head, Contains-none, Contains-one, Contains-tail}
use Rattle.lists.proofs.Mapping.{flat_map-same}
use Rattle.flatten.proofs.SearchLaws.{parts_read}
use Rattle.flatten.proofs.CountLaws.{counted, node_routes-is}
use Rattle.flatten.proofs.EndLaws.{weigh}

-- lists of which one item is set
slice_get-set_other : {X : Type 0} (xs : List X) (i : ℕ) (x : X) (k : ℕ) → k ≢ i → slice_get (set xs i x) k ≡ slice_get xs k
slice_get-set_other xs i x k apart = grind (arith, gets, get_or-set_other, length-set)

-- the parts of one structure are set: those, and the others as they were
by_set : (nodes : Nodes) (i : ℕ) (left : Vec Part Global) → i < length nodes → (P : ℕ → List Part → Type 0) → P i left.items → ((one : ℕ) → one ≢ i → P one (parts_at nodes one)) → (one : ℕ)
    → P one (parts_at (set nodes i left) one)
by_set nodes i left within P for_one for_rest one = elim (equal_or_not one i) [
  | inl same ↦ rw (same, ← parts_read (set nodes i left) i left left.items refl (rw (length-set nodes i left) within) (sym (get_or-set_same nodes i left left within))) for_one
  | inr apart ↦ rw (slice_get-set_other nodes i left one apart) (for_rest one apart)
]

-- a reference makes a copy at least
some_copies : (lattice : Option Lattice) → 1 ≤ rows_of lattice * columns_of lattice
some_copies None = omega arith
some_copies (Some lattice) = mul-le-mul lattice.some_rows lattice.some_columns

no_shapes : (copies shapes : ℕ) → 1 ≤ copies → copies * shapes ≡ 0 → shapes ≡ 0
no_shapes zero shapes h e = absurd (omega arith)
no_shapes (suc copies) shapes h e = omega arith

-- copies of what has no routes have none
pub no_routes : (steps : List Step) → flat_map (λ step. map (behind_step step) []) steps ≡ []
no_routes [] = refl
no_routes (step ∷ steps) = no_routes steps

-- parts that have no shapes have no routes, where that holds of what they refer to
nothing_in : (one : ℕ) (of : ℕ → Weight) (from : ℕ → List Route) (parts : List Part) → (weight_over of parts).shapes ≡ 0
    → ((reference : Bor Reference) (target : ℕ) → Contains parts (Copies reference target) → (of target).shapes ≡ 0 → from target ≡ []) → flat_map (part_routes from one) parts ≡ []
nothing_in one of from [] none barren = refl
nothing_in one of from (End element layer shape ∷ parts) none barren = let no : 1 + (weight_over of parts).shapes ≡ 0 = none in absurd (omega arith)
nothing_in one of from (Copies reference target ∷ parts) none barren =
    let both : copies_of reference.now * (of target).shapes + (weight_over of parts).shapes ≡ 0 = none in
    let no_more : (of target).shapes ≡ 0 = no_shapes (copies_of reference.now) (of target).shapes (some_copies reference.now.lattice) (omega arith) in
    rw (barren reference target (Contains-head (Copies reference target) parts) no_more, no_routes (steps_of reference.now))
    (nothing_in one of from parts (omega arith) (λ r t there. barren r t (Contains-tail (Copies reference target) parts (Copies r t) there)))

-- where all parts lead to what is surveyed, each does
one_done : (states : List State) (parts : List Part) → AreDone states parts → (part : Part) → Contains parts part → AreDone states (part ∷ [])
one_done states parts done part there reference target is = done reference target (subst (Contains parts) (Contains-one part (Copies reference target) is) there)

module _ (nodes : Nodes) where
  below : (target : ℕ) → ((k : ℕ) → node_routes nodes k target ≡ []) → (k : ℕ) → routes_below nodes k target ≡ []
  below target none zero = refl
  below target none (suc k) = none k

  -- a structure that weighs no shapes has no routes, however many steps they may have
  barren : (one : ℕ) (w : Weight) → Weighs nodes one w → w.shapes ≡ 0 → IsBarren nodes one
  barren one w (weighs of each) none k =
      node_routes-is nodes k one
      ∙ nothing_in one of (routes_below nodes k) (parts_at nodes one) none (λ reference target there no. below target (barren target (of target) (each target (reference, there)) no) k)

  -- and one that has no routes weighs no shapes
  no_weight : (one : ℕ) (w : Weight) → Weighs nodes one w → IsBarren nodes one → w.shapes ≡ 0
  no_weight one w told none =
      sym (counted nodes (λ shape. 1) (λ v. v.shapes) refl (λ a b. refl) (λ of element layer shape. refl) (λ copies v. refl) one w told w.height (omega arith))
      ∙ ap (weigh (λ shape. 1)) (none w.height)

  -- a structure that is surveyed places nothing exactly where no shape was counted
  pub told-is : (states : List State) → AreTrue nodes states → (one : ℕ) (summary : Summary) → state_of states one ≡ Done summary → (nat_lt 0 summary.shapes ≡ false) ↔ IsBarren nodes one
  told-is states are_true one summary done =
      let told = are_true one summary done in (
        λ none. let few : summary.shapes ≤ 0 = ltb-false 0 summary.shapes none in barren one told.0 told.1 (omega (arith, told.2.shapes)),
        λ none. let no : told.0.shapes ≡ 0 = no_weight one told.0 told.1 none in le-ltb 0 summary.shapes (omega (arith, told.2.shapes)),
      )

  -- what places nothing may go: what is left has the same routes
  module _ (from : ℕ → List Route) (one : ℕ) (nothing : (target : ℕ) → IsBarren nodes target → from target ≡ []) where
    nothing_at : (part : Part) → IsBarrenPart nodes part → part_routes from one part ≡ []
    nothing_at (End element layer shape) is = absurd is
    nothing_at (Copies reference target) is = rw (nothing target is) (no_routes (steps_of reference.now))

    left_routes : {parts left : List Part} → Prunes nodes parts left → flat_map (part_routes from one) left ≡ flat_map (part_routes from one) parts
    left_routes no_more = refl
    left_routes (goes {part = p} is h) = rw (nothing_at p is) (left_routes h)
    left_routes (stays {part = p} some h) = ap (λ routes. part_routes from one p ++ routes) (left_routes h)

  -- a test that is false exactly at what places nothing leaves the rest
  module _ {F : Type 0} (R : F → Part → Bool → F → Type 0) (f : F) where
    abbrev Tells : List Part → Type 0
    Tells parts = (part : Part) (b : Bool) (g : F) → Contains parts part → R f part b g → ((b ≡ false) ↔ IsBarrenPart nodes part) × (g ≡ f)

    left_after : (bs : List Bool) (parts : List Part) (q : F) → length bs ≡ length parts → ReturnsInTurn R f bs parts q → Tells parts → Prunes nodes parts (items_where_true bs parts)
    left_after [] [] q long run tells = no_more
    left_after [] (p ∷ parts) q long run tells = absurd (omega arith)
    left_after (b ∷ bs) [] q long run tells = absurd run
    left_after (b ∷ bs) (p ∷ parts) q long run tells =
        let one = tells p b run.0 (Contains-head p parts) run.1 in
        by_answer b one.0 (left_after bs parts q (omega arith) (subst (λ (g : F). ReturnsInTurn R g bs parts q) one.1 run.2) (λ part b g there. tells part b g (Contains-tail p parts part there)))
      where
        by_answer : (b : Bool) → (b ≡ false) ↔ IsBarrenPart nodes p → Prunes nodes parts (items_where_true bs parts) → Prunes nodes (p ∷ parts) (items_where_true (b ∷ bs) (p ∷ parts))
        by_answer true is rest = stays (λ none. let no : true ≡ false = is.1 none in cc) rest
        by_answer false is rest = goes (is.0 refl) rest

    pub left_by : (states : List State) → AreTrue nodes states → ((part : Part) (b : Bool) (g : F) → R f part b g → TellsBarren states part b × (g ≡ f))
        → (parts left : List Part) → IsFiltered R f parts left → AreDone states parts → Prunes nodes parts left
    left_by states are_true tells parts left (bs, q, long, run, is) done =
        rw is (left_after bs parts q long run (λ part b g there called.
        let told = tells part b g called in (told.0.tells nodes are_true (one_done states parts done part there), told.1)))

  -- the structures one after the other
  module _ (now : Nodes) (i : ℕ) (node : Vec Part Global) (long : length now ≡ length nodes) (within : i < length nodes) (is : node ≡ get_or now i node) (so_far : IsPrunedTo nodes now i) where
    ahead_is : node.items ≡ parts_at nodes i
    ahead_is = parts_read now i node node.items refl (omega arith) is ∙ so_far.ahead i (omega arith)

    pub node_done : (states : List State) → AreNodesDone states nodes → AreDone states node.items
    node_done states done = subst (AreDone states) (sym ahead_is) (done i)

    pub one_pruned : (left : Vec Part Global) → Prunes nodes node.items left.items → IsPrunedTo nodes (set now i left) (i + 1)
    one_pruned left prunes = record {
      behind = by_set now i left (omega arith) (λ one parts. one < i + 1 → Prunes nodes (parts_at nodes one) parts) (λ h. subst (λ parts. Prunes nodes parts left.items) ahead_is prunes)
          (λ one apart h. so_far.behind one (omega arith));
      ahead = by_set now i left (omega arith) (λ one parts. i + 1 ≤ one → parts ≡ parts_at nodes one) (λ h. absurd (omega arith)) (λ one apart h. so_far.ahead one (omega arith));
    }

  pub all_pruned : (now : Nodes) (i : ℕ) → length now ≡ length nodes → length nodes ≤ i → IsPrunedTo nodes now i → IsPruned nodes now
  all_pruned now i long past so_far = record {
    long = long;
    prunes = λ one. elim (cases_lt one i) [
      | inl before ↦ so_far.behind one before
      | inr after ↦ rw (so_far.ahead one after, slice_get_past nodes one (omega arith)) no_more
    ];
  }

  -- and what is left was there
  left_there : {parts left : List Part} → Prunes nodes parts left → (part : Part) → Contains left part → Contains parts part
  left_there no_more part there = absurd (Contains-none there)
  left_there (goes {part = p} {parts = ps} is h) part there = Contains-tail p ps part (left_there h part there)
  left_there (stays {part = p} {parts = ps} {left = ls} some h) part there = elim (Contains-cons_cases p ls part there) [
    | inl same ↦ rw (← same) (Contains-head p ps)
    | inr behind ↦ Contains-tail p ps part (left_there h part behind)
  ]

  module _ (pruned : Nodes) (is : IsPruned nodes pruned) where
    -- the routes from a structure stay as they are, where those of one step less do
    routes_stay : (k : ℕ) → ((target : ℕ) → routes_below pruned k target ≡ routes_below nodes k target) → (one : ℕ) → node_routes pruned k one ≡ node_routes nodes k one
    routes_stay k fewer one =
        node_routes-is pruned k one
        ∙ flat_map-same (part_routes (routes_below pruned k) one) (part_routes (routes_below nodes k) one) (parts_at pruned one) (λ part there. same_part part)
        ∙ left_routes (routes_below nodes k) one (λ target none. below target none k) (is.prunes one) ∙ sym (node_routes-is nodes k one)
      where
        same_part : (part : Part) → part_routes (routes_below pruned k) one part ≡ part_routes (routes_below nodes k) one part
        same_part (End element layer shape) = refl
        same_part (Copies reference target) = ap (λ routes. flat_map (λ step. map (behind_step step) routes) (steps_of reference.now)) (fewer target)

    pub pruned_routes : (k one : ℕ) → node_routes pruned k one ≡ node_routes nodes k one
    pruned_routes zero one = routes_stay 0 (λ target. refl) one
    pruned_routes (suc k) one = routes_stay (suc k) (λ target. pruned_routes k target) one

    pub pruned_below : AreNodesBelow (length nodes) nodes → AreNodesBelow (length pruned) pruned
    pruned_below small one reference target there =
        let h = small one reference target (left_there (is.prunes one) (Copies reference target) there) in omega (arith, is.long)

    pub pruned_layers : (layer_map : LayerMap) → HaveLayers layer_map nodes → HaveLayers layer_map pruned
    pruned_layers layer_map have one element layer shape there =
        have one element layer shape (left_there (is.prunes one) (End element layer shape) there)
