-- parts lead where the references of the structures lead, and weights are as high as chains are long
use Rattle.std.proofs.Common.{ℕ, zero, suc, ◌+◌, ◌<◌, ◌≤◌, ◌≡◌, ◌⊎◌, inl, inr, List, [], ◌∷◌, ◌++◌, length, Vec, Option, Some, None, refl, sym, ap, subst, ◌∙◌, arith, Contains, option_to_list}
use Rattle.lists.proofs.Words.{flat_map, Bor, Global, enumerate_from, cases_lt, length-map, slice_get_within}
use Rattle.library_model.specs.Names.{names_of, place_of}
use Rattle.library_model.specs.declared.element.Element.{Element}
use Rattle.library_model.specs.declared.element.Reference.{Reference}
use Rattle.library_model.specs.declared.library.Structure.{Structure}
use Rattle.library_model.proofs.laws.Names.{stands_where_found}
use Rattle.map_model.specs.MapNames.{LayerMap, IsMappedTo}
use Rattle.flatten.specs.Structures.{elements_of, references_among, references_in, target_of, targets_of}
use Rattle.flatten.specs.ReferenceChains.{StartsChain, IsEndless}
use Rattle.flatten.specs.inside.FollowedParts.{AreParts, AreNodes, no_more, passed_over, ends_there, goes_on, LeadsTo, parts_at, Leads}
use Rattle.flatten.specs.inside.Weights.{Weight, weight_of, weight_over, Weighs, weighs}
use Rattle.flatten.specs.declared.part.Part.{Part}
use Rattle.flatten.specs.declared.part.Part.TheVariants.{End, Copies}
use Rattle.lists.proofs.Containing.{Contains-cons_cases, Contains-head, Contains-none, Contains-one, Contains-tail}
use Rattle.lists.proofs.Mapping.{Contains-flat_map_from}
use Rattle.flatten.proofs.RouteLaws.{is_target}

-- a name becomes the number of a structure
pub named_within : (structures : List Structure) (name : List ℕ) (one : ℕ) → place_of (names_of structures) name ≡ Some one → one < length structures
named_within structures name one e = omega (
  arith,
  slice_get_within (names_of structures) one name (stands_where_found name (names_of structures) one e),
  length-map structures (λ structure. structure.name),
)

-- the references of numbered elements
unnumbered : (k : ℕ) (elements : List Element) → flat_map (λ (e : ℕ × Element). references_in e.1) (enumerate_from k elements) ≡ references_among elements
unnumbered k [] = refl
unnumbered k (e ∷ elements) = ap (λ rs. references_in e ++ rs) (unnumbered (k + 1) elements)

pub only_there : (o : Option ℕ) (one : ℕ) → Contains (option_to_list o) one → o ≡ Some one
only_there None one there = absurd (Contains-none there)
only_there (Some other) one there = ap Some (Contains-one other one there)

-- the references of elements with their numbers
abbrev references : List (ℕ × Element) → List Reference
references = flat_map (λ e. references_in e.1)

-- the part is a shape of this layer, or leads where one of these references does
abbrev pub IsOf : List (List ℕ) → LayerMap → List Reference → Part → Type 0
IsOf names layer_map among (End element layer shape) = IsMappedTo layer_map (shape.now.layer, shape.now.datatype) layer
IsOf names layer_map among (Copies reference target) = Contains among reference.now × (place_of names reference.now.target ≡ Some target)

module _ {names : List (List ℕ)} {layer_map : LayerMap} where
  pub is_of : {elements : List (ℕ × Element)} {parts : List Part} → AreParts names layer_map elements parts → (part : Part) → Contains parts part → IsOf names layer_map (references elements) part
  is_of no_more part there = absurd (Contains-none there)
  is_of (passed_over unmapped h) part there = is_of h part there
  is_of (ends_there has h) part there = elim (Contains-cons_cases _ _ part there) [
    | inl same ↦ subst (IsOf names layer_map _) same has
    | inr behind ↦ is_of h part behind
  ]
  is_of (goes_on {reference = r} {elements = es} found h) part there = elim (Contains-cons_cases _ _ part there) [
    | inl same ↦ subst (IsOf names layer_map (r.now ∷ references es)) same (Contains-head r.now (references es), found)
    | inr behind ↦ farther part (is_of h part behind)
  ]
    where
      farther : (part : Part) → IsOf names layer_map (references es) part → IsOf names layer_map (r.now ∷ references es) part
      farther (End element layer shape) is = is
      farther (Copies other target) (among, leads) = (Contains-tail r.now (references es) other.now among, leads)

  -- and each reference that leads somewhere is a part that does
  is_part : {elements : List (ℕ × Element)} {parts : List Part} → AreParts names layer_map elements parts → (reference : Reference) → Contains (references elements) reference
      → (target : ℕ) → place_of names reference.target ≡ Some target → LeadsTo parts target
  is_part no_more reference there target leads = absurd (Contains-none there)
  is_part (passed_over unmapped h) reference there target leads = is_part h reference there target leads
  is_part (ends_there has h) reference there target leads = let rest = is_part h reference there target leads in (rest.0, Contains-tail _ _ (Copies rest.0 target) rest.1)
  is_part (goes_on {target = t} {reference = r} {parts = ps} found h) reference there target leads = elim (Contains-cons_cases r.now _ reference there) [
    | inl same ↦
        let t-is : Some t ≡ Some target = sym found ∙ ap (λ (x : Reference). place_of names x.target) same ∙ leads in
        (r, subst (λ k. Contains (Copies r t ∷ ps) (Copies r k)) (cc t-is) (Contains-head (Copies r t) ps))
    | inr behind ↦ let rest = is_part h reference behind target leads in (rest.0, Contains-tail _ _ (Copies rest.0 target) rest.1)
  ]

-- the height of parts is above that of each structure to which they lead
pub bound_in : (of : ℕ → Weight) (parts : List Part) (reference : Bor Reference) (target : ℕ) → Contains parts (Copies reference target) → suc (of target).height ≤ (weight_over of parts).height
bound_in of [] reference target there = absurd (Contains-none there)
bound_in of (p ∷ parts) reference target there = elim (Contains-cons_cases p parts (Copies reference target) there) [
  | inl same ↦ let here : (weight_of of p).height ≡ suc (of target).height = ap (λ x. (weight_of of x).height) same in omega arith
  | inr behind ↦ let rest : suc (of target).height ≤ (weight_over of parts).height = bound_in of parts reference target behind in omega arith
]

-- by one above the highest
reached_in : (of : ℕ → Weight) (parts : List Part) → ((weight_over of parts).height ≡ 0) ⊎ ((target : ℕ) × LeadsTo parts target × ((weight_over of parts).height ≡ suc (of target).height))
reached_in of [] = inl refl
reached_in of (End element layer shape ∷ parts) = elim (reached_in of parts) [
  | inl z ↦ inl (omega arith)
  | inr (t, (r, there), e) ↦ inr (t, (r, Contains-tail (End element layer shape) parts (Copies r t) there), omega arith)
]
reached_in of (Copies reference target ∷ parts) = elim (cases_lt (suc (of target).height) (weight_over of parts).height) [
  | inl less ↦ elim (reached_in of parts) [
    | inl z ↦ absurd (omega arith)
    | inr (t, (r, there), e) ↦ inr (t, (r, Contains-tail (Copies reference target) parts (Copies r t) there), omega arith)
  ]
  | inr more ↦ inr (target, (reference, Contains-head (Copies reference target) parts), omega arith)
]

module _ (structures : List Structure) (layer_map : LayerMap) (nodes : List (Vec Part Global)) (are_nodes : AreNodes (names_of structures) layer_map structures nodes) where
  -- the parts of a structure
  pub parts_of_at : (one : ℕ) → AreParts (names_of structures) layer_map (enumerate_from 0 (elements_of structures one)) (parts_at nodes one)
  parts_of_at = parts_in structures nodes are_nodes
    where
      parts_in : (ss : List Structure) (ns : List (Vec Part Global)) → AreNodes (names_of structures) layer_map ss ns → (k : ℕ)
          → AreParts (names_of structures) layer_map (enumerate_from 0 (elements_of ss k)) (parts_at ns k)
      parts_in [] [] h k = no_more
      parts_in [] (n ∷ ns) h k = absurd h
      parts_in (s ∷ ss) [] h k = absurd h
      parts_in (s ∷ ss) (n ∷ ns) h zero = h.0
      parts_in (s ∷ ss) (n ∷ ns) h (suc k) = parts_in ss ns h.1 k

  pub is_of_at : (one : ℕ) (part : Part) → Contains (parts_at nodes one) part → IsOf (names_of structures) layer_map (references_among (elements_of structures one)) part
  is_of_at one part there = rw (unnumbered 0 (elements_of structures one)) at (is_of (parts_of_at one) part there)

  -- its parts lead where its references lead
  pub leads : (one other : ℕ) → LeadsTo (parts_at nodes one) other → Contains (targets_of structures one) other
  leads one other (reference, there) = let known = is_of_at one (Copies reference other) there in is_target structures one reference.now other known.0 known.1

  pub leads_back : (one other : ℕ) → Contains (targets_of structures one) other → LeadsTo (parts_at nodes one) other
  leads_back one other there =
      let from = Contains-flat_map_from (λ r. option_to_list (target_of structures r)) (references_among (elements_of structures one)) other there in
      is_part (parts_of_at one) from.0 (rw (unnumbered 0 (elements_of structures one)) from.1) other (only_there (target_of structures from.0) other from.2)

  pub target_within : (one other : ℕ) → LeadsTo (parts_at nodes one) other → other < length structures
  target_within one other (reference, there) = named_within structures reference.now.target other (is_of_at one (Copies reference other) there).1

  pub starts_chain : (n one : ℕ) → Leads nodes n one → StartsChain structures n one
  starts_chain zero one chain = tt
  starts_chain (suc n) one (other, to, rest) = (other, leads one other to, starts_chain n other rest)

  -- the longest chain is as long as the weight says
  pub height_starts : (one : ℕ) (w : Weight) → Weighs nodes one w → StartsChain structures w.height one
  height_starts one w (weighs of each) = elim (reached_in of (parts_at nodes one)) [
    | inl z ↦ rw z tt
    | inr (t, to, e) ↦ rw e (t, leads one t to, height_starts t (of t) (each t to))
  ]

  pub height_bounds : (one : ℕ) (w : Weight) → Weighs nodes one w → (n : ℕ) → StartsChain structures n one → n ≤ w.height
  height_bounds one w (weighs of each) zero chain = omega arith
  height_bounds one w (weighs of each) (suc n) (other, there, chain) =
      let to = leads_back one other there in
      let rest : n ≤ (of other).height = height_bounds other (of other) (each other to) n chain in
      let top : suc (of other).height ≤ (weight_over of (parts_at nodes one)).height = bound_in of (parts_at nodes one) to.0 other to.1 in
      omega arith

  -- a structure with a weight leads to no cycle
  pub chains_end : (one : ℕ) (w : Weight) → Weighs nodes one w → IsEndless structures one → ⊥
  chains_end one w told endless = let no_more : suc w.height ≤ w.height = height_bounds one w told (suc w.height) (endless (suc w.height)) in omega arith
