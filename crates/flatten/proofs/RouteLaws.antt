-- routes and their bounds
use Rattle.std.proofs.Common.{ℕ, zero, suc, ◌+◌, ◌≤◌, ◌≡◌, List, [], map, Option, Some, None, refl, sym, ap, ◌∙◌, arith, Contains, option_to_list}
use Rattle.lists.proofs.Words.{flat_map, enumerate_from, option_map_or}
use Rattle.library_model.specs.declared.element.Element.{Element}
use Rattle.library_model.specs.declared.element.Element.TheVariants.{Shape as shape_element, Reference as reference_element}
use Rattle.library_model.specs.declared.element.Reference.{Reference}
use Rattle.library_model.specs.declared.library.Structure.{Structure}
use Rattle.flatten.specs.Structures.{elements_of, references_among, references_in, target_of, targets_of}
use Rattle.flatten.specs.Steps.{steps_of}
use Rattle.flatten.specs.Routes.{Route, behind_step, routes_at, routes_through, routes}
use Rattle.flatten.specs.ReferenceChains.{StartsChain}
use Rattle.lists.proofs.Containing.{Contains-head}
use Rattle.lists.proofs.Mapping.{Contains-flat_map, flat_map-same}
use Rattle.lists.proofs.Numbering.{unnumbered}

-- the routes from the target of a reference, where at most so many steps begin with that reference's
abbrev pub from_target : List Structure → ℕ → Reference → List Route
from_target structures zero reference = []
from_target structures (suc steps) reference = option_map_or (routes structures steps) (target_of structures reference) []

-- the routes from a structure, by those from the targets of its references
pub routes-is : (structures : List Structure) (k start : ℕ) → routes structures k start ≡ routes_through structures (from_target structures k) start
unfolding routes
routes-is structures zero start = refl
routes-is structures (suc k) start = refl

-- what is numbered among elements is one of their references
pub reference_among : (elements : List Element) (n : ℕ) (reference : Reference) → Contains (enumerate_from 0 elements) (n, reference_element reference) → Contains (references_among elements) reference
reference_among elements n reference there =
    Contains-flat_map references_in elements (reference_element reference) reference (unnumbered elements (n, reference_element reference) there) (Contains-head reference [])

-- the structure to which a reference leads is a target
pub is_target : (structures : List Structure) (start : ℕ) (reference : Reference) (other : ℕ) → Contains (references_among (elements_of structures start)) reference
    → target_of structures reference ≡ Some other → Contains (targets_of structures start) other
is_target structures start reference other has leads =
    Contains-flat_map (λ r. option_to_list (target_of structures r)) (references_among (elements_of structures start)) reference other has (rw leads (Contains-head other []))

module _ (structures : List Structure) (start : ℕ) where
  abbrev references : List Reference
  references = references_among (elements_of structures start)

  -- routes go on alike where they go on alike from each target
  through_same : (f g : Reference → List Route) → ((reference : Reference) → Contains references reference → f reference ≡ g reference)
      → routes_through structures f start ≡ routes_through structures g start
  through_same f g same = flat_map-same (routes_at f start) (routes_at g start) (enumerate_from 0 (elements_of structures start)) (λ (n, element). at_same n element)
    where
      at_same : (n : ℕ) (element : Element) → Contains (enumerate_from 0 (elements_of structures start)) (n, element) → routes_at f start (n, element) ≡ routes_at g start (n, element)
      at_same n (shape_element shape) there = refl
      at_same n (reference_element reference) there =
          ap (λ found. flat_map (λ step. map (behind_step step) found) (steps_of reference)) (same reference (reference_among (elements_of structures start) n reference there))

  -- a reference that leads somewhere begins a chain
  chained : (n : ℕ) (reference : Reference) → Contains references reference → (other : ℕ) → target_of structures reference ≡ Some other → StartsChain structures n other
      → StartsChain structures (suc n) start
  chained n reference has other leads chain = (other, is_target structures start reference other has leads, chain)

  -- where no chain starts, references lead nowhere
  nowhere : (f : ℕ → List Route) → ((n : ℕ) → StartsChain structures n start → n ≤ 0)
      → (reference : Reference) → Contains references reference → (o : Option ℕ) → target_of structures reference ≡ o → option_map_or f o [] ≡ []
  nowhere f short reference has None e = refl
  nowhere f short reference has (Some other) e = let no : 1 ≤ 0 = short 1 (chained 0 reference has other e tt) in absurd (omega arith)

  -- from a target no chain starts that is longer than those from here, less one
  alike : (most : ℕ) (f g : ℕ → List Route) → ((n : ℕ) → StartsChain structures n start → n ≤ suc most)
      → ((other : ℕ) → ((n : ℕ) → StartsChain structures n other → n ≤ most) → f other ≡ g other)
      → (reference : Reference) → Contains references reference → (o : Option ℕ) → target_of structures reference ≡ o → option_map_or f o [] ≡ option_map_or g o []
  alike most f g short same reference has None e = refl
  alike most f g short same reference has (Some other) e =
      same other (λ n chain. let longer : suc n ≤ suc most = short (suc n) (chained n reference has other e chain) in omega arith)

-- a bound that no chain passes cuts nothing off
pub nothing_is_cut_off : (structures : List Structure) (most more : ℕ) (start : ℕ) → ((n : ℕ) → StartsChain structures n start → n ≤ most)
    → routes structures (most + more) start ≡ routes structures most start
nothing_is_cut_off structures zero zero start short = ap (λ n. routes structures n start) (omega arith)
nothing_is_cut_off structures zero (suc more) start short =
    let e : zero + suc more ≡ suc more = omega arith in
    ap (λ n. routes structures n start) e ∙ routes-is structures (suc more) start
    ∙ through_same structures start _ (from_target structures zero) (λ reference has. nowhere structures start (routes structures more) short reference has (target_of structures reference) refl)
    ∙ sym (routes-is structures zero start)
nothing_is_cut_off structures (suc most) more start short =
    let e : suc most + more ≡ suc (most + more) = omega arith in
    ap (λ n. routes structures n start) e ∙ routes-is structures (suc (most + more)) start
    ∙ through_same structures start _ (from_target structures (suc most))
    (λ reference has. alike structures start most (routes structures (most + more)) (routes structures most) short (nothing_is_cut_off structures most more) reference has
    (target_of structures reference) refl)
    ∙ sym (routes-is structures (suc most) start)
