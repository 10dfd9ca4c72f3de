-- a refusal tells its cause
use Rattle.std.proofs.Common.{ℕ, suc, ◌<◌, ◌≤◌, ◌≡◌, ◌⊎◌, inl, inr, List, ◌∷◌, length, map, Option, Some, None, refl, subst, arith, All, Contains, IsSome}
use Rattle.lists.proofs.Words.{range_with_len, cases_lt, All-cons, All-contains, All-map, Contains-append_right}
use Rattle.first_refusal.specs.Outcomes.{refused, value, stops, goes_on}
use Rattle.first_refusal.specs.Checks.{IsRefusalOfFirst, all_hold, one_fails}
use Rattle.library_model.specs.Names.{names_of, place_of}
use Rattle.library_model.specs.declared.library.Structure.{Structure}
use Rattle.map_model.specs.MapNames.{LayerMap}
use Rattle.std.proofs.lemmas.List.{nil_from_length}
use Rattle.flatten.specs.Structures.{all_references, all_targets, target_of}
use Rattle.flatten.specs.ReferenceChains.{StartsChain, IsEndless}
use Rattle.flatten.specs.Tops.{HasTop, IsNoOtherTop, IsTop, IsUnnamed}
use Rattle.flatten.specs.Routes.{Route, point_count}
use Rattle.flatten.specs.Placements.{LibraryCheck, has_its_target, leads_to_no_cycle, has_top, is_no_other_top, LibraryHolds, library_checks, library_fault, TopCheck, is_shallow, is_small}
use Rattle.flatten.specs.Placements.{is_in_range, IsSmall, TopHolds, top_checks, top_fault, Choosing, PlacingFrom, Placing, placed_routes}
use Rattle.flatten.specs.Causes.{IsSecondTop, Tells}
use Rattle.flatten.specs.declared.fault.PlaceFault.{PlaceFault}
use Rattle.flatten.specs.declared.fault.PlaceFault.TheVariants.{NoTop}
use Rattle.lists.proofs.Comparing.{equal_or_not}
use Rattle.lists.proofs.Containing.{Contains-head, all_of_each}
use Rattle.flatten.proofs.ChainLaws.{chain_or_not, is_shorter}
use Rattle.flatten.proofs.NumberLaws.{number_below, number_there, one_or_none}
use Rattle.flatten.proofs.ChoiceLaws.{all_library}

-- ---- what can be decided

none_there : {X : Type 0} (o : Option X) → (IsSome o → ⊥) → o ≡ None
none_there None h = refl
none_there (Some x) h = absurd (h refl)

-- a refusal of the first check that fails is one of a check that fails
by_check : {X R : Type 0} (Holds : X → Type 0) (checks : List X) (fault_of : X → R) (IsOne : X → Type 0) (P : R → Type 0) → All IsOne checks
    → ((check : X) → IsOne check → (Holds check → ⊥) → P (fault_of check)) → (fault : R) → IsRefusalOfFirst Holds checks fault_of fault → P fault
by_check Holds checks fault_of IsOne P all each fault first =
    let there = Contains-append_right first.is_first.before (first.check ∷ first.is_first.after) first.check (Contains-head first.check first.is_first.after) in
    rw first.is_its_refusal (each first.check (All-contains IsOne checks first.check all (rw first.is_first.parts there)) first.is_first.fails)

module _ (structures : List Structure) where
  -- where it cannot be that chains end, they do not
  endless : (one : ℕ) → ((IsEndless structures one → ⊥) → ⊥) → IsEndless structures one
  endless one h n = elim (chain_or_not structures n one) [ inl chain ↦ chain | inr none ↦ absurd (h (λ chains. none (chains n))) ]

  -- where not each chain is so short, one is longer
  longer : (most : ℕ) (one : ℕ) → (((n : ℕ) → StartsChain structures n one → n ≤ most) → ⊥) → StartsChain structures (suc most) one
  longer most one h = elim (chain_or_not structures (suc most) one) [
    | inl chain ↦ chain
    | inr none ↦ absurd (h (λ n chain. let less : n < suc most = is_shorter structures (suc most) n one none chain in omega arith))
  ]

  unnamed_or_not : (one : ℕ) → IsUnnamed structures one ⊎ (IsUnnamed structures one → ⊥)
  unnamed_or_not one = elim (one_or_none (λ other. other ≡ one) (λ other. equal_or_not other one) (all_targets structures)) [
    | inl (other, there, same) ↦ inr (λ unnamed. unnamed (subst (Contains (all_targets structures)) same there))
    | inr none ↦ inl (λ there. none one there refl)
  ]

  second_top : (one : ℕ) → one < length structures → (IsNoOtherTop structures None one → ⊥) → (earlier : ℕ) × IsSecondTop structures earlier one
  second_top one there fails = elim (unnamed_or_not one) [
    | inr named ↦ absurd (fails (λ unnamed. absurd (named unnamed)))
    | inl unnamed ↦ elim (one_or_none (IsUnnamed structures) unnamed_or_not (range_with_len 0 one)) [
      | inl (earlier, among, free) ↦ (earlier, record { there = there; unnamed = unnamed; earlier_unnamed = free; before = number_below one earlier among })
      | inr none ↦ absurd (fails (λ free earlier before earlier_free. none earlier (number_there one earlier before) earlier_free))
    ]
  ]

-- ---- what the checks of the library tell

module _ (structures : List Structure) (layer_map : LayerMap) (wanted : Option (List ℕ)) where
  -- of what each check is
  abbrev IsOf : LibraryCheck → Type 0
  IsOf (has_its_target reference) = Contains (all_references structures) reference
  IsOf (leads_to_no_cycle one) = one < length structures
  IsOf has_top = Unit {0}
  IsOf (is_no_other_top one) = one < length structures

  all_of : All IsOf (library_checks structures)
  all_of = all_library structures IsOf (all_of_each (Contains (all_references structures)) (all_references structures) (λ reference there. there)) (λ one within. within) tt (λ one within. within)

  no_top : (wanted : Option (List ℕ)) → (HasTop structures wanted → ⊥) → Tells structures layer_map wanted NoTop
  no_top None fails = elim (cases_lt 0 (length structures)) [ inl some ↦ absurd (fails some) | inr none ↦ nil_from_length structures (omega arith) ]
  no_top (Some name) fails = none_there (place_of (names_of structures) name) fails

  other_top : (wanted : Option (List ℕ)) (one : ℕ) → one < length structures → (IsNoOtherTop structures wanted one → ⊥)
      → Tells structures layer_map wanted (library_fault structures (is_no_other_top one))
  other_top None one there fails = let second = second_top structures one there fails in (refl, second.0, one, refl, second.1)
  other_top (Some name) one there fails = absurd (fails tt)

  library_tells : (check : LibraryCheck) → IsOf check → (LibraryHolds structures wanted check → ⊥) → Tells structures layer_map wanted (library_fault structures check)
  library_tells (has_its_target reference) there fails = (reference, there, refl, none_there (target_of structures reference) fails)
  library_tells (leads_to_no_cycle one) there fails = (one, there, refl, endless structures one fails)
  library_tells has_top there fails = no_top wanted fails
  library_tells (is_no_other_top one) there fails = other_top wanted one there fails

  choosing_tells : (fault : PlaceFault) → Choosing structures wanted (refused fault) → Tells structures layer_map wanted fault
  choosing_tells fault (one_fails first) =
      by_check (LibraryHolds structures wanted) (library_checks structures) (library_fault structures) IsOf (Tells structures layer_map wanted) all_of library_tells fault first

  -- ---- what the checks of the top tell

  module _ (top : ℕ) (is_top : IsTop structures wanted top) where
    abbrev placed : List Route
    placed = placed_routes structures layer_map top

    abbrev IsOfTop : TopCheck → Type 0
    IsOfTop is_shallow = Unit {0}
    IsOfTop is_small = Unit {0}
    IsOfTop (is_in_range route) = Contains placed route

    all_of_top : All IsOfTop (top_checks placed)
    all_of_top = All-cons IsOfTop is_shallow (is_small ∷ map is_in_range placed) tt (All-cons IsOfTop is_small (map is_in_range placed) tt
        (All-map IsOfTop is_in_range placed (all_of_each (Contains placed) placed (λ route there. there))))

    too_many : (IsSmall placed → ⊥) → (1000000 < length placed) ⊎ (8000000 < point_count placed)
    too_many fails = elim (cases_lt 1000000 (length placed)) [
      | inl shapes ↦ inl shapes
      | inr few_shapes ↦ elim (cases_lt 8000000 (point_count placed)) [
        | inl points ↦ inr points
        | inr few_points ↦ absurd (fails (record { few_shapes = few_shapes; few_points = few_points }))
      ]
    ]

    top_tells : (check : TopCheck) → IsOfTop check → (TopHolds structures top placed check → ⊥) → Tells structures layer_map wanted (top_fault structures top check)
    top_tells is_shallow of fails = (top, is_top, refl, record { references = 257; more = omega arith; chain = longer structures 256 top fails })
    top_tells is_small of fails = (top, is_top, refl, too_many fails)
    top_tells (is_in_range route) of fails = (top, is_top, route, of, refl, fails)

    from_top_tells : (fault : PlaceFault) → PlacingFrom structures top placed (refused fault) → Tells structures layer_map wanted fault
    from_top_tells fault (one_fails first) =
        by_check (TopHolds structures top placed) (top_checks placed) (top_fault structures top) IsOfTop (Tells structures layer_map wanted) all_of_top top_tells fault first

  chosen_is_top : (top : ℕ) → Choosing structures wanted (value top) → IsTop structures wanted top
  chosen_is_top top (all_hold all is) = is

  pub refusal_tells : (fault : PlaceFault) → Placing structures layer_map wanted (refused fault) → Tells structures layer_map wanted fault
  refusal_tells fault (stops choosing) = choosing_tells fault choosing
  refusal_tells fault (goes_on {v = top} chosen from) = from_top_tells top (chosen_is_top top chosen) fault from
