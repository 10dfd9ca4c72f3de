-- what a placement comes to
use Rattle.std.proofs.Common.{ℕ, ◌<◌, ◌≡◌, inl, inr, List, ◌∷◌, ◌++◌, length, map, Option, Some, None, refl, sym, ◌∙◌, arith, All, Contains, IsSome}
use Rattle.lists.proofs.Words.{All-contains, Contains-append_left, Contains-append_right, cases_lt}
use Rattle.first_refusal.specs.Laws.{IsUnique, CannotLack}
use Rattle.first_refusal.proofs.CheckLaws.{checks_agree, checks_cannot_lack}
use Rattle.first_refusal.proofs.StageLaws.{stages_agree, stages_cannot_lack}
use Rattle.library_model.specs.Names.{names_of, place_of}
use Rattle.library_model.specs.declared.library.Structure.{Structure}
use Rattle.map_model.specs.MapNames.{LayerMap}
use Rattle.flatten.specs.Structures.{all_references, numbers_of}
use Rattle.flatten.specs.ReferenceChains.{IsEndless}
use Rattle.flatten.specs.Tops.{IsTop, IsNoOtherTop, IsUnnamed, IsOnlyUnnamed}
use Rattle.flatten.specs.Placements.{LibraryCheck, has_its_target, leads_to_no_cycle, has_top, is_no_other_top, LibraryHolds, library_checks, library_fault, TopHolds, top_checks, top_fault, Choosing}
use Rattle.flatten.specs.Placements.{PlacingFrom, Placing, placed_routes}
use Rattle.lists.proofs.Containing.{Contains-head, Contains-tail}
use Rattle.lists.proofs.Mapping.{Contains-map}
use Rattle.flatten.proofs.NumberLaws.{number_there}
use Rattle.flatten.proofs.ChainLaws.{some_bound, some_unnamed}

module _ (structures : List Structure) where
  tops_agree : (wanted : Option (List ℕ)) → IsUnique (IsTop structures wanted)
  tops_agree None one other first second = second.only one first.there first.unnamed
  tops_agree (Some name) one other first second = let e : Some one ≡ Some other = sym first ∙ second in cc

  choices_agree : (wanted : Option (List ℕ)) → IsUnique (Choosing structures wanted)
  choices_agree wanted = checks_agree (LibraryHolds structures wanted) (library_checks structures) (library_fault structures) (IsTop structures wanted) (tops_agree wanted)

  pub placings_agree : (layer_map : LayerMap) (wanted : Option (List ℕ)) → IsUnique (Placing structures layer_map wanted)
  placings_agree layer_map wanted =
      stages_agree (Choosing structures wanted) (λ top. PlacingFrom structures top (placed_routes structures layer_map top)) (choices_agree wanted)
      (λ top. let placed = placed_routes structures layer_map top in
      checks_agree (TopHolds structures top placed) (top_checks placed) (top_fault structures top) (λ routes. routes ≡ placed) (λ one other e f. e ∙ sym f))

  -- each check of the library by its place in the list
  module _ (wanted : Option (List ℕ)) (all : All (LibraryHolds structures wanted) (library_checks structures)) where
    -- behind the targets, and behind the cycles
    by_place : (check : LibraryCheck) → Contains (map leads_to_no_cycle (numbers_of structures) ++ has_top ∷ map is_no_other_top (numbers_of structures)) check → LibraryHolds structures wanted check
    by_place check there =
        All-contains (LibraryHolds structures wanted) (library_checks structures) check all (Contains-append_right (map has_its_target (all_references structures)) _ check there)

    by_last_place : (check : LibraryCheck) → Contains (has_top ∷ map is_no_other_top (numbers_of structures)) check → LibraryHolds structures wanted check
    by_last_place check there = by_place check (Contains-append_right (map leads_to_no_cycle (numbers_of structures)) _ check there)

    ends_from : (one : ℕ) → Contains (numbers_of structures) one → IsEndless structures one → ⊥
    ends_from one there = by_place (leads_to_no_cycle one) (Contains-append_left _ _ _ (Contains-map leads_to_no_cycle (numbers_of structures) one there))

    no_other_top : (one : ℕ) → one < length structures → IsNoOtherTop structures wanted one
    no_other_top one within =
        by_last_place (is_no_other_top one) (Contains-tail has_top _ _ (Contains-map is_no_other_top (numbers_of structures) one (number_there (length structures) one within)))

  -- of two structures to which no reference leads one would be another top
  only_unnamed : ((one : ℕ) → one < length structures → IsNoOtherTop structures None one) → (one : ℕ) → one < length structures → IsUnnamed structures one → IsOnlyUnnamed structures one
  only_unnamed alone one there unnamed = record {
    there = there;
    unnamed = unnamed;
    only = λ other within free. elim (cases_lt other one) [
      | inl before ↦ absurd (alone one there unnamed other before free)
      | inr not_before ↦ elim (cases_lt one other) [ inl behind ↦ absurd (alone other within free one behind unnamed) | inr not_behind ↦ omega arith ]
    ];
  }

  tops_cannot_lack : (wanted : Option (List ℕ)) → All (LibraryHolds structures wanted) (library_checks structures) → CannotLack (IsTop structures wanted)
  tops_cannot_lack None all none =
      some_bound structures (numbers_of structures) (ends_from None all) (λ most longest.
      some_unnamed structures most longest (λ one there unnamed. none one (only_unnamed (no_other_top None all) one there unnamed)) 0 (by_last_place None all has_top (Contains-head has_top _)))
  tops_cannot_lack (Some name) all none = by_place (place_of (names_of structures) name) refl (by_last_place (Some name) all has_top (Contains-head has_top _))
    where
      by_place : (o : Option ℕ) → place_of (names_of structures) name ≡ o → IsSome o → ⊥
      by_place None e some = cc
      by_place (Some one) e some = none one e

  pub placings_cannot_lack : (layer_map : LayerMap) (wanted : Option (List ℕ)) → CannotLack (Placing structures layer_map wanted)
  placings_cannot_lack layer_map wanted =
      stages_cannot_lack (Choosing structures wanted) (λ top. PlacingFrom structures top (placed_routes structures layer_map top))
      (checks_cannot_lack (LibraryHolds structures wanted) (library_checks structures) (library_fault structures) (IsTop structures wanted) (tops_cannot_lack wanted))
      (λ top chosen. let placed = placed_routes structures layer_map top in
      checks_cannot_lack (TopHolds structures top placed) (top_checks placed) (top_fault structures top) (λ routes. routes ≡ placed) (λ all none. none placed refl))
