-- the choice of the top: what it comes to where these checks hold
use Rattle.std.proofs.Common.{ℕ, ◌<◌, List, [], ◌∷◌, length, map, Option, Ok, Err, refl, All}
use Rattle.lists.proofs.Words.{All-nil, All-cons, All-append, All-map}
use Rattle.first_refusal.specs.Answers.{Answers, gives}
use Rattle.first_refusal.specs.Checks.{all_hold}
use Rattle.first_refusal.proofs.JudgeLaws.{Judges, fails_first, goes_on, renamed, stops}
use Rattle.library_model.specs.Names.{names_of}
use Rattle.library_model.specs.declared.element.Reference.{Reference}
use Rattle.library_model.specs.declared.library.Structure.{Structure}
use Rattle.flatten.specs.Structures.{all_references, numbers_of, offset_of}
use Rattle.flatten.specs.ReferenceChains.{IsEndless}
use Rattle.flatten.specs.inside.FollowedParts.{IsKnown, MakesParts}
use Rattle.flatten.specs.inside.Plans.{Chooses, IsChosen}
use Rattle.flatten.specs.Tops.{HasTop, IsNoOtherTop}
use Rattle.flatten.specs.Placements.{LibraryCheck, has_its_target, leads_to_no_cycle, has_top, is_no_other_top, LibraryHolds, library_checks, library_fault}
use Rattle.flatten.specs.declared.fault.PlaceFault.{PlaceFault}
use Rattle.flatten.specs.declared.fault.PlaceFault.TheVariants.{UnknownStructure, Cycle, NoTop, ManyTops, Memory}
use Rattle.flatten.proofs.NumberLaws.{all_numbers}
use Rattle.flatten.proofs.FirstLaws.{first_number}

-- what holds of each check of the library
pub all_library : (structures : List Structure) (P : LibraryCheck → Type 0) → All (λ reference. P (has_its_target reference)) (all_references structures)
    → ((one : ℕ) → one < length structures → P (leads_to_no_cycle one)) → P has_top → ((one : ℕ) → one < length structures → P (is_no_other_top one)) → All P (library_checks structures)
all_library structures P known ends top alone =
    All-append P (map has_its_target (all_references structures)) _ (All-map P has_its_target (all_references structures) known)
    (All-append P (map leads_to_no_cycle (numbers_of structures)) _ (all_numbers leads_to_no_cycle P (length structures) ends)
    (All-cons P has_top _ top (all_numbers is_no_other_top P (length structures) alone)))

module _ {T : Type 0} (structures : List Structure) (wanted : Option (List ℕ)) (Is : T → Type 0) where
  abbrev Holds : LibraryCheck → Type 0
  Holds = LibraryHolds structures wanted

  abbrev fault_of : LibraryCheck → PlaceFault
  fault_of = library_fault structures

  abbrev targets : List LibraryCheck
  targets = map has_its_target (all_references structures)

  abbrev cycles : List LibraryCheck
  cycles = map leads_to_no_cycle (numbers_of structures)

  abbrev tops : List LibraryCheck
  tops = map is_no_other_top (numbers_of structures)

  -- the answer is this fault
  abbrev pub Refuses : PlaceFault → Type 0
  Refuses fault = Answers Memory (Chooses structures wanted Is) (Err fault)

  -- 24: the first reference that names no structure
  pub unknown_refused : {P : Type 0} (Made : P → Type 0) (fault : PlaceFault) → Answers Memory (MakesParts (names_of structures) (all_references structures) Made) (Err fault) → Refuses fault
  unknown_refused Made fault told =
      stops Holds fault_of Made Is targets _ fault (renamed (IsKnown (names_of structures)) Holds (λ (reference : Reference). UnknownStructure reference.at) fault_of has_its_target (λ r h. h)
      (λ r h. h) (λ r. refl) Made (all_references structures) (Err fault) told)

  module _ (known : All (IsKnown (names_of structures)) (all_references structures)) where
    all_known : All Holds targets
    all_known = All-map Holds has_its_target (all_references structures) known

    -- 25: the first structure that leads to a cycle
    pub cycle_refused : (one : ℕ) → one < length structures → IsEndless structures one → ((other : ℕ) → other < one → IsEndless structures other → ⊥) → Refuses (Cycle (offset_of structures one))
    cycle_refused one within endless before =
        goes_on Holds fault_of Is targets _ (Err _) all_known (stops Holds fault_of Is Is cycles _ _
        (first_number Holds fault_of Is leads_to_no_cycle (length structures) one within before (λ holds. holds endless)))

    module _ (ends : (one : ℕ) → one < length structures → IsEndless structures one → ⊥) where
      all_end : All Holds cycles
      all_end = all_numbers leads_to_no_cycle Holds (length structures) ends

      top_refused : (fault : PlaceFault) → Judges Memory Holds (has_top ∷ tops) fault_of Is (Err fault) → Refuses fault
      top_refused fault told = goes_on Holds fault_of Is targets _ (Err fault) all_known (goes_on Holds fault_of Is cycles _ (Err fault) all_end told)

      -- 27: there is no top
      pub none_refused : (HasTop structures wanted → ⊥) → Refuses NoTop
      none_refused lacks = top_refused NoTop (fails_first Holds fault_of Is has_top tops lacks)

      module _ (some : HasTop structures wanted) where
        -- 28: the first structure that is another top
        pub many_refused : (one : ℕ) → one < length structures → ((other : ℕ) → other < one → IsNoOtherTop structures wanted other) → (IsNoOtherTop structures wanted one → ⊥)
            → Refuses (ManyTops (offset_of structures one))
        many_refused one within before fails =
            top_refused _ (goes_on Holds fault_of Is (has_top ∷ []) tops (Err _) (All-cons Holds has_top [] some (All-nil Holds))
            (first_number Holds fault_of Is is_no_other_top (length structures) one within before fails))

        pub all_checks : ((one : ℕ) → one < length structures → IsNoOtherTop structures wanted one) → All Holds (library_checks structures)
        all_checks = all_library structures Holds known ends some

-- a choice that came to a top comes to whatever is made of it
pub chosen_by : {T : Type 0} (structures : List Structure) (wanted : Option (List ℕ)) {top : ℕ} {Is : T → Type 0} {thing : T} → IsChosen structures wanted top → Is thing
    → Answers Memory (Chooses structures wanted Is) (Ok thing)
chosen_by structures wanted (within, all_hold all is_top) is = gives (all_hold all is)
