-- the top: the structure of the wanted name, or the only one of the tops
use Rattle.std.proofs.Common.{ℕ, suc, ◌<◌, ◌≤◌, ◌≡◌, Result, Ok, Err, inl, inr, List, [], ◌∷◌, length, get_or, Option, Some, None, refl, sym, subst, arith, IsSome, All}
use Rattle.std.specs.Prelude.{IfOk, IfErr}
use Rattle.first_refusal.specs.Answers.{Answers, gives}
use Rattle.first_refusal.specs.Checks.{all_hold}
use Rattle.library_model.specs.Names.{names_of, place_of}
use Rattle.library_model.specs.declared.library.Structure.{Structure}
use Rattle.flatten.specs.Structures.{all_references, numbers_of, offset_of}
use Rattle.flatten.specs.ReferenceChains.{IsEndless}
use Rattle.flatten.specs.Tops.{AreTops, IsTop, IsUnnamed, IsOnlyUnnamed, IsNoOtherTop, HasTop}
use Rattle.flatten.specs.inside.FollowedParts.{IsKnown}
use Rattle.flatten.specs.inside.Marks.{IsTopFault, all_named, second_unnamed}
use Rattle.flatten.specs.inside.Plans.{Chooses, IsChosen}
use Rattle.flatten.specs.declared.fault.PlaceFault.{PlaceFault}
use Rattle.flatten.specs.declared.fault.PlaceFault.TheVariants.{NoTop, ManyTops, Memory}
use Rattle.lists.proofs.Containing.{Contains-cons_cases, Contains-head, Contains-none, Contains-one, Contains-tail}
use Rattle.flatten.proofs.ChoiceLaws.{all_checks, many_refused, none_refused}
use Rattle.flatten.proofs.GraphLaws.{named_within}
use Rattle.flatten.proofs.NumberLaws.{number_below}
use Rattle.flatten.proofs.ChainLaws.{some_bound, some_unnamed}

-- the number of the top is chosen
abbrev pub Answer : List Structure → Option (List ℕ) → Result ℕ PlaceFault → Type 0
Answer structures wanted = Answers Memory (Chooses structures wanted (IsChosen structures wanted))

module _ (structures : List Structure) (known : All (IsKnown (names_of structures)) (all_references structures)) (ends : (one : ℕ) → one < length structures → IsEndless structures one → ⊥) where
  chosen : (wanted : Option (List ℕ)) (top : ℕ) → top < length structures → HasTop structures wanted → ((one : ℕ) → one < length structures → IsNoOtherTop structures wanted one)
      → IsTop structures wanted top → Answer structures wanted (Ok top)
  chosen wanted top within some alone is =
      let all = all_checks structures wanted (IsChosen structures wanted) known ends some alone in gives (all_hold all (within, all_hold all is))

  -- a wanted top: the structure of the name, or none
  pub name_chosen : (name : List ℕ) (top : ℕ) → place_of (names_of structures) name ≡ Some top → Answer structures (Some name) (Ok top)
  name_chosen name top is = chosen (Some name) top (named_within structures name top is) (rw is refl) (λ one within. tt) is

  pub name_refused : (name : List ℕ) → place_of (names_of structures) name ≡ None → Answer structures (Some name) (Err NoTop)
  name_refused name none = none_refused structures (Some name) _ known ends (λ some. let no = subst IsSome none some in cc no)

  -- the only structure to which no reference leads, or why there is none
  only_chosen : (top : ℕ) → IsOnlyUnnamed structures top → Answer structures None (Ok top)
  only_chosen top is = chosen None top is.there (let h = is.there in omega arith)
      (λ one within free other before other_free.
      let same : one ≡ top = is.only one within free in let also : other ≡ top = is.only other (omega arith) other_free in omega arith) is

  -- where references lead to all there is no structure
  none_there : ((one : ℕ) → one < length structures → IsUnnamed structures one → ⊥) → HasTop structures None → ⊥
  none_there all some =
      some_bound structures (numbers_of structures) (λ one there. ends one (number_below (length structures) one there))
      (λ most longest. some_unnamed structures most longest all 0 some)

  fault_refused : (fault : PlaceFault) → IsTopFault structures fault → Answer structures None (Err fault)
  fault_refused fault (all_named all) = none_refused structures None _ known ends (none_there all)
  fault_refused fault (second_unnamed {number = number} within before fails) = many_refused structures None _ known ends (omega arith) number within before fails

  pub tops_tell : (result : Result ℕ PlaceFault) → IfOk result (IsOnlyUnnamed structures) → IfErr result (IsTopFault structures) → Answer structures None result
  tops_tell (Ok top) only fault = only_chosen top only
  tops_tell (Err fault) only is_fault = fault_refused fault is_fault

-- what the tops tell, by how many they are
module _ (structures : List Structure) where
  pub none_is : (tops : List ℕ) → AreTops structures tops → length tops ≡ 0 → IsTopFault structures NoTop
  none_is [] are none = all_named (λ one within free. Contains-none ((are.each one).1 (within, free)))
  none_is (top ∷ tops) are none = absurd (omega arith)

  pub only_is : (tops : List ℕ) → AreTops structures tops → 0 < length tops → length tops ≤ 1 → IsOnlyUnnamed structures (get_or tops 0 0)
  only_is [] are some few = absurd (omega arith)
  only_is (top ∷ []) are some few = let is = (are.each top).0 (Contains-head top []) in record {
    there = is.0;
    unnamed = is.1;
    only = λ other within free. sym (Contains-one top other ((are.each other).1 (within, free)));
  }
  only_is (first ∷ second ∷ tops) are some few = absurd (omega arith)

  module _ (first second : ℕ) (tops : List ℕ) (are : AreTops structures (first ∷ second ∷ tops)) where
    first_below : first < second
    first_below = are.rising 0 1 0 (omega arith) (omega arith)

    second_below : (k : ℕ) (one : ℕ) → k < length tops → second < get_or tops k one
    second_below k one within = are.rising 1 (suc (suc k)) one (omega arith) (omega arith)

    second_free : (second < length structures) × IsUnnamed structures second
    second_free = (are.each second).0 (Contains-tail first (second ∷ tops) second (Contains-head second tops))

    -- no top but the first comes before the second
    is_first : (one : ℕ) → one < second → IsUnnamed structures one → one ≡ first
    is_first one less free = elim (Contains-cons_cases first (second ∷ tops) one ((are.each one).1 (let h = second_free.0 in omega arith, free))) [
      | inl same ↦ sym same
      | inr behind ↦ elim (Contains-cons_cases second tops one behind) [
        | inl same ↦ absurd (omega arith)
        | inr (k, within, is) ↦ absurd (let h = second_below k one within in omega arith)
      ]
    ]

    pub second_told : IsTopFault structures (ManyTops (offset_of structures second))
    second_told = second_unnamed second_free.0
        (λ other less free earlier before earlier_free.
        let same : other ≡ first = is_first other less free in let also : earlier ≡ first = is_first earlier (omega arith) earlier_free in omega arith)
        (λ alone. alone second_free.1 first first_below ((are.each first).0 (Contains-head first (second ∷ tops))).1)

  pub second_there : (tops : List ℕ) → AreTops structures tops → 1 < length tops → get_or tops 1 0 < length structures
  second_there [] are many = absurd (omega arith)
  second_there (top ∷ []) are many = absurd (omega arith)
  second_there (first ∷ second ∷ tops) are many = (second_free first second tops are).0

  pub second_is : (tops : List ℕ) → AreTops structures tops → 1 < length tops → IsTopFault structures (ManyTops (offset_of structures (get_or tops 1 0)))
  second_is [] are many = absurd (omega arith)
  second_is (top ∷ []) are many = absurd (omega arith)
  second_is (first ∷ second ∷ tops) are many = second_told first second tops are
