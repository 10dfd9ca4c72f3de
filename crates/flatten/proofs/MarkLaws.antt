-- marks, and the structures to which elements refer
use Rattle.std.proofs.Common.{ℕ, ◌+◌, ◌<◌, ◌≡◌, ◌⊎◌, ◌↔◌, inl, inr, Bool, true, false, List, [], ◌∷◌, ◌++◌, length, length-append, get_or, set, take, refl, sym, ap, subst, ◌∙◌, arith, AllPairs, Contains, get_or-set_same, get_or-set_other, Option, Some, option_to_list, Result, Ok, Err}
use Rattle.std.specs.Prelude.{IfOk}
use Rattle.lists.proofs.Words.{cases_lt, flat_map, option_map_or, slice_get_read, Contains-append_left, Contains-append_right, Contains-append_cases, get_or_append_left, get_or_default}
use Rattle.std.proofs.Math.Seq.{get_or-append_seam}
use Rattle.library_model.specs.Names.{names_of, place_of}
use Rattle.library_model.specs.declared.element.Element.{Element}
use Rattle.library_model.specs.declared.element.Element.TheVariants.{Shape as shape_element, Reference as reference_element}
use Rattle.library_model.specs.declared.library.Structure.{Structure}
use Rattle.flatten.specs.Structures.{all_targets, elements_of, numbers_of, references_among, targets_of}
use Rattle.flatten.specs.Tops.{AreTops}
use Rattle.flatten.specs.inside.Marks.{AreUnmarked, IsMarked, target_in, targets_among}
use Rattle.lists.proofs.Comparing.{equal_or_not}
use Rattle.lists.proofs.Containing.{Contains-head, Contains-one}
use Rattle.lists.proofs.Mapping.{Contains-flat_map, Contains-flat_map_from}
use Rattle.lists.proofs.Reading.{flat_map_next}
use Rattle.flatten.proofs.NumberLaws.{number_below, number_there}

-- one mark more
module _ (marks : List Bool) (target : ℕ) (within : target < length marks) (one : ℕ) where
  pub kept : IsMarked marks one → IsMarked (set marks target true) one
  kept h = elim (equal_or_not one target) [
    | inl e ↦ rw e (get_or-set_same marks target true false within)
    | inr n ↦ rw (get_or-set_other marks target one true false n) h
  ]

  pub marked_now : (found : Option ℕ) → found ≡ Some target → found ≡ Some one → IsMarked (set marks target true) one
  marked_now found is same = let e : one ≡ target = cc in rw e (get_or-set_same marks target true false within)

  pub only_more : (found : Option ℕ) → found ≡ Some target → IsMarked (set marks target true) one → IsMarked marks one ⊎ (found ≡ Some one)
  only_more found is h = elim (equal_or_not one target) [
    | inl e ↦ inr (is ∙ ap Some (sym e))
    | inr n ↦ inl (rw (get_or-set_other marks target one true false n) at h)
  ]

pub there_of : (found : Option ℕ) (one : ℕ) → found ≡ Some one → Contains (option_to_list found) one
there_of found one is = rw is (Contains-head one [])

-- one element more
pub targets_more : (names : List (List ℕ)) (elements : List Element) (i : ℕ) (element : Element) → i < length elements → element ≡ get_or elements i element
    → targets_among names (take (i + 1) elements) ≡ targets_among names (take i elements) ++ option_to_list (target_in names element)
targets_more names elements i element within is =
    sym (flat_map_next (λ e. option_to_list (target_in names e)) elements i element (targets_among names (take i elements)) _ within is refl refl)

targets_are : (names : List (List ℕ)) (elements : List Element)
    → flat_map (λ reference. option_to_list (place_of names reference.target)) (references_among elements) ≡ targets_among names elements
targets_are names [] = refl
targets_are names (shape_element shape ∷ elements) = targets_are names elements
targets_are names (reference_element reference ∷ elements) = ap (λ rest. option_to_list (place_of names reference.target) ++ rest) (targets_are names elements)

module _ (structures : List Structure) where
  -- the elements of a structure that was read refer to those to which it leads
  pub targets_read : (i : ℕ) (structure : Structure) → i < length structures → structure ≡ get_or structures i structure
      → targets_of structures i ≡ targets_among (names_of structures) structure.elements
  targets_read i structure within is =
      targets_are (names_of structures) (elements_of structures i)
      ∙ ap (λ found. targets_among (names_of structures) (option_map_or (λ (s : Structure). s.elements) found [])) (slice_get_read structures (length structures) i structure refl within is)

  pub all_from : (other one : ℕ) → other < length structures → Contains (targets_of structures other) one → Contains (all_targets structures) one
  all_from other one within there = Contains-flat_map (targets_of structures) (numbers_of structures) other one (number_there (length structures) other within) there

  pub from_all : (one : ℕ) → Contains (all_targets structures) one → (other : ℕ) × (other < length structures) × Contains (targets_of structures other) one
  from_all one there =
      let from = Contains-flat_map_from (targets_of structures) (numbers_of structures) one there in
      (from.0, number_below (length structures) from.0 from.1, from.2)

-- the numbers so far that are not marked, and the next number
module _ (marks : List Bool) (i : ℕ) (numbers : List ℕ) (are : AreUnmarked marks i numbers) where
  rising_more : AllPairs (λ one other. one < other) (numbers ++ i ∷ [])
  rising_more a b d less within =
      let a_in : a < length numbers = omega (arith, length-append numbers (i ∷ [])) in
      let a_is : get_or (numbers ++ i ∷ []) a d ≡ get_or numbers a d = get_or_append_left numbers (i ∷ []) d a a_in in
      elim (cases_lt b (length numbers)) [
        | inl b_in ↦
            let b_is : get_or (numbers ++ i ∷ []) b d ≡ get_or numbers b d = get_or_append_left numbers (i ∷ []) d b b_in in
            let rises : get_or numbers a d < get_or numbers b d = are.rising a b d less b_in in
            omega arith
        | inr past ↦
            let b_last : b ≡ length numbers = omega (arith, length-append numbers (i ∷ [])) in
            let b_is : get_or (numbers ++ i ∷ []) b d ≡ i = ap (λ n. get_or (numbers ++ i ∷ []) n d) b_last ∙ get_or-append_seam numbers i [] d in
            let below = ((are.each (get_or numbers a d)).0 (a, a_in, get_or_default numbers a (get_or numbers a d) d a_in)).0 in
            omega arith
      ]

  pub one_unmarked : (IsMarked marks i → ⊥) → (new : List ℕ) → new ≡ numbers ++ i ∷ [] → AreUnmarked marks (i + 1) new
  one_unmarked free new is = rw is (record { each = λ one. (to one, from one); rising = rising_more })
    where
      to : (one : ℕ) → Contains (numbers ++ i ∷ []) one → (one < i + 1) × (IsMarked marks one → ⊥)
      to one there = elim (Contains-append_cases numbers (i ∷ []) one there) [
        | inl earlier ↦ let had = (are.each one).0 earlier in (omega (arith, had.0), had.1)
        | inr last ↦ let e : i ≡ one = Contains-one i one last in (omega arith, subst (λ n. IsMarked marks n → ⊥) e free)
      ]

      from : (one : ℕ) → (one < i + 1) × (IsMarked marks one → ⊥) → Contains (numbers ++ i ∷ []) one
      from one (less, unmarked) = elim (cases_lt one i) [
        | inl before ↦ Contains-append_left numbers (i ∷ []) one ((are.each one).1 (before, unmarked))
        | inr past ↦ let e : one ≡ i = omega arith in Contains-append_right numbers (i ∷ []) one (rw e (Contains-head i []))
      ]

  pub one_marked : IsMarked marks i → AreUnmarked marks (i + 1) numbers
  one_marked marked = record { each = λ one. (to one, from one); rising = are.rising }
    where
      to : (one : ℕ) → Contains numbers one → (one < i + 1) × (IsMarked marks one → ⊥)
      to one there = let had = (are.each one).0 there in (omega (arith, had.0), had.1)

      from : (one : ℕ) → (one < i + 1) × (IsMarked marks one → ⊥) → Contains numbers one
      from one (less, unmarked) = elim (cases_lt one i) [
        | inl before ↦ (are.each one).1 (before, unmarked)
        | inr past ↦ let e : i ≡ one = omega arith in absurd (unmarked (subst (IsMarked marks) e marked))
      ]

-- the numbers that are not marked are the tops, where those are marked to which references lead
tops_are : (structures : List Structure) (marks : List Bool) (tops : List ℕ) → length marks ≡ length structures
    → ((one : ℕ) → IsMarked marks one ↔ Contains (all_targets structures) one) → AreUnmarked marks (length marks) tops → AreTops structures tops
tops_are structures marks tops long marked are = record {
  each = λ one. (
    (λ there. let had = (are.each one).0 there in (omega (arith, had.0), λ named. had.1 ((marked one).1 named))),
    (λ (within, free). (are.each one).1 (omega arith, λ mark. free ((marked one).0 mark))),
  );
  rising = are.rising;
}

pub tops_told : {T E : Type 0} (structures : List Structure) (marks : List Bool) → length marks ≡ length structures → ((one : ℕ) → IsMarked marks one ↔ Contains (all_targets structures) one)
    → (read : List Bool) → read ≡ marks → (items : T → List ℕ) (result : Result T E) → IfOk result (λ numbers. AreUnmarked read (length read) (items numbers))
    → IfOk result (λ tops. AreTops structures (items tops))
tops_told structures marks long marked read is items (Ok tops) are = tops_are structures marks (items tops) long marked (rw is at are)
tops_told structures marks long marked read is items (Err e) are = tt
