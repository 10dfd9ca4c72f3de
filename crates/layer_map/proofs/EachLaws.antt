-- checks that are made one after the other, and arrays of a document that are read item by item
use Rattle.std.proofs.Common.{◌≡◌, ℕ, suc, ◌+◌, ◌<◌, ◌≤◌, List, [], ◌∷◌, ◌++◌, Result, Ok, Err, length, take, drop, get_or, map, Some, refl, sym, ap, ◌∙◌, arith, take_all, All, slice_get, option_map, IsSomeAnd}
use Rattle.lists.proofs.Words.{All-from_recursion, AllZip, AllZip-long, all_zipped_more, flat_map, range_with_len, length-drop, length-map, map-append, slice_get-get_or, slice_get-map, slice_get_within}
use Rattle.std.specs.List.{AllByRecursion}
use Rattle.lists.proofs.Reading.{taken_at}
use Rattle.toml.specs.Data.{Data, Members}
use Rattle.toml.specs.View.{view}
use Rattle.toml.specs.declared.value.Value.{Value}
use Rattle.layer_map.specs.MapChecks.{MapCheck, Holds, checks_of_each, fault_of}
use Rattle.layer_map.specs.declared.fault.MapFault.{MapFault}
use Rattle.layer_map.specs.declared.fault.MapFault.TheVariants.{Memory}
use Rattle.first_refusal.proofs.JudgeLaws.{Judges, all_renamed, fails_first, goes_on, passed, passes, renamed, stops}
use Rattle.first_refusal.proofs.StepLaws.{HoldsSoFar, all_of_them, further, nothing_yet, part_stops}

-- the first of some checks holds, and the second fails
pub fails_second : {N T F : Type 0} {memory : F} (Holds : N → Type 0) (fault_of : N → F) (Is : T → Type 0) (first second : N) (checks : List N) → Holds first → (Holds second → ⊥)
    → Judges memory Holds (first ∷ second ∷ checks) fault_of Is (Err (fault_of second))
fails_second Holds fault_of Is first second checks holds not =
    goes_on Holds fault_of Is (first ∷ []) (second ∷ checks) _ (All-from_recursion Holds (first ∷ []) (holds, tt)) (fails_first Holds fault_of Is second checks not)

-- each of some checks holds
pub passes_each : {N T F : Type 0} {memory : F} (Holds : N → Type 0) {fault_of : N → F} {Is : T → Type 0} (checks : List N) {thing : T} → AllByRecursion Holds checks → Is thing
    → Judges memory Holds checks fault_of Is (Ok thing)
passes_each Holds checks each is = passes Holds _ _ checks _ (All-from_recursion Holds checks each) is

-- The first part of some checks was answered: one of it fails, or they hold and the others decide.
module _ {N F T U : Type 0} {memory : F} {Holds : N → Type 0} {fault_of : N → F} {Is : T → Type 0} {Js : U → Type 0} {checks : List N} where
  pub stops_there : (rest : List N) {fault : F} → Judges memory Holds checks fault_of Is (Err fault) → Judges memory Holds (checks ++ rest) fault_of Js (Err fault)
  stops_there rest = stops Holds fault_of Is Js checks rest _

  pub holds_then : {rest : List N} {thing : T} {result : Result U F} → Judges memory Holds checks fault_of Is (Ok thing) → Judges memory Holds rest fault_of Js result
      → Judges memory Holds (checks ++ rest) fault_of Js result
  holds_then {rest} told = goes_on Holds fault_of Js checks rest _ (passed told)

-- The same where the first part is made by other names. One of it fails, or they hold and the others decide.
module _ {N M F T : Type 0} {memory : F} {Means : M → Type 0} {fault_by : M → F} {Is : T → Type 0} (named : N → M) (checks : List N) (rest : List M) where
  pub part_fails : {U : Type 0} {Js : U → Type 0} {fault : F} → Judges memory (λ n. Means (named n)) checks (λ n. fault_by (named n)) Is (Err fault)
      → Judges memory Means (map named checks ++ rest) fault_by Js (Err fault)
  part_fails told = stops _ _ _ _ (map named checks) rest _ (renamed _ Means _ fault_by named (λ check h. h) (λ check h. h) (λ check. refl) Is checks _ told)

  pub part_holds : {U : Type 0} {Js : U → Type 0} {thing : T} {result : Result U F} → Judges memory (λ n. Means (named n)) checks (λ n. fault_by (named n)) Is (Ok thing)
      → Judges memory Means rest fault_by Js result → Judges memory Means (map named checks ++ rest) fault_by Js result
  part_holds told = goes_on _ _ _ (map named checks) rest _ (passed (renamed _ Means _ fault_by named (λ check h. h) (λ check h. h) (λ check. refl) Is checks _ told))

-- the checks of the items from one number on
abbrev pub left : {N V : Type 0} → (ℕ → List N) → List V → ℕ → List N
left checks_of items number = flat_map checks_of (range_with_len number (length (drop number items)))

module _ {N V : Type 0} (checks_of : ℕ → List N) (items : List V) where
  pub left_more : (number : ℕ) → number < length items → left checks_of items number ≡ checks_of number ++ left checks_of items (number + 1)
  left_more number within =
      let count : length (drop number items) ≡ suc (length (drop (number + 1) items)) = omega (arith, length-drop number items, length-drop (number + 1) items) in
      ap (λ n. flat_map checks_of (range_with_len number n)) count

  pub left_none : (number : ℕ) → length items ≤ number → left checks_of items number ≡ []
  left_none number all =
      let count : length (drop number items) ≡ 0 = omega (arith, length-drop number items) in
      ap (λ n. flat_map checks_of (range_with_len number n)) count

-- the number of items is that of the values that show as them
pub count_of : (items : List Data) (values : List Value) → items ≡ map view values → length items ≡ length values
count_of items values same = ap length same ∙ length-map values view

-- the item at a number
module _ {items : List Data} (values : List Value) (same : items ≡ map view values) {number : ℕ} (within : number < length values) {value : Value} (is : value ≡ get_or values number value) where
  item_there : slice_get items number ≡ Some (view value)
  item_there = ap (λ ds. slice_get ds number) same ∙ slice_get-map view values number ∙ ap (λ o. option_map view o) (slice_get-get_or values number value within ∙ ap Some (sym is))

  pub taken_next : take (number + 1) items ≡ take number items ++ view value ∷ []
  taken_next = taken_at items number (view value) item_there

-- An array of a document is read item by item. Of its checks those of all of it hold, and those of the items before this number; and each of these items gives one of the things.
pub record ReadSoFar {C T U : Type 0} (document : Members) (first second : MapCheck) (of_item : ℕ → C → MapCheck) (checks : List C) (items : List Data) (Gives : Data → U → Type 0) (shown : T → U)
    (number : ℕ) (things : List T) : Type 0 where
  pub holds : HoldsSoFar (Holds document) (first ∷ second ∷ checks_of_each of_item checks items) (left (λ n. map (of_item n) checks) items number)
  pub gives_them : AllZip Gives (take number items) (map shown things)

module _ {C T U : Type 0} {document : Members} {first second : MapCheck} {of_item : ℕ → C → MapCheck} {checks : List C} {items : List Data} {Gives : Data → U → Type 0} {shown : T → U} where
  pub none_read : Holds document first → Holds document second → ReadSoFar document first second of_item checks items Gives shown 0 []
  none_read one other = record {
    holds = further (Holds document) _ (first ∷ second ∷ []) (left (λ n. map (of_item n) checks) items 0) (nothing_yet (Holds document) _)
        (All-from_recursion (Holds document) (first ∷ second ∷ []) (one, (other, tt)));
    gives_them = tt;
  }

  module _ (values : List Value) (same : items ≡ map view values) {number : ℕ} {things : List T} where
    -- the next item
    module _ (within : number < length values) {value : Value} (is : value ≡ get_or values number value)
        (far : ReadSoFar document first second of_item checks items Gives shown number things) (OfItem : Data → C → Type 0) {fault_at : C → MapFault}
        (onward : (check : C) → IsSomeAnd (slice_get items number) (λ item. OfItem item check) → Holds document (of_item number check))
        (back : (check : C) → Holds document (of_item number check) → IsSomeAnd (slice_get items number) (λ item. OfItem item check))
        (alike : (check : C) → fault_of (of_item number check) ≡ fault_at check) where
      there : slice_get items number ≡ Some (view value)
      there = item_there values same within is

      left_here : HoldsSoFar (Holds document) (first ∷ second ∷ checks_of_each of_item checks items) (map (of_item number) checks ++ left (λ n. map (of_item n) checks) items (number + 1))
      left_here = rw (← left_more (λ n. map (of_item n) checks) items number (slice_get_within items number (view value) there)) far.holds

      onward_here : (check : C) → OfItem (view value) check → Holds document (of_item number check)
      onward_here check h = onward check (rw there h)

      back_here : (check : C) → Holds document (of_item number check) → OfItem (view value) check
      back_here check h = let told = back check h in rw there at told

      -- a check of it fails
      pub item_stops : {V W : Type 0} {Is : V → Type 0} {Js : W → Type 0} {fault : MapFault} → Judges Memory (OfItem (view value)) checks fault_at Is (Err fault)
          → Judges Memory (Holds document) (first ∷ second ∷ checks_of_each of_item checks items) fault_of Js (Err fault)
      item_stops told = part_stops _ _ _ _ _ (map (of_item number) checks) (left (λ n. map (of_item n) checks) items (number + 1)) _ left_here
          (renamed (OfItem (view value)) (Holds document) fault_at fault_of (of_item number) onward_here back_here alike _ checks _ told)

      -- its checks hold
      pub one_more : (thing : T) → All (OfItem (view value)) checks → Gives (view value) (shown thing)
          → ReadSoFar document first second of_item checks items Gives shown (number + 1) (things ++ thing ∷ [])
      one_more thing all gives = record {
        holds = further _ _ (map (of_item number) checks) _ left_here
            (all_renamed (OfItem (view value)) (Holds document) fault_at fault_of (of_item number) onward_here back_here alike checks all);
        gives_them = rw (taken_next values same within is, map-append shown things (thing ∷ []))
            (all_zipped_more Gives (take number items) (map shown things) (view value) (shown thing) far.gives_them gives);
      }

    -- all items were read
    pub all_read : {V : Type 0} {Is : V → Type 0} {made : V} → length values ≤ number → ReadSoFar document first second of_item checks items Gives shown number things
        → (Holds document first → Holds document second → length things ≡ length items → AllZip Gives items (map shown things) → take number items ≡ items → Is made)
        → Judges Memory (Holds document) (first ∷ second ∷ checks_of_each of_item checks items) fault_of Is (Ok made)
    all_read past far is =
        let past_items : length items ≤ number = omega (arith, count_of items values same) in
        let whole : take number items ≡ items = take_all number items past_items in
        let each : AllZip Gives items (map shown things) = rw whole at far.gives_them in
        let all = all_of_them (Holds document) _ (rw (left_none (λ n. map (of_item n) checks) items number past_items) at far.holds) in
        passes _ _ _ _ _ all (is (all 0 first (omega arith)) (all 1 first (omega arith)) (sym (length-map things shown) ∙ AllZip-long Gives items (map shown things) each) each whole)
