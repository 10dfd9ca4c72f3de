-- the first item with the greatest amount, found by that amount
use Rattle.std.proofs.Common.{ℕ, ◌≡◌, ◌≤◌, Bool, true, false, ◌==◌, nat_le, List, [], ◌∷◌, map, find, All, Contains, refl, sym, arith, leb-true}
use Rattle.std.proofs.lemmas.List.Sums.{AllPass-from_list_all, list_all-from_AllPass}
use Rattle.std.specs.List.{list_all}
use Rattle.lists.proofs.Words.{All-contains, All-head, All-tail, All-weaker, eq-eqb, eqb-true, le-leb}
use Rattle.lists.proofs.Mapping.{Contains-map_from}

-- two tests that come to the same for each item find the same
find_agree : {A : Type 0} (p q : A → Bool) (items : List A) → All (λ x. p x ≡ q x) items → find p items ≡ find q items
find_agree p q [] all = refl
find_agree p q (x ∷ items) all =
    let here : p x ≡ q x = All-head (λ x. p x ≡ q x) x items all in
    let rest : find p items ≡ find q items = find_agree p q items (All-tail (λ x. p x ≡ q x) x items all) in
    cc

-- tests that imply each other come to the same
same_test : (a b : Bool) → (a ≡ true → b ≡ true) → (b ≡ true → a ≡ true) → a ≡ b
same_test true b there back = sym (there refl)
same_test false true there back = back refl
same_test false false there back = refl

module _ {A : Type 0} (amount : A → ℕ) (items : List A) where
  -- no item of the list has a greater amount
  abbrev pub is_greatest : A → Bool
  is_greatest item = list_all (λ other. nat_le (amount other) (amount item)) items

  module _ (greatest : ℕ) (reached : Contains (map amount items) greatest) (bound : All (λ item. amount item ≤ greatest) items) where
    -- an item has the greatest amount where no item has a greater one
    has_greatest : (item : A) → amount item ≤ greatest → (amount item == greatest) ≡ is_greatest item
    has_greatest item within = same_test (amount item == greatest) (is_greatest item) there back
      where
        there : (amount item == greatest) ≡ true → is_greatest item ≡ true
        there same =
            list_all-from_AllPass (λ other. nat_le (amount other) (amount item)) items
            (All-weaker (λ other. amount other ≤ greatest) (λ other. nat_le (amount other) (amount item) ≡ true)
            (λ other h. le-leb (amount other) (amount item) (omega (arith, eqb-true (amount item) greatest same))) items bound)

        back : is_greatest item ≡ true → (amount item == greatest) ≡ true
        back none_greater =
            let some : (other : A) × Contains items other × (amount other ≡ greatest) = Contains-map_from amount items greatest reached in
            let below : nat_le (amount some.0) (amount item) ≡ true =
            All-contains (λ other. nat_le (amount other) (amount item) ≡ true) items some.0
            (AllPass-from_list_all (λ other. nat_le (amount other) (amount item)) items none_greater) some.1 in
            let under : amount some.0 ≤ amount item = leb-true (amount some.0) (amount item) below in
            eq-eqb (amount item) greatest (omega (arith, under, some.2, within))

    pub found_greatest : find (λ item. amount item == greatest) items ≡ find is_greatest items
    found_greatest = find_agree (λ item. amount item == greatest) is_greatest items
        (All-weaker (λ item. amount item ≤ greatest) (λ item. (amount item == greatest) ≡ is_greatest item) has_greatest items bound)
