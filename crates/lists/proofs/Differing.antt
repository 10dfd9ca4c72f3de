-- lists whose items differ, and facts about each two items
use Rattle.std.proofs.Common.{List, ap, arith, get_or, inl, inr, length, length-append, map, subst, suc, sym, take, ℕ, ◌++◌, ◌+◌, ◌<◌, ◌∙◌, ◌∷◌, ◌≡◌, ◌≢◌, ◌⊎◌, [], zero, All, AllPairs, Contains}
use Rattle.lists.proofs.Words.{leb_tells, get_or-map, get_or-take, get_or_append_left, get_or_default, length-map, length-take, All-nil, All-cons, All-append, AllPairs-cons}
use Rattle.std.proofs.lemmas.List.{get_or-append-add}
use Rattle.lists.proofs.Containing.{some_item}
use Rattle.lists.specs.Differing.{AreDifferent}

module _ {A : Type 0} where
  -- no item of the first part is one of the second
  pub different_apart : (xs ys : List A) (x : A) → AreDifferent (xs ++ ys) → Contains xs x → Contains ys x → ⊥
  different_apart xs ys x h (i, i_in, i_is) (j, j_in, j_is) =
      let far : length xs + j < length (xs ++ ys) = omega (arith, length-append xs ys) in
      let near : i < length xs + j = omega arith in
      h i (length xs + j) x near far (get_or_append_left xs ys x i i_in ∙ i_is ∙ sym j_is ∙ sym (get_or-append-add xs ys j x))

  -- each part is of different items
  pub different_front : (xs ys : List A) → AreDifferent (xs ++ ys) → AreDifferent xs
  different_front xs ys h i j d below within same =
      let far : j < length (xs ++ ys) = omega (arith, length-append xs ys) in
      let i_in : i < length xs = omega arith in
      h i j d below far (get_or_append_left xs ys d i i_in ∙ same ∙ sym (get_or_append_left xs ys d j within))

  pub different_back : (xs ys : List A) → AreDifferent (xs ++ ys) → AreDifferent ys
  different_back xs ys h i j d below within same =
      let far : length xs + j < length (xs ++ ys) = omega (arith, length-append xs ys) in
      let after : length xs + i < length xs + j = omega arith in
      h (length xs + i) (length xs + j) d after far (get_or-append-add xs ys i d ∙ same ∙ sym (get_or-append-add xs ys j d))

module _ {X : Type 0} where
  pub AllPairs-tail : (R : X → X → Type 0) (x : X) (xs : List X) → AllPairs R (x ∷ xs) → AllPairs R xs
  AllPairs-tail R x xs h i j d less small = h (suc i) (suc j) d (omega arith) (omega arith)

  -- two items of a list, the earlier one first
  AllPairs-read : (R : X → X → Type 0) (xs : List X) → AllPairs R xs → (i k : ℕ) (x y : X) → i < k → k < length xs → x ≡ get_or xs i x → get_or xs k y ≡ y → R x y
  AllPairs-read R xs pairs i k x y before within x_is y_is =
      let near : i < length xs = omega arith in
      subst (R x) y_is (subst (λ z. R z (get_or xs k y)) (get_or_default xs i y x near ∙ sym x_is) (pairs i k y before within))

  -- an item at or past a place comes no earlier than the item at that place; `same` is what holds of one item twice
  pub at_or_past : (R : X → X → Type 0) (xs : List X) → AllPairs R xs → ((x : X) → R x x) → (i : ℕ) (x y : X) → i < length xs → x ≡ get_or xs i x → Contains xs y → Contains (take i xs) y ⊎ R x y
  at_or_past R xs pairs same i x y small x_is (k, within, y_is) = elim (leb_tells (k + 1) i) [
    | inl h ↦
        let less : k < i = let f = h.1 in omega arith in
        let within_first : k < length (take i xs) = omega (arith, length-take i xs) in
        inl (k, within_first, get_or-take i xs k y less ∙ y_is)
    | inr h ↦ inr (elim (leb_tells k i) [
      | inl g ↦
          let f = h.1 in let f' = g.1 in let e : k ≡ i = omega arith in
          let x_is_y : x ≡ y = x_is ∙ get_or_default xs i x y small ∙ ap (λ n. get_or xs n y) (sym e) ∙ y_is in
          subst (R x) x_is_y (same x)
      | inr g ↦ AllPairs-read R xs pairs i k x y g.1 within x_is y_is
    ])
  ]

-- different items, and one more at their end that is none of them
pub different_more : {A : Type 0} (xs : List A) (x : A) → AreDifferent xs → (Contains xs x → ⊥) → AreDifferent (xs ++ x ∷ [])
different_more [] x h fresh = λ i j d before within same. absurd (omega arith)
different_more {A} (y ∷ xs) x h fresh =
    let Other : A → Type 0 = λ z. y ≢ z in
    let others : All Other xs = λ k d within. h zero (suc k) d (omega arith) (omega arith) in
    AllPairs-cons (λ one other. one ≢ other) y (xs ++ x ∷ [])
    (All-append Other xs (x ∷ []) others (All-cons Other x [] (λ same. fresh (zero, omega arith, same)) (All-nil Other)))
    (different_more xs x (AllPairs-tail (λ one other. one ≢ other) y xs h) (λ (k, within, is). fresh (suc k, omega arith, is)))

-- what holds of each two things that items become, the earlier one first
module _ {X Y : Type 0} (R : Y → Y → Type 0) (f : X → Y) (xs : List X) where
  pub AllPairs-map : AllPairs (λ a b. R (f a) (f b)) xs → AllPairs R (map f xs)
  AllPairs-map pairs i j d before small =
      let within : j < length xs = omega (arith, length-map xs f) in
      let earlier : i < length xs = omega arith in
      let x = some_item xs j within in
      rw (get_or-map f xs i x.0 d earlier, get_or-map f xs j x.0 d within) (pairs i j x.0 before within)

  pub AllPairs-unmap : AllPairs R (map f xs) → AllPairs (λ a b. R (f a) (f b)) xs
  AllPairs-unmap pairs i j d before small =
      let earlier : i < length xs = omega arith in
      let within : j < length (map f xs) = omega (arith, length-map xs f) in
      subst (λ y. R y (f (get_or xs j d))) (get_or-map f xs i d (f d) earlier) (subst (R (get_or (map f xs) i (f d))) (get_or-map f xs j d (f d) small) (pairs i j (f d) before within))

-- lists of different things, where each thing is told from what it becomes
module _ {X Y : Type 0} (f : X → Y) (xs : List X) where
  pub AreDifferent-map : ((a b : X) → f a ≡ f b → a ≡ b) → AreDifferent xs → AreDifferent (map f xs)
  AreDifferent-map tells differ = AllPairs-map (λ y z. y ≢ z) f xs (λ i j d before small same. differ i j d before small (tells _ _ same))

  pub AreDifferent-unmap : AreDifferent (map f xs) → AreDifferent xs
  AreDifferent-unmap differ i j d before small same = AllPairs-unmap (λ y z. y ≢ z) f xs differ i j d before small (ap f same)
