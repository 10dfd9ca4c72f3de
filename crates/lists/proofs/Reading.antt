-- lists that are read, or made, item by item
use Rattle.std.proofs.Common.{List, [], ap, append_assoc, arith, drop, get_or, inl, inr, length, length-append, map, refl, subst, sym, take, take_all, ℕ, ◌++◌, ◌+◌, ◌<◌, ◌∙◌, ◌∷◌, ◌≡◌, ◌≤◌, ◌⊎◌, All, Some, slice_get, ◌↔◌}
use Rattle.lists.proofs.Words.{flat_map-append, append-nil, map-append, map_more, take_more, All-more, All-nil, All-cons, All-head, All-tail, get_or_from_slice_get, slice_get_within, flat_map}

module _ {A : Type 0} (P : A → Type 0) (xs : List A) (k : ℕ) where
  -- one item more
  pub All-read : (x : A) → k < length xs → x ≡ get_or xs k x → All P (take k xs) → P x → All P (take (k + 1) xs)
  All-read x h e before here = All-more P xs k x h before (subst P e here)

  -- and past the last
  pub All-read_all : length xs ≤ k → All P (take k xs) → All P xs
  All-read_all past each = rw (take_all k xs past) at each

-- one item more at the end of what was taken of a list
pub taken_more : {X : Type 0} (xs : List X) (k : ℕ) (x : X) → k < length xs → x ≡ get_or xs k x → take (k + 1) xs ≡ take k xs ++ x ∷ []
taken_more xs k x small is = take_more xs k x small ∙ ap (λ y. take k xs ++ y ∷ []) (sym is)

-- one item more at the front of a list
pub taken_at : {X : Type 0} (xs : List X) (k : ℕ) (x : X) → slice_get xs k ≡ Some x → take (k + 1) xs ≡ take k xs ++ x ∷ []
taken_at xs k x at = taken_more xs k x (slice_get_within xs k x at) (sym (get_or_from_slice_get xs k x x at))

module _ {X Y : Type 0} (f : X → Y) where
  -- a list that is what the items so far become, and one item more
  pub map_next : (xs : List X) (k : ℕ) (x : X) (old new : List Y) → k < length xs → x ≡ get_or xs k x → old ≡ map f (take k xs) → new ≡ old ++ f x ∷ [] → new ≡ map f (take (k + 1) xs)
  map_next xs k x old new small at so_far gained = gained ∙ ap (λ ys. ys ++ f x ∷ []) so_far ∙ ap (λ y. map f (take k xs) ++ f y ∷ []) at ∙ sym (map_more f xs k x small)

  pub map_done : (xs : List X) (k : ℕ) (ys : List Y) → length xs ≤ k → ys ≡ map f (take k xs) → ys ≡ map f xs
  map_done xs k ys past so_far = so_far ∙ ap (map f) (take_all k xs past)

-- so much of a list is what items become, and so is one item more
pub mapped_next : {X Y : Type 0} (f : X → Y) (old new : List X) (x : X) (ys : List Y) (k : ℕ) (d : Y) → map f old ≡ take k ys → k < length ys → f x ≡ get_or ys k d → new ≡ old ++ x ∷ []
    → map f new ≡ take (k + 1) ys
mapped_next f old new x ys k d done small at e =
    ap (map f) e ∙ map-append f old (x ∷ []) ∙ ap (λ zs. zs ++ f x ∷ []) done ∙ ap (λ y. take k ys ++ y ∷ []) at ∙ sym (take_more ys k d small)

module _ {X Y : Type 0} (f : X → List Y) where
  flat_map_one : (x : X) → flat_map f (x ∷ []) ≡ f x
  flat_map_one x = append-nil (f x)

  pub flat_map_next : (xs : List X) (k : ℕ) (x : X) (old new : List Y) → k < length xs → x ≡ get_or xs k x → old ≡ flat_map f (take k xs) → new ≡ old ++ f x → new ≡ flat_map f (take (k + 1) xs)
  flat_map_next xs k x old new small at so_far gained =
      gained ∙ ap (λ ys. ys ++ f x) so_far ∙ ap (λ ys. flat_map f (take k xs) ++ ys) (sym (flat_map_one x)) ∙ sym (flat_map-append f (take k xs) (x ∷ []))
      ∙ ap (λ y. flat_map f (take k xs ++ y ∷ [])) at ∙ sym (ap (flat_map f) (take_more xs k x small))

-- what the items before some place become, and what the item there does
pub mapped_at : {X Y : Type 0} (f : X → Y) (xs : List X) (k : ℕ) (x : X) → slice_get xs k ≡ Some x → map f (take k xs) ++ f x ∷ [] ≡ map f (take (k + 1) xs)
mapped_at f xs k x at = sym (ap (map f) (taken_at xs k x at) ∙ map-append f (take k xs) (x ∷ []))

pub flat_mapped_at : {X Y : Type 0} (f : X → List Y) (xs : List X) (k : ℕ) (x : X) → slice_get xs k ≡ Some x → flat_map f (take k xs) ++ f x ≡ flat_map f (take (k + 1) xs)
flat_mapped_at f xs k x at = flat_map_next f xs k x (flat_map f (take k xs)) (flat_map f (take k xs) ++ f x) (slice_get_within xs k x at) (sym (get_or_from_slice_get xs k x x at)) refl refl

-- what a list gained at its end, and more
pub gained_more : {X : Type 0} (old mid new front more next : List X) → mid ≡ old ++ front → new ≡ mid ++ more → front ++ more ≡ next → new ≡ old ++ next
gained_more old mid new front more next first second both = second ∙ ap (λ xs. xs ++ more) first ∙ append_assoc old front more ∙ ap (λ xs. old ++ xs) both

module _ {X : Type 0} where
  -- a list that was lent whole is given back whole
  pub put_back : (n : ℕ) (new old : List X) → n ≡ length new → take n (new ++ drop (length new) old) ≡ new
  put_back n new old e = ap (λ k. take k (new ++ drop (length new) old)) e ∙ take-append-at new (drop (length new) old)
    where
      take-append-at : (xs ys : List X) → take (length xs) (xs ++ ys) ≡ xs
      take-append-at [] ys = refl
      take-append-at (x ∷ xs) ys = ap (λ l. x ∷ l) (take-append-at xs ys)

-- an item of a list with one more item at its end is that item, or lies before it
pub last_or_before : {A : Type 0} (xs : List A) (x : A) (front : List A) (y : A) (back : List A) → xs ++ x ∷ [] ≡ front ++ y ∷ back
    → ((xs ≡ front) × (x ≡ y) × (back ≡ [])) ⊎ ((more : List A) × (xs ≡ front ++ y ∷ more) × (back ≡ more ++ x ∷ []))
last_or_before [] x [] y back same = inl (refl, cc, cc)
last_or_before {A} [] x (f ∷ front) y back same =
    let one : length (x ∷ []) ≡ length (f ∷ (front ++ y ∷ back)) = ap length same in
    absurd (omega (arith, one, length-append front (y ∷ back)))
last_or_before {A} (z ∷ xs) x [] y back same =
    let first : z ≡ y = cc in
    let rest : xs ++ x ∷ [] ≡ back = cc in
    inr (xs, ap (λ (v : A). v ∷ xs) first, sym rest)
last_or_before {A} (z ∷ xs) x (f ∷ front) y back same =
    let first : z ≡ f = cc in
    let rest : xs ++ x ∷ [] ≡ front ++ y ∷ back = cc in
    elim (last_or_before xs x front y back rest) [
      | inl (fronts, lasts, none) ↦ inl (ap (λ (v : A). v ∷ xs) first ∙ ap (λ (vs : List A). f ∷ vs) fronts, lasts, none)
      | inr (more, fronts, backs) ↦ inr (more, ap (λ (v : A). v ∷ xs) first ∙ ap (λ (vs : List A). f ∷ vs) fronts, backs)
    ]

-- What holds of each item of a list, where what is left of it says the same of it: an item behind which it still does, one at which it
-- fails, and the end.
module _ {X : Type 0} (P : X → Type 0) (all left : List X) (same : All P left ↔ All P all) where
  pub left_holds : (x : X) (rest : List X) → left ≡ x ∷ rest → P x → All P rest ↔ All P all
  left_holds x rest e here = ((λ h. same.0 (subst (All P) (sym e) (All-cons P x rest here h))), λ h. All-tail P x rest (subst (All P) e (same.1 h)))

  pub left_fails : (x : X) (rest : List X) → left ≡ x ∷ rest → (P x → ⊥) → All P all → ⊥
  left_fails x rest e fails h = fails (All-head P x rest (subst (All P) e (same.1 h)))

  pub none_left : left ≡ [] → All P all
  none_left e = same.0 (subst (All P) (sym e) (All-nil P))
