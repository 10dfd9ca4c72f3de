-- lists side by side: what stands beside an item, and how many such lists there are
use Rattle.std.proofs.Common.{◌≡◌, refl, ap, subst, ◌∙◌, inl, inr, List, [], ◌∷◌, Contains}
use Rattle.lists.proofs.Containing.{Contains-cons_cases, Contains-head, Contains-none, Contains-tail}
use Rattle.lists.proofs.Words.{AllZip, zip}

module _ {X Y : Type 0} (R : X → Y → Type 0) where
  -- an item of the second list stands beside this one, and the relation holds of the two
  pub record HasBeside (xs : List X) (ys : List Y) (x : X) : Type 0 where
    pub item : Y
    pub among : Contains ys item
    pub beside : Contains (zip xs ys) (x, item)
    pub related : R x item

  one_further : (a : X) (b : Y) (xs : List X) (ys : List Y) (x : X) → HasBeside xs ys x → HasBeside (a ∷ xs) (b ∷ ys) x
  one_further a b xs ys x has = record {
    item = has.item;
    among = Contains-tail b ys has.item has.among;
    beside = Contains-tail (a, b) (zip xs ys) (x, has.item) has.beside;
    related = has.related;
  }

  pub beside_item : (xs : List X) (ys : List Y) → AllZip R xs ys → (x : X) → Contains xs x → HasBeside xs ys x
  beside_item [] ys h x in_list = absurd (Contains-none in_list)
  beside_item (a ∷ xs) [] h x in_list = absurd h
  beside_item (a ∷ xs) (b ∷ ys) h x in_list = elim (Contains-cons_cases a xs x in_list) [
    | inl e ↦ subst (HasBeside (a ∷ xs) (b ∷ ys)) e (record { item = b; among = Contains-head b ys; beside = Contains-head (a, b) (zip xs ys); related = h.0 })
    | inr behind ↦ one_further a b xs ys x (beside_item xs ys h.1 x behind)
  ]

  -- an item of the first list stands beside each of the second
  pub item_beside : (xs : List X) (ys : List Y) → AllZip R xs ys → (y : Y) → Contains ys y → (x : X) × Contains xs x × R x y
  item_beside [] [] h y in_list = absurd (Contains-none in_list)
  item_beside [] (b ∷ ys) h y in_list = absurd h
  item_beside (a ∷ xs) [] h y in_list = absurd h
  item_beside (a ∷ xs) (b ∷ ys) h y in_list = elim (Contains-cons_cases b ys y in_list) [
    | inl e ↦ (a, Contains-head a xs, subst (R a) e h.0)
    | inr behind ↦ let rest = item_beside xs ys h.1 y behind in (rest.0, Contains-tail a xs rest.0 rest.1, rest.2)
  ]

  -- of two that stand side by side the first is of the first list, and the relation holds of them
  pub both_beside : (xs : List X) (ys : List Y) → AllZip R xs ys → (both : X × Y) → Contains (zip xs ys) both → Contains xs both.0 × R both.0 both.1
  both_beside [] [] h both in_zip = absurd (Contains-none in_zip)
  both_beside [] (b ∷ ys) h both in_zip = absurd h
  both_beside (a ∷ xs) [] h both in_zip = absurd h
  both_beside (a ∷ xs) (b ∷ ys) h both in_zip = elim (Contains-cons_cases (a, b) (zip xs ys) both in_zip) [
    | inl e ↦ subst (λ (two : X × Y). Contains (a ∷ xs) two.0 × R two.0 two.1) e (Contains-head a xs, h.0)
    | inr behind ↦ let rest = both_beside xs ys h.1 both behind in (Contains-tail a xs both.0 rest.0, rest.1)
  ]

  -- where the relation leaves no choice, there is one such list
  pub one_beside : ((x : X) (y z : Y) → R x y → R x z → y ≡ z) → (xs : List X) (ys zs : List Y) → AllZip R xs ys → AllZip R xs zs → ys ≡ zs
  one_beside alone [] [] [] h g = refl
  one_beside alone [] (y ∷ ys) zs h g = absurd h
  one_beside alone [] [] (z ∷ zs) h g = absurd g
  one_beside alone (x ∷ xs) [] zs h g = absurd h
  one_beside alone (x ∷ xs) (y ∷ ys) [] h g = absurd g
  one_beside alone (x ∷ xs) (y ∷ ys) (z ∷ zs) h g =
      ap (λ a. a ∷ ys) (alone x y z h.0 g.0) ∙ ap (λ rest. z ∷ rest) (one_beside alone xs ys zs h.1 g.1)

-- a list that has nothing is empty
pub none_listed : {X : Type 0} (xs : List X) → ((x : X) → Contains xs x → ⊥) → xs ≡ []
none_listed [] none = refl
none_listed (x ∷ xs) none = absurd (none x (Contains-head x xs))
