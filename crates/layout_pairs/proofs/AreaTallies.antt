-- an area for each two numbers, from a list of those whose area is not 0
use Rattle.std.proofs.Common.{ℕ, suc, ◌<◌, ◌≡◌, ◌⊎◌, inl, inr, subst, List, [], ◌∷◌, ◌↔◌, Contains}
use Rattle.lists.proofs.Comparing.{equal_or_not}
use Rattle.lists.proofs.Containing.{Contains-cons_cases, Contains-head, Contains-none, Contains-tail}
use Rattle.geo_core.specs.declared.plane.Cell.{Cell}
use Rattle.fault_model.specs.FaultNames.{Tally, none, hit, miss}
use Rattle.fault_model.proofs.TallyLaws.{Tally-counts, Tally-none, Tally-unique}
use Rattle.layout_pairs.specs.inside.NumberedPairs.{AreCountedPairs}

-- it cannot be that a property has no tally
some_tally : (P : Cell → Type 0) (cells : List Cell) → ((n : ℕ) → Tally P cells n → ⊥) → ⊥
some_tally P [] lacks = lacks 0 none
some_tally P (c ∷ cs) lacks = some_tally P cs (λ n t. let fails : P c → ⊥ = λ p. lacks (suc n) (hit p t) in lacks n (miss fails t))

-- the list has a count for the two numbers, or it has none
abbrev pub IsFoundOrNot : List (ℕ × ℕ × ℕ) → ℕ → ℕ → Type 0
IsFoundOrNot pairs one other = ((count : ℕ) × Contains pairs (one, other, count)) ⊎ ((count : ℕ) → Contains pairs (one, other, count) → ⊥)

-- no item behind the first is found, and the first is of two other numbers
not_found : (pair : ℕ × ℕ × ℕ) (pairs : List (ℕ × ℕ × ℕ)) (one other : ℕ) → ((pair.0 ≡ one) × (pair.1 ≡ other) → ⊥) → ((count : ℕ) → Contains pairs (one, other, count) → ⊥)
    → (count : ℕ) → Contains (pair ∷ pairs) (one, other, count) → ⊥
not_found pair pairs one other differs never count c = elim (Contains-cons_cases pair pairs (one, other, count) c) [
  | inl e ↦ differs (cc, cc)
  | inr d ↦ never count d
]

further : (pair : ℕ × ℕ × ℕ) (pairs : List (ℕ × ℕ × ℕ)) (one other : ℕ) → ((pair.0 ≡ one) × (pair.1 ≡ other) → ⊥) → IsFoundOrNot pairs one other → IsFoundOrNot (pair ∷ pairs) one other
further pair pairs one other differs (inl found) = inl (found.0, Contains-tail pair pairs (one, other, found.0) found.1)
further pair pairs one other differs (inr never) = inr (not_found pair pairs one other differs never)

pub look_up : (pairs : List (ℕ × ℕ × ℕ)) (one other : ℕ) → IsFoundOrNot pairs one other
look_up [] one other = inr (λ count c. Contains-none c)
look_up (pair ∷ pairs) one other = elim (equal_or_not pair.0 one) [
  | inl e ↦ elim (equal_or_not pair.1 other) [
    | inl f ↦ inl (pair.2, subst (λ n. Contains (pair ∷ pairs) (n, other, pair.2)) e (subst (λ n. Contains (pair ∷ pairs) (pair.0, n, pair.2)) f (Contains-head pair pairs)))
    | inr differs ↦ further pair pairs one other (λ h. differs h.1) (look_up pairs one other)
  ]
  | inr differs ↦ further pair pairs one other (λ h. differs h.0) (look_up pairs one other)
]

-- what is found, or 0
abbrev pub count_of : (pairs : List (ℕ × ℕ × ℕ)) (one other : ℕ) → IsFoundOrNot pairs one other → ℕ
count_of pairs one other (inl found) = found.0
count_of pairs one other (inr never) = 0

module _ (P : ℕ → ℕ → Cell → Type 0) (cells : List Cell) (pairs : List (ℕ × ℕ × ℕ)) (counted : AreCountedPairs P cells pairs) where
  abbrev pub area : ℕ → ℕ → ℕ
  area one other = count_of pairs one other (look_up pairs one other)

  -- where none is found, no cell is of both
  none_of_both : (one other : ℕ) → one < other → ((count : ℕ) → Contains pairs (one, other, count) → ⊥) → (c : Cell) → Contains cells c → P one other c → ⊥
  none_of_both one other less never c listed both =
      some_tally (P one other) cells (λ n t. never n ((counted one other n).1 (record { lesser = less; some = Tally-counts cells n c listed both t; tally = t })))

  tally_of : (one other : ℕ) → one < other → (found : IsFoundOrNot pairs one other) → Tally (P one other) cells (count_of pairs one other found)
  tally_of one other less (inl found) = ((counted one other found.0).0 found.1).tally
  tally_of one other less (inr never) = Tally-none cells (none_of_both one other less never)

  -- the area of two numbers is the tally of their cells
  pub area_is : (one other : ℕ) → one < other → Tally (P one other) cells (area one other)
  area_is one other less = tally_of one other less (look_up pairs one other)

  -- and listed are those whose area is not 0
  pub listed_area : (one other count : ℕ) → Contains pairs (one, other, count) ↔ ((one < other) × (0 < count) × (area one other ≡ count))
  listed_area one other count = (
    λ c.
        let is = (counted one other count).0 c in
        (is.lesser, is.some, Tally-unique cells (area one other) count (area_is one other is.lesser) is.tally),
    λ h. (counted one other count).1 (record { lesser = h.0; some = h.1; tally = subst (Tally (P one other) cells) h.2 (area_is one other h.0) }),
  )
