-- searches that end: what a tally decides at its cells, and a number below a bound
use Rattle.std.proofs.Common.{ℕ, zero, suc, ◌<◌, ◌≡◌, sym, subst, inl, inr, ◌⊎◌, arith, List, [], ◌∷◌, Contains}
use Rattle.lists.proofs.Containing.{Contains-cons_cases, Contains-none}
use Rattle.lists.proofs.Words.{cases_lt}
use Rattle.geo_core.specs.declared.plane.Cell.{Cell}
use Rattle.fault_model.specs.FaultNames.{Tally, hit, miss}

-- at each cell of a list with a tally the property holds or not
pub tally_decides : {P : Cell → Type 0} (cells : List Cell) (n : ℕ) (d : Cell) → Contains cells d → Tally P cells n → P d ⊎ (P d → ⊥)
tally_decides [] n d in_list tally = absurd (Contains-none in_list)
tally_decides {P} (c ∷ cs) n d in_list (hit {n = k} h t) = elim (Contains-cons_cases c cs d in_list) [
  | inl e ↦ inl (subst P e h)
  | inr behind ↦ tally_decides cs k d behind t
]
tally_decides {P} (c ∷ cs) n d in_list (miss h t) = elim (Contains-cons_cases c cs d in_list) [
  | inl e ↦ inr (λ p. h (subst P (sym e) p))
  | inr behind ↦ tally_decides cs n d behind t
]

-- some number below the bound has the property, or none
abbrev pub SomeBelow : (ℕ → Type 0) → ℕ → Type 0
SomeBelow P n = ((k : ℕ) × (k < n) × P k) ⊎ ((k : ℕ) → k < n → P k → ⊥)

module _ (P : ℕ → Type 0) where
  none_more : (n : ℕ) → ((k : ℕ) → k < n → P k → ⊥) → (P n → ⊥) → (k : ℕ) → k < suc n → P k → ⊥
  none_more n none not_last k small p = elim (cases_lt k n) [
    | inl less ↦ none k less p
    | inr most ↦ not_last (let e : k ≡ n = omega arith in subst P e p)
  ]

  pub search_below : (n : ℕ) → ((k : ℕ) → k < n → P k ⊎ (P k → ⊥)) → SomeBelow P n
  search_below zero decide = inr (λ k small p. absurd (omega arith))
  search_below (suc n) decide = elim (decide n (omega arith)) [
    | inl p ↦ inl (n, omega arith, p)
    | inr not_last ↦ elim (search_below n (λ k small. decide k (omega arith))) [
      | inl found ↦ let less = found.1 in inl (found.0, omega arith, found.2)
      | inr none ↦ inr (none_more n none not_last)
    ]
  ]
