-- chains of references: their lengths, and structures to which no reference leads
use Rattle.std.proofs.Common.{ℕ, zero, suc, ◌≤◌, ◌<◌, ◌⊎◌, inl, inr, List, [], ◌∷◌, length, max, sym, subst, arith, Contains}
use Rattle.lists.proofs.Words.{cases_lt}
use Rattle.library_model.specs.declared.library.Structure.{Structure}
use Rattle.flatten.specs.Structures.{numbers_of, targets_of}
use Rattle.flatten.specs.ReferenceChains.{StartsChain, IsEndless}
use Rattle.flatten.specs.Tops.{IsUnnamed}
use Rattle.lists.proofs.Containing.{Contains-cons_cases, Contains-head, Contains-none, Contains-tail}
use Rattle.lists.proofs.Mapping.{Contains-flat_map_from}
use Rattle.flatten.proofs.NumberLaws.{number_below, one_or_none}

module _ (structures : List Structure) where
  -- Whether a chain of so many references starts at the structure can be decided: the structures to which it leads are tried one by one.
  pub chain_or_not : (n one : ℕ) → StartsChain structures n one ⊎ (StartsChain structures n one → ⊥)
  chain_or_not zero one = inl tt
  chain_or_not (suc n) one = elim (one_or_none (StartsChain structures n) (chain_or_not n) (targets_of structures one)) [
    | inl chain ↦ inl chain
    | inr none ↦ inr (λ (other, there, chain). none other there chain)
  ]

  -- a chain has a chain of each lesser length at its start
  shorter_chain : (n m one : ℕ) → n ≤ m → StartsChain structures m one → StartsChain structures n one
  shorter_chain zero m one less chain = tt
  shorter_chain (suc n) zero one less chain = absurd (omega arith)
  shorter_chain (suc n) (suc m) one less (other, there, rest) = (other, there, shorter_chain n m other (omega arith) rest)

  -- no chain from the structures of the list is longer
  abbrev pub IsLongest : List ℕ → ℕ → Type 0
  IsLongest starts most = (one : ℕ) → Contains starts one → (n : ℕ) → StartsChain structures n one → n ≤ most

  -- a chain is shorter than one that does not start there
  pub is_shorter : (n m one : ℕ) → (StartsChain structures n one → ⊥) → StartsChain structures m one → m < n
  is_shorter n m one none chain = elim (cases_lt m n) [ inl less ↦ less | inr more ↦ absurd (none (shorter_chain n m one more chain)) ]

  -- where chains end from each structure, it cannot be that their lengths have no bound
  pub some_bound : (starts : List ℕ) → ((one : ℕ) → Contains starts one → IsEndless structures one → ⊥) → ((most : ℕ) → IsLongest starts most → ⊥) → ⊥
  some_bound [] ends none = none 0 (λ one there n chain. absurd (Contains-none there))
  some_bound (first ∷ starts) ends none =
      some_bound starts (λ one there. ends one (Contains-tail first starts one there)) (λ most longest. ends first (Contains-head first starts) (λ n. elim (chain_or_not n first) [
        | inl chain ↦ chain
        | inr ended ↦ absurd (none (max n most) (λ one there m chain. elim (Contains-cons_cases first starts one there) [
          | inl e ↦ let h : m < n = is_shorter n m first ended (subst (StartsChain structures m) (sym e) chain) in omega arith
          | inr behind ↦ let h : m ≤ most = longest one behind m chain in omega arith
        ]))
      ]))

  -- where references lead to each structure, and chains have a bound, there is no structure
  pub some_unnamed : (most : ℕ) → IsLongest (numbers_of structures) most → ((one : ℕ) → one < length structures → IsUnnamed structures one → ⊥) → (first : ℕ) → first < length structures → ⊥
  some_unnamed most longest each first there =
      none_starts (suc most) (λ one h chain. let no : suc most ≤ most = longest one h (suc most) chain in omega arith)
    where
      none_starts : (n : ℕ) → ((one : ℕ) → Contains (numbers_of structures) one → StartsChain structures n one → ⊥) → ⊥
      none_starts zero none = each first there (λ named. let from = Contains-flat_map_from (targets_of structures) (numbers_of structures) first named in none from.0 from.1 tt)
      none_starts (suc n) none = none_starts n (λ one h chain. each one (number_below (length structures) one h) (λ named.
          let from = Contains-flat_map_from (targets_of structures) (numbers_of structures) one named in none from.0 from.1 (one, from.2, chain)))
