-- islands on which terminals stand
use Rattle.std.proofs.Common.{ℕ, ◌≡◌, sym, subst, List, eqb, nat_cmp, arith, map, Contains}
use Rattle.lists.proofs.Words.{dedup, IsPermutation, IsSorted, Contains-permutation}
use Rattle.std.proofs.lemmas.List.Kept.{AllPairs-from_increasing, Contains-dedup_nat}
use Rattle.std.proofs.lemmas.Map.Keys.{IsStrictlyIncreasing-dedup}
use Rattle.lists.specs.Differing.{AreDifferent}
use Rattle.lists.proofs.Mapping.{Contains-map}
use Rattle.net_extract.specs.inside.Anchoring.{AreDifferentCarried}
use Rattle.net_extract.specs.declared.metal_terminals.Standing.{Standing}

-- sorted, and each once
pub sorted_once : (terminals : List Standing) (numbers sorted once : List ℕ) → numbers ≡ map (λ (standing : Standing). standing.island) terminals → IsPermutation numbers sorted
    → IsSorted nat_cmp sorted → once ≡ dedup eqb sorted → AreDifferentCarried terminals once
sorted_once terminals numbers sorted once are moved up e = record {
  different = subst AreDifferent (sym e) (λ i j d before small same.
      let less = AllPairs-from_increasing (dedup eqb sorted) (IsStrictlyIncreasing-dedup sorted up) i j d before small in
      omega arith);
  all = λ standing among.
      let listed = subst (λ xs. Contains xs standing.island) (sym are) (Contains-map (λ (s : Standing). s.island) terminals standing among) in
      subst (λ xs. Contains xs standing.island) (sym e) (Contains-dedup_nat sorted standing.island (Contains-permutation numbers sorted standing.island moved listed));
}
