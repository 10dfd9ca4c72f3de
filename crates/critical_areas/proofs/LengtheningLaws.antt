-- edges that are doubled
use Rattle.std.proofs.Common.{ℕ, suc, ◌+◌, ◌*◌, ◌^◌, ◌≡◌, sym, ap, ◌∙◌, arith}
use Rattle.std.proofs.Math.Nat.{mul_assoc, pow-suc}
use Rattle.std.proofs.lemmas.Nat.{pow-add}
use Rattle.critical_areas.specs.inside.Lengthening.{IsDoubled}

twice : (n k : ℕ) → n * 2 * 2 ^ k ≡ n * 2 ^ suc k
twice n k = let e = pow-suc 2 k in rw e (omega arith)

-- once more than the rest
pub doubled_once_more : (given edge : ℕ) → IsDoubled (given * 2) edge → IsDoubled given edge
doubled_once_more given edge rest = record { doublings = suc rest.doublings; edge_is = rest.edge_is ∙ twice given rest.doublings }

-- first some times, and then some times more
pub doubled_on : (given between edge first more : ℕ) → between ≡ given * 2 ^ first → edge ≡ between * 2 ^ more →
    IsDoubled given edge
doubled_on given between edge first more is then = record {
  doublings = first + more;
  edge_is =
      let both = sym (pow-add 2 first more) in
      then ∙ ap (λ n. n * 2 ^ more) is ∙ mul_assoc given (2 ^ first) (2 ^ more) ∙ ap (λ n. given * n) both;
}
