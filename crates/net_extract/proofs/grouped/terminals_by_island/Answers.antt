use Rattle.std.proofs.Common.{refl, rules}
use Rattle.std.proofs.lemmas.List.Sorted.{IsNonDecreasingBy-from_sort_by_key}
use Rattle.net_extract.specs.declared.metal_terminals.MetalTerminal.TheVariants.{Group}
use Rattle.net_extract.specs.declared.metal_terminals.Standing.{Standing}
use Rattle.net_extract.proofs.GroupLaws.{kept_by_sort}
use Rattle.net_extract.proofs.grouped.terminals_by_island.Goals as goal

pub returns : goal.returns
returns c = record {
  rising = IsNonDecreasingBy-from_sort_by_key (λ (standing : Standing). standing.island) _ c.in_ok-sort_by_key.ensures.sorted (λ a r q k. search rules);
  kept = kept_by_sort (λ (standing : Standing). standing.island) (λ island. record { island = island; terminal = Group 0 0 }) (λ island. refl) c.args.terminals.items _
      c.in_ok-sort_by_key.ensures.stable (λ a r q k. search rules);
}
