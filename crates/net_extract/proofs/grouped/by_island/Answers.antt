use Rattle.std.proofs.Common.{refl, rules}
use Rattle.std.proofs.lemmas.List.Sorted.{IsNonDecreasingBy-from_sort_by_key}
use Rattle.net_extract.specs.declared.pieces.Piece.{Piece}
use Rattle.net_extract.proofs.GroupLaws.{kept_by_sort}
use Rattle.net_extract.proofs.laws.UnitLaws.{unit}
use Rattle.net_extract.proofs.grouped.by_island.Goals as goal

pub returns : goal.returns
returns c = record {
  rising = IsNonDecreasingBy-from_sort_by_key (λ (piece : Piece). piece.island) _ c.in_ok-sort_by_key.ensures.sorted (λ a r q k. search rules);
  kept = kept_by_sort (λ (piece : Piece). piece.island) (λ island. record { rect = unit; island = island; net = 0 }) (λ island. refl) c.args.pieces.now _
      (rw c.in_ok-sorted.ensures.items at c.in_ok-sort_by_key.ensures.stable) (λ a r q k. search rules);
}
