use Rattle.std.proofs.Common.{◌-◌, ◌≡◌, ◌∙◌, drop, leb, length, ltb, ap, subst, sym, take, rules, All, filter, ◌==◌}
use Rattle.lists.proofs.Words.{take_rest}
use Rattle.std.proofs.lemmas.List.Sorted.{IsNonDecreasingBy-drop, IsPartitionPoint-from_clause, IsPartitionedBy-leb, IsPartitionedBy-ltb}
use Rattle.net_extract.specs.declared.pieces.Piece.{Piece}
use Rattle.net_extract.proofs.GroupLaws.{part_has, part_alone}
use Rattle.net_extract.proofs.grouped.part_of.Goals as goal

pub returns : goal.returns
returns c =
    let sorted = c.args.sorted.now in
    let island = c.args.island in
    let first = c.partition_point-first.result in
    let count = c.partition_point-count.result in
    let bound = c.partition_point-first.ensures.bound in
    let island_of = λ (piece : Piece). piece.island in
    let rest = drop first sorted in
    let whole : take (length sorted - first) rest ≡ rest = take_rest sorted first in
    let less = IsPartitionPoint-from_clause (λ (piece : Piece). ltb piece.island island) sorted first c.partition_point-first.ensures.partitioned
    (IsPartitionedBy-ltb island_of sorted island c.requires) (λ a r q k. search rules) in
    let more = IsPartitionPoint-from_clause (λ (piece : Piece). leb piece.island island) rest count (rw whole at c.partition_point-count.ensures.partitioned)
    (IsPartitionedBy-leb island_of rest island (IsNonDecreasingBy-drop island_of first sorted c.requires)) (λ a r q k. search rules) in
    record {
      all = ap (λ xs. filter (λ (piece : Piece). piece.island == island) (take count xs)) whole ∙ part_has island_of island sorted first count bound less more;
      alone = subst (λ xs. All (λ (piece : Piece). piece.island ≡ island) (take count xs)) (sym whole) (part_alone island_of island sorted first count bound less more);
    }
