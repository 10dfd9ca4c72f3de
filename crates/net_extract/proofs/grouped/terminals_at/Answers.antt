use Rattle.std.proofs.Common.{◌-◌, ◌≡◌, ◌∙◌, drop, leb, length, ltb, ap, take, rules}
use Rattle.lists.proofs.Words.{take_rest}
use Rattle.std.proofs.lemmas.List.Sorted.{IsNonDecreasingBy-drop, IsPartitionPoint-from_clause, IsPartitionedBy-leb, IsPartitionedBy-ltb}
use Rattle.net_extract.specs.declared.metal_terminals.Standing.{Standing}
use Rattle.net_extract.proofs.GroupLaws.{part_is}
use Rattle.net_extract.proofs.grouped.terminals_at.Goals as goal

pub returns : goal.returns
returns c =
    let sorted = c.args.sorted.now in
    let island = c.args.island in
    let first = c.partition_point-first.result in
    let count = c.partition_point-count.result in
    let island_of = λ (standing : Standing). standing.island in
    let rest = drop first sorted in
    let whole : take (length sorted - first) rest ≡ rest = take_rest sorted first in
    let less = IsPartitionPoint-from_clause (λ (standing : Standing). ltb standing.island island) sorted first c.partition_point-first.ensures.partitioned
    (IsPartitionedBy-ltb island_of sorted island c.requires) (λ a r q k. search rules) in
    let more = IsPartitionPoint-from_clause (λ (standing : Standing). leb standing.island island) rest count (rw whole at c.partition_point-count.ensures.partitioned)
    (IsPartitionedBy-leb island_of rest island (IsNonDecreasingBy-drop island_of first sorted c.requires)) (λ a r q k. search rules) in
    ap (take count) whole ∙ part_is island_of island sorted first count c.partition_point-first.ensures.bound less more
