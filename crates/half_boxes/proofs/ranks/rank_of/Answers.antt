use Rattle.std.proofs.Common.{rules, arith, ℤ, int_lt}
use Rattle.lists.proofs.Words.{ints, slice_get_within}
use Rattle.std.proofs.lemmas.List.Sorted.{IsPartitionPoint-from_clause}
use Rattle.half_boxes.proofs.RankLaws.{parted, found_rank}
use Rattle.half_boxes.proofs.ranks.rank_of.Goals as goal

pub returns : goal.returns
returns c =
    let point = IsPartitionPoint-from_clause (λ (y : ℤ). int_lt y c.args.end) c.args.ends.now c.partition_point.result c.partition_point.ensures.partitioned
    (parted c.args.ends.now c.requires.rising c.args.end) (λ a r q k. search rules) in
    let at = found_rank c.args.ends.now c.requires.rising c.args.end c.partition_point.result point c.requires.found in
    let small = slice_get_within c.args.ends.now c.partition_point.result c.args.end at in
    let few = c.requires.rising.few in
    record { number = c.partition_point.result; is = omega (arith, ints); at = at }
