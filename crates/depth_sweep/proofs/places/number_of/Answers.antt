use Rattle.std.proofs.Common.{rules, ℤ, int_lt}
use Rattle.std.proofs.lemmas.List.Sorted.{IsPartitionPoint-from_clause}
use Rattle.depth_sweep.proofs.PlaceLaws.{parted, found_number}
use Rattle.depth_sweep.proofs.places.number_of.Goals as goal

pub returns-clause-within : goal.returns-clause-within
returns-clause-within c =
    let point = IsPartitionPoint-from_clause (λ (y : ℤ). int_lt y c.args.x) c.args.places.now c.partition_point.result c.partition_point.ensures.partitioned
    (parted c.args.places.now c.requires.rising c.args.x) (λ a r q k. search rules) in
    (found_number c.args.places.now c.requires.rising c.args.x c.partition_point.result point c.requires.found).0

pub returns-clause-place : goal.returns-clause-place
returns-clause-place c =
    let point = IsPartitionPoint-from_clause (λ (y : ℤ). int_lt y c.args.x) c.args.places.now c.partition_point.result c.partition_point.ensures.partitioned
    (parted c.args.places.now c.requires.rising c.args.x) (λ a r q k. search rules) in
    (found_number c.args.places.now c.requires.rising c.args.x c.partition_point.result point c.requires.found).1
