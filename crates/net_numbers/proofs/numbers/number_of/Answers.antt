use Rattle.std.proofs.Common.{rules}
use Rattle.net_numbers.proofs.NumberLaws.{label_found, number_found}
use Rattle.net_numbers.proofs.numbers.number_of.Goals as goal

pub bounds-corners-place : goal.bounds-corners-place
bounds-corners-place c =
    (label_found c.args.corners.now c.args.label c.partition_point-place.result c.requires.by_label c.requires.known c.partition_point-place.ensures.bound
    c.partition_point-place.ensures.partitioned (λ a r q k. search rules)).0

pub place_of-requires-clause-listed : goal.place_of-requires-clause-listed
place_of-requires-clause-listed c =
    c.requires.listed c.partition_point-place.result _
    (label_found c.args.corners.now c.args.label c.partition_point-place.result c.requires.by_label c.requires.known c.partition_point-place.ensures.bound
    c.partition_point-place.ensures.partitioned (λ a r q k. search rules)).0

pub returns : goal.returns
returns c =
    number_found c.args.corners.now c.args.cells.now c.args.label c.partition_point-place.result c.place_of.result _
    (label_found c.args.corners.now c.args.label c.partition_point-place.result c.requires.by_label c.requires.known c.partition_point-place.ensures.bound
    c.partition_point-place.ensures.partitioned (λ a r q k. search rules)) c.place_of.ensures
