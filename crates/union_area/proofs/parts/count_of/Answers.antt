use Rattle.std.proofs.Common.{sym}
use Rattle.union_area.proofs.laws.PartLaws.{length-cells_of}
use Rattle.union_area.proofs.parts.count_of.Goals as goal

pub returns-clause-count : goal.returns-clause-count
returns-clause-count c = rw (c.places_along.ensures.count, c.places_along-2.ensures.count) (sym (length-cells_of c.args.window))
