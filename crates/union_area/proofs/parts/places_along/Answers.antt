use Rattle.std.proofs.Common.{sym, arith}
use Rattle.lists.proofs.Words.{ints}
use Rattle.geo_core.specs.Plane.{low_along, high_along}
use Rattle.fault_model.proofs.RangeLaws.{length-range}
use Rattle.union_area.proofs.parts.places_along.Goals as goal

pub returns-clause-count : goal.returns-clause-count
returns-clause-count c =
    let some = c.along-places.result.within.some in
    sym (length-range (low_along c.args.axis c.args.window) (high_along c.args.axis c.args.window) c.from.result (omega (arith, ints)))
