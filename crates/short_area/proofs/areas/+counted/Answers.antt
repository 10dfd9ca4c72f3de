use Rattle.std.proofs.Common.{arith}
use Rattle.union_area.proofs.laws.PartLaws.{fewer_cells}
use Rattle.short_area.proofs.Counting.{count_of_parts}
use Rattle.short_area.proofs.areas.+counted.Goals as goal

pub counted-requires : goal.counted-requires
counted-requires t c = let fewer = fewer_cells c.args.window _ _ c.parts_at.ensures.parts in omega (arith, fewer.0)

pub counted-requires-in-Halve : goal.counted-requires-in-Halve
counted-requires-in-Halve t c = let fewer = fewer_cells c.args.window _ _ c.parts_at.ensures.parts in omega (arith, fewer.1)

pub returns-in_ok-other-in-Halve : goal.returns-in_ok-other-in-Halve
returns-in_ok-other-in-Halve t c =
    count_of_parts c.args.zones.items c.in_ok-before-in-Halve.before.items c.in_ok-before-in-Halve.behind.items c.args.window _ _ _ _ c.parts_at.ensures.parts
    c.in_ok-before-in-Halve.ensures.first c.in_ok-before-in-Halve.ensures.second c.in_ok-one-in-Halve.ensures c.in_ok-other-in-Halve.ensures
