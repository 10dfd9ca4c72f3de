use Rattle.std.proofs.Common.{take}
use Rattle.lists.proofs.Words.{AllZip}
use Rattle.critical_areas.specs.inside.IslandsApart.{AreApart}
use Rattle.critical_areas.proofs.apart.all_apart.Given as goal

abbrev pub invariant-loop-islands : goal.invariant-loop-islands
invariant-loop-islands l = AllZip AreApart (take l.islands-index l.metals) l.apart.items
