use Rattle.std.proofs.Common.{◌≡◌, take}
use Rattle.critical_areas.proofs.IslandLaws.{labels}
use Rattle.critical_areas.proofs.apart.numbers_of.Given as goal

abbrev pub invariant-loop-hull : goal.invariant-loop-hull
invariant-loop-hull l = l.numbers.items ≡ labels (take l.hull-index l.hulls)
