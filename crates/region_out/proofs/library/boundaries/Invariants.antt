use Rattle.std.proofs.Common.{◌≡◌, map, take}
use Rattle.region_out.specs.RegionLibraries.{region_element}
use Rattle.region_out.proofs.library.boundaries.Given as goal

abbrev pub invariant-loop-rect : goal.invariant-loop-rect
invariant-loop-rect l = l.elements.items ≡ map region_element (take l.rect-index l.rects)
