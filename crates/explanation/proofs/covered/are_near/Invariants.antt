use Rattle.std.proofs.Common.{All, take}
use Rattle.geo_core.specs.Plane.{IsInLayout}
use Rattle.explanation.proofs.covered.are_near.Given as goal

abbrev pub invariant-loop-rect : goal.invariant-loop-rect
invariant-loop-rect l = All IsInLayout (take l.rect-index l.rects)
