use Rattle.std.proofs.Common.{take}
use Rattle.ring_test.specs.Rings.{hole_of}
use Rattle.ring_test.proofs.HoleLaws.{HasAll}
use Rattle.ring_test.proofs.answers.has_all.Given as goal

abbrev pub invariant-loop-rect : goal.invariant-loop-rect
invariant-loop-rect l = HasAll (hole_of l.hole) (take l.rect-index l.rects)
