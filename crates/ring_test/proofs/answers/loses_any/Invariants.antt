use Rattle.std.proofs.Common.{take}
use Rattle.ring_test.specs.Rings.{hole_of}
use Rattle.ring_test.proofs.HoleLaws.{LosesNone}
use Rattle.ring_test.proofs.answers.loses_any.Given as goal

abbrev pub invariant-loop-spot : goal.invariant-loop-spot
invariant-loop-spot l = LosesNone (hole_of l.hole) (take l.spot-index l.spots)
