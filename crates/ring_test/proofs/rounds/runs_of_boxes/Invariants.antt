use Rattle.std.proofs.Common.{take, ℤ, ◌↔◌}
use Rattle.half_boxes.specs.HalfBoxes.{IsInBoxes}
use Rattle.ring_test.specs.Rings.{IsRingNumber, hole_of, ring_of}
use Rattle.ring_test.specs.inside.NumberRuns.{IsInRuns}
use Rattle.ring_test.proofs.rounds.runs_of_boxes.Given as goal

abbrev pub invariant-loop-one : goal.invariant-loop-one
invariant-loop-one l = (k : ℤ) → IsInRuns l.runs.items k
    ↔ (IsRingNumber (hole_of l.hole) k × IsInBoxes (take l.one-index l.boxes) (ring_of (hole_of l.hole) k))
