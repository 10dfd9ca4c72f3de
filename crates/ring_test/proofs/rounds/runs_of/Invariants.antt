use Rattle.std.proofs.Common.{take, ℤ, ◌↔◌}
use Rattle.geo_core.specs.Unions.{IsInUnion}
use Rattle.fault_model.specs.FaultNames.{IsOn}
use Rattle.ring_test.specs.Rings.{IsRingNumber, hole_of, ring_of}
use Rattle.ring_test.specs.inside.NumberRuns.{IsInRuns}
use Rattle.ring_test.proofs.rounds.runs_of.Given as goal

abbrev pub invariant-loop-piece : goal.invariant-loop-piece
invariant-loop-piece l = (k : ℤ) → IsInRuns l.runs.items k
    ↔ (IsRingNumber (hole_of l.hole) k × IsOn (IsInUnion (take l.piece-index l.pieces)) (ring_of (hole_of l.hole) k))
