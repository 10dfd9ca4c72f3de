use Rattle.std.proofs.Common.{take}
use Rattle.geo_core.specs.Unions.{IsInUnion}
use Rattle.geo_core.specs.declared.plane.Half.{Half}
use Rattle.fault_model.specs.FaultNames.{IsOn}
use Rattle.ring_test.specs.Rings.{IsInHole, hole_of}
use Rattle.ring_test.proofs.answers.reaches_into.Given as goal

abbrev pub invariant-loop-piece : goal.invariant-loop-piece
invariant-loop-piece l = (h : Half) → IsOn (IsInUnion (take l.piece-index l.pieces)) h → IsInHole (hole_of l.hole) h → ⊥
