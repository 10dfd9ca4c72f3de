use Rattle.std.proofs.Common.{take, ◌∷◌}
use Rattle.geo_core.specs.Plane.{IsInUnion}
use Rattle.fault_model.specs.FaultNames.{IsBoundsOf}
use Rattle.via_clusters.proofs.boxes.bounds.Given as goal

abbrev pub invariant-loop-rect : goal.invariant-loop-rect
invariant-loop-rect l = IsBoundsOf (IsInUnion (l.initial.bounds ∷ take l.rect-index l.rects)) l.bounds
