use Rattle.std.proofs.Common.{take}
use Rattle.open_grid.specs.inside.Wires.{AreEndsAmong, BoundEnds}
use Rattle.open_grid.proofs.wires.tightest.Given as goal

abbrev pub invariant-loop-one : goal.invariant-loop-one
invariant-loop-one l = record {
  among : AreEndsAmong l.axis l.boxes l.extent.low l.extent.high;
  bounds : BoundEnds l.axis (take l.one-index l.boxes) l.extent.low l.extent.high;
}
