use Rattle.std.proofs.Common.{IfSome, take}
use Rattle.union_area.specs.WindowParts.{IsBetween}
use Rattle.short_area.specs.inside.AreaSteps.{AreNoNearer}
use Rattle.short_area.proofs.places.central_edge.Given as goal

abbrev pub invariant-loop-zone : goal.invariant-loop-zone
invariant-loop-zone l = record {
  within : IfSome l.nearest (IsBetween l.places.low l.places.high);
  central : AreNoNearer (take l.zone-index l.zones) l.axis l.places.low l.places.high l.nearest;
}
