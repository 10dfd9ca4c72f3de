use Rattle.std.proofs.Common.{◌≡◌}
use Rattle.std.specs.Option.{IfSome}
use Rattle.net_pairs.specs.inside.Whole.{AreOnesTo, HasWhole}
use Rattle.net_pairs.proofs.whole.ones.Given as goal

abbrev pub invariant-loop-zone : goal.invariant-loop-zone
invariant-loop-zone l = record {
  ones : AreOnesTo l.part l.zones l.zone-index l.kept.items;
  found : IfSome l.found (HasWhole l.part l.kept.items);
}
