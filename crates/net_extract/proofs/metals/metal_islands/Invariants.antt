use Rattle.std.proofs.Common.{◌≤◌, ◌*◌, ◌^◌}
use Rattle.net_extract.specs.inside.Numbering.{AreIslandsOf}
use Rattle.net_extract.proofs.metals.metal_islands.Given as goal

abbrev pub invariant-loop-metal : goal.invariant-loop-metal
invariant-loop-metal l = record {
  islands : AreIslandsOf l.lists l.metal l.count l.islands.items;
  few : l.count ≤ l.metal * 2 ^ 59;
}
