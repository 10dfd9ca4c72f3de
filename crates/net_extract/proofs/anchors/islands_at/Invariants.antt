use Rattle.net_extract.specs.inside.Anchoring.{AreFound}
use Rattle.net_extract.proofs.anchors.islands_at.Given as goal

abbrev pub invariant-loop-metal : goal.invariant-loop-metal
invariant-loop-metal l = AreFound l.terminals l.islands l.metal l.found.items
