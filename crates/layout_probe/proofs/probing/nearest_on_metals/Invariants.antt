use Rattle.std.proofs.Common.{take}
use Rattle.layout_probe.specs.inside.NumberedNearest.{AreFoundFor}
use Rattle.layout_probe.proofs.probing.nearest_on_metals.Given as goal

abbrev pub invariant-loop-number : goal.invariant-loop-number
invariant-loop-number l = AreFoundFor (take l.number l.metals) (take l.number l.pieces) l.cell l.told.items
