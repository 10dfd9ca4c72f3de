use Rattle.std.proofs.Common.{take}
use Rattle.fault_model.specs.FaultNames.{cells_of_window}
use Rattle.layout_pairs.specs.inside.NumberedPairs.{AreMadeFor}
use Rattle.layout_pairs.proofs.pairs.pairs_of_metals.Given as goal

abbrev pub invariant-loop-number : goal.invariant-loop-number
invariant-loop-number l = AreMadeFor (take l.number l.metals) (take l.number l.pieces) l.side (cells_of_window l.window) l.made.items
