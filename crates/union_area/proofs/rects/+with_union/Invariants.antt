use Rattle.std.proofs.Common.{length}
use Rattle.fault_model.specs.FaultNames.{cells_of}
use Rattle.union_area.proofs.rects.+with_union.Given as goal

abbrev pub decreases-with_union : goal.decreases-with_union
decreases-with_union l = length (cells_of l.window)
