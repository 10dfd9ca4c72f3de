use Rattle.std.proofs.Common.{length}
use Rattle.fault_model.specs.FaultNames.{cells_of}
use Rattle.union_area.proofs.areas.+union_area.Given as goal

abbrev pub decreases-union_area : goal.decreases-union_area
decreases-union_area l = length (cells_of l.window)
