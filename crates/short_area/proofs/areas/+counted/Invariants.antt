use Rattle.std.proofs.Common.{length}
use Rattle.fault_model.specs.FaultNames.{cells_of}
use Rattle.short_area.proofs.areas.+counted.Given as goal

abbrev pub decreases-counted : goal.decreases-counted
decreases-counted l = length (cells_of l.window)
