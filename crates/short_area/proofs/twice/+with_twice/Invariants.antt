use Rattle.std.proofs.Common.{length}
use Rattle.fault_model.specs.FaultNames.{cells_of}
use Rattle.short_area.proofs.twice.+with_twice.Given as goal

abbrev pub decreases-with_twice : goal.decreases-with_twice
decreases-with_twice l = length (cells_of l.part)
